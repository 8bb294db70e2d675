use Prim.Native.Nat.{◌-◌}
use lib.ListN.{length}
use Rattle.asns.specs.Asn.{width_of}
use Rattle.paths.specs.Segment.{rule_of}
use Rattle.path_writer.proofs.WriteTurn.{Judged}
use Rattle.path_writer.proofs.first_fault.Given as goal

abbrev pub invariant-loop-at : goal.invariant-loop-at
invariant-loop-at l = Judged (rule_of l.rule) (width_of l.width) l.pairs l.numbers l.at l.from

abbrev pub decreases-loop-at : goal.decreases-loop-at
decreases-loop-at l = length l.pairs - l.at
