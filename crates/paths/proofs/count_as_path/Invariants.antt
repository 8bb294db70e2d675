use Rattle.paths.proofs.PathTurn.{CountedPath}
use Prim.Native.Nat.{◌-◌}
use lib.ListN.{length}
use Rattle.asns.specs.Asn.{width_of}
use Rattle.paths.specs.Segment.{rule_of}
use Rattle.paths.proofs.count_as_path.Given as goal

abbrev pub invariant-loop-at : goal.invariant-loop-at
invariant-loop-at l = CountedPath (rule_of l.rule) (width_of l.width) l.value l.at l.segments l.numbers

abbrev pub decreases-loop-at : goal.decreases-loop-at
decreases-loop-at l = length l.value - l.at
