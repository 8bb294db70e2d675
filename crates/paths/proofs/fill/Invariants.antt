use Prim.Native.Nat.{◌-◌}
use lib.ListN.{length}
use Rattle.asns.specs.Asn.{width_of}
use Rattle.paths.specs.Segment.{known_type}
use Rattle.paths.proofs.PathTurn.{AheadPath}
use Rattle.paths.proofs.fill.Given as goal

abbrev pub invariant-loop-at : goal.invariant-loop-at
invariant-loop-at l = AheadPath known_type (width_of l.width) l.value l.initial.pairs l.initial.numbers l.total l.at l.pair l.to l.pairs l.numbers

abbrev pub decreases-loop-at : goal.decreases-loop-at
decreases-loop-at l = length l.value - l.at
