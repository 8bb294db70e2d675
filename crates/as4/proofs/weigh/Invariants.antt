use Prim.Native.Nat.{◌-◌}
use lib.ListN.{length}
use Rattle.asns.specs.Asn.{width_of}
use Rattle.as4.proofs.WeighTurn.{Weighing}
use Rattle.as4.proofs.weigh.Given as goal

abbrev pub invariant-loop-at : goal.invariant-loop-at
invariant-loop-at l = Weighing (width_of l.width) l.value l.at l.weight

abbrev pub decreases-loop-at : goal.decreases-loop-at
decreases-loop-at l = length l.value - l.at
