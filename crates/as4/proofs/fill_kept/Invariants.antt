use Prim.Native.Nat.{◌-◌}
use lib.ListN.{length}
use Rattle.as4.proofs.FillTurn.{FilledTo}
use Rattle.as4.proofs.fill_kept.Given as goal

abbrev pub invariant-loop-at : goal.invariant-loop-at
invariant-loop-at l = FilledTo l.as4_path l.initial.pairs l.initial.numbers l.at l.pair l.to l.pairs l.numbers

abbrev pub decreases-loop-at : goal.decreases-loop-at
decreases-loop-at l = length l.as4_path - l.at
