use Prim.Native.Nat.{◌*◌}
use Rattle.route_marks.proofs.ClearLaws.{Clearing}
use Rattle.route_marks.proofs.clear_guessed.Given as goal

abbrev pub invariant-loop-row : goal.invariant-loop-row
invariant-loop-row l = Clearing l.initial.store l.store (l.row * 6)
