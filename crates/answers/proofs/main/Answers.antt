use mathlib.Core.Path.{sym}
use Prim.Native.Nat.{ℕ}
use lib.ListN.{length-replicate}
use Rattle.answers.proofs.main.Goals as goal

pub slice_bounds-run_with_places-end : goal.slice_bounds-run_with_places-end
slice_bounds-run_with_places-end c = sym (length-replicate {A = ℕ} 1310720 0)

pub slice_bounds-run_with_places-end-2 : goal.slice_bounds-run_with_places-end-2
slice_bounds-run_with_places-end-2 c = sym (length-replicate {A = ℕ} 65536 0)
