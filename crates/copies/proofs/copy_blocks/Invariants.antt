use Rattle.std.proofs.Common.{◌≡◌, ◌*◌, take}
use Rattle.copies.proofs.copy_blocks.Given as goal

abbrev pub invariant-loop-i : goal.invariant-loop-i
invariant-loop-i l = take (8 * l.i) l.out ≡ take (8 * l.i) l.src
