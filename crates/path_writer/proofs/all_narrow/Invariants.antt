use Prim.Native.Nat.{◌+◌, ◌≤◌}
use mathlib.Core.Path.{◌≡◌}
use lib.ListN.{length, drop, take}
use Rattle.path_writer.specs.Write.{all_fit}
use Rattle.path_writer.proofs.all_narrow.Given as goal

abbrev pub invariant-loop-left : goal.invariant-loop-left
invariant-loop-left l = (l.at + l.left ≤ length l.numbers) × (all_fit 2 (take l.n (drop l.from l.numbers)) ≡ all_fit 2 (take l.left (drop l.at l.numbers)))

abbrev pub decreases-loop-left : goal.decreases-loop-left
decreases-loop-left l = l.left
