use Rattle.std.proofs.Common.{◌≡◌, ◌≤◌, length}
use Rattle.lister.proofs.list.Given as goal

abbrev pub invariant-loop : goal.invariant-loop
invariant-loop g l = (l.at ≤ l.have) × (l.have ≤ length l.input) × (length l.input ≡ length l.initial.input) × (length l.out ≡ length l.initial.out)
