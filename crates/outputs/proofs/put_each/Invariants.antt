use Rattle.std.proofs.Common.{◌≡◌, take}
use Rattle.outputs.proofs.put_each.Given as goal

abbrev pub invariant-loop-i : goal.invariant-loop-i
invariant-loop-i g l = take l.i l.part ≡ take l.i l.bytes
