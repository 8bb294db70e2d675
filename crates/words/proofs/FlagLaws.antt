-- A flag as a value.
-- Assumes nothing.
use Prim.Native.Nat.{◌≤◌}
use mathlib.Core.Path.{◌≡◌, refl}
use mathlib.Core.Bool.{Bool, true, false}
use native.Mathlib.Omega.{arith}
use mir.Val.{bool_byte}
use Rattle.wire.specs.Answer.{flag}

-- a flag as code has it
pub flag_byte : (t : Bool) → bool_byte t ≡ flag t
flag_byte true = refl
flag_byte false = refl

pub flag_small : (t : Bool) → flag t ≤ 1
flag_small true = omega arith
flag_small false = omega arith
