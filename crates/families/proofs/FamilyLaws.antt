-- How large each is at most, and that the size of an id tells its form.
-- Assumes nothing.
use Prim.Native.Nat.{◌≤◌}
use mathlib.Core.Path.{◌≡◌, refl}
use native.Mathlib.Omega.{arith}
use Rattle.families.specs.Family.{max_of, id_size, mark_of, guess_mark}
use Rattle.families.specs.declared.Afi.{Afi}
use Rattle.families.specs.declared.Afi.TheVariants.{Ipv4, Ipv6}
use Rattle.families.specs.declared.Form.{Form}
use Rattle.families.specs.declared.Form.TheVariants.{Plain, Tagged}
use Rattle.families.specs.declared.AddPath.{AddPath}
use Rattle.families.specs.declared.AddPath.TheVariants.{On, Off, Guess}

pub max_small : (afi : Afi) → max_of afi ≤ 128
max_small Ipv4 = omega arith
max_small Ipv6 = omega arith

pub id_small : (form : Form) → id_size form ≤ 4
id_small Plain = omega arith
id_small Tagged = omega arith

pub id_one : (f g : Form) → id_size f ≡ id_size g → f ≡ g
id_one Plain Plain e = refl
id_one Plain Tagged e = absurd (omega (arith, e))
id_one Tagged Plain e = absurd (omega (arith, e))
id_one Tagged Tagged e = refl

pub mark_small : (form : Form) → mark_of form ≤ 256
mark_small Plain = omega arith
mark_small Tagged = omega arith

pub guess_mark_small : (mode : AddPath) (form : Form) → guess_mark mode form ≤ 512
guess_mark_small On form = omega arith
guess_mark_small Off form = omega arith
guess_mark_small Guess Plain = omega arith
guess_mark_small Guess Tagged = omega arith
