use mathlib.Core.Path.{◌≡◌, ap, ◌∙◌}
use mathlib.Core.List.{List, ◌++◌}
use Prim.Native.Nat.{ℕ, ◌+◌, ◌-◌, ◌≤◌}
use native.Mathlib.Omega.{arith}
use lib.ListN.{length, take, drop, length-drop}
use lib.Seq.{length-take-le}
use Rattle.std.specs.Prelude.{Ok}
use Rattle.wire.specs.Store.{laid}
use Rattle.wire.proofs.StoreLaws.{laid_part}
use Rattle.families.specs.declared.Form.{Form}
use Rattle.route_bytes.specs.Encode.{bytes_of}
use Rattle.route_bytes.specs.Promises.{measured}
use Rattle.route_bytes.proofs.PromiseLaws.{measured_bytes}
use Rattle.route_writer.specs.Private.{Fillable}
use Rattle.route_writer.proofs.put_rows.Goals as goal

-- the part from `to` on has room, and the rows' bytes at its front are those at `to`
module _ (rows : List ℕ) (max : ℕ) (form : Form) (size : ℕ) (d : List ℕ) (to : ℕ) (sized : measured rows max form ≡ Ok size) (room : to + size ≤ length d) where
  fits : Fillable rows max form (take (length d - to) (drop to d)) size
  fits =
      let k : ℕ = length d - to in
      let m = measured_bytes rows max form size sized in
      let long : length (take k (drop to d)) ≡ k = length-take-le k (drop to d) (omega (arith, length-drop to d)) in
      record { good = m.0; size = m.1; room = omega arith }

  put : (part : List ℕ) → part ≡ laid (take (length d - to) (drop to d)) 0 (bytes_of rows max form)
      → take to d ++ (part ++ drop (length d - to) (drop to d)) ≡ laid d to (bytes_of rows max form)
  put part e =
      ap (λ (l : List ℕ). take to d ++ (l ++ drop (length d - to) (drop to d))) e
      ∙ laid_part d to (bytes_of rows max form) (omega (arith, (measured_bytes rows max form size sized).1))

pub fill-requires : goal.fill-requires
fill-requires c =
    let a = c.args in
    fits a.rows.now 32 a.form a.size a.out.now a.to (rw c.in-Ipv4.is at c.requires.0) c.requires.1

pub fill-requires-in-Ipv6 : goal.fill-requires-in-Ipv6
fill-requires-in-Ipv6 c =
    let a = c.args in
    fits a.rows.now 128 a.form a.size a.out.now a.to (rw c.in-Ipv6.is at c.requires.0) c.requires.1

pub returns-in-Ipv4 : goal.returns-in-Ipv4
returns-in-Ipv4 c =
    let a = c.args in
    rw c.in-Ipv4.is (put a.rows.now 32 a.form a.size a.out.now a.to (rw c.in-Ipv4.is at c.requires.0) c.requires.1 _ c.fill.ensures)

pub returns-in-Ipv6 : goal.returns-in-Ipv6
returns-in-Ipv6 c =
    let a = c.args in
    rw c.in-Ipv6.is (put a.rows.now 128 a.form a.size a.out.now a.to (rw c.in-Ipv6.is at c.requires.0) c.requires.1 _ c.fill-in-Ipv6.ensures)
