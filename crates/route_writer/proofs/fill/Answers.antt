use native.Mathlib.Omega.{arith}
use Prim.Native.Nat.{ℕ, ◌+◌, ◌<◌}
use mathlib.Core.Path.{◌≡◌}
use mathlib.Core.List.{List}
use lib.ListN.{length}
use Rattle.wire.specs.Store.{laid}
use Rattle.families.specs.Family.{max_of}
use Rattle.families.specs.declared.Form.{Form}
use Rattle.route_bytes.specs.Encode.{row_bytes}
use Rattle.families.proofs.FamilyLaws.{max_small}
use Rattle.route_writer.proofs.Ahead.{ahead_long, ahead_room, ahead_row, ahead_next, ahead_done}
use Rattle.route_writer.specs.Private.{row_at, Ahead}
use Rattle.route_writer.proofs.fill.Goals as goal

-- after a row
next : (max : ℕ) (form : Form) (rows d₀ : List ℕ) (at to n : ℕ) (d d' : List ℕ) → at < length rows → n ≡ length (row_bytes form (row_at rows at)) → d' ≡ laid d to (row_bytes form (row_at rows at))
    → Ahead max form rows d₀ at to d → Ahead max form rows d₀ (at + 6) (to + n) d'
next max form rows d₀ at to n d d' lt size out h = rw (size, out) (ahead_next max form rows d₀ at to d h lt)

pub fill_ahead-r-requires : goal.fill_ahead-r-requires
fill_ahead-r-requires c = c.requires

pub loop-at-init : goal.loop-at-init
loop-at-init c = λ max d₀ h. h

pub put_row_by_form-n-requires : goal.put_row_by_form-n-requires
put_row_by_form-n-requires c =
    let a = c.args in
    let here : Ahead (max_of a.afi) a.form a.rows.now a.out.now c.loop-at.at c.loop-at.to c.loop-at.out = c.loop-at.invariant (max_of a.afi) a.out.now c.fill_ahead-r.ensures in
    let r = ahead_row (max_of a.afi) a.form a.rows.now a.out.now c.loop-at.at c.loop-at.to c.loop-at.out here c.loop-at-test.true in
    let e = ahead_room (max_of a.afi) a.form a.rows.now a.out.now c.loop-at.at c.loop-at.to c.loop-at.out here in
    record {
      at_in_bounds = (r.0, omega (arith, r.2, e.1));
      form_bound = (r.1.mark, omega (arith, r.1.fits, max_small a.afi));
    }

pub overflow_add-at : goal.overflow_add-at
overflow_add-at c =
    let a = c.args in
    let here : Ahead (max_of a.afi) a.form a.rows.now a.out.now c.loop-at.at c.loop-at.to c.loop-at.out = c.loop-at.invariant (max_of a.afi) a.out.now c.fill_ahead-r.ensures in
    let e = c.put_row_by_form-n.ensures in
    let again = next (max_of a.afi) a.form a.rows.now a.out.now c.loop-at.at c.loop-at.to c.put_row_by_form-n.result c.loop-at.out c.put_row_by_form-n.new.out c.loop-at-test.true e.size e.out here in
    omega (arith, again.filled.within)

pub overflow_add-to : goal.overflow_add-to
overflow_add-to c =
    let a = c.args in
    let here : Ahead (max_of a.afi) a.form a.rows.now a.out.now c.loop-at.at c.loop-at.to c.loop-at.out = c.loop-at.invariant (max_of a.afi) a.out.now c.fill_ahead-r.ensures in
    let e = c.put_row_by_form-n.ensures in
    let again = next (max_of a.afi) a.form a.rows.now a.out.now c.loop-at.at c.loop-at.to c.put_row_by_form-n.result c.loop-at.out c.put_row_by_form-n.new.out c.loop-at-test.true e.size e.out here in
    omega (arith, again.filled.room)

pub loop-at-smaller : goal.loop-at-smaller
loop-at-smaller c =
    let a = c.args in
    let here : Ahead (max_of a.afi) a.form a.rows.now a.out.now c.loop-at.at c.loop-at.to c.loop-at.out = c.loop-at.invariant (max_of a.afi) a.out.now c.fill_ahead-r.ensures in
    let e = c.put_row_by_form-n.ensures in
    let again = next (max_of a.afi) a.form a.rows.now a.out.now c.loop-at.at c.loop-at.to c.put_row_by_form-n.result c.loop-at.out c.put_row_by_form-n.new.out c.loop-at-test.true e.size e.out here in
    omega (arith, again.filled.within)

pub loop-at-preserved : goal.loop-at-preserved
loop-at-preserved c =
    let a = c.args in
    let e = c.put_row_by_form-n.ensures in
    λ max d₀ h. next max a.form a.rows.now d₀ c.loop-at.at c.loop-at.to c.put_row_by_form-n.result c.loop-at.out c.put_row_by_form-n.new.out c.loop-at-test.true e.size e.out (c.loop-at.invariant max d₀ h)

pub shape_of-out : goal.shape_of-out
shape_of-out c =
    let a = c.args in
    let here : Ahead (max_of a.afi) a.form a.rows.now a.out.now c.loop-at.at c.loop-at.to c.loop-at.out = c.loop-at.invariant (max_of a.afi) a.out.now c.fill_ahead-r.ensures in
    ahead_long (max_of a.afi) a.form a.rows.now a.out.now c.loop-at.at c.loop-at.to c.loop-at.out here

pub returns : goal.returns
returns c =
    let a = c.args in
    let here : Ahead (max_of a.afi) a.form a.rows.now a.out.now c.loop-at.at c.loop-at.to c.loop-at.out = c.loop-at.invariant (max_of a.afi) a.out.now c.fill_ahead-r.ensures in
    ahead_done (max_of a.afi) a.form a.rows.now a.out.now c.loop-at.at c.loop-at.to c.loop-at.out here c.loop-at-test.false
