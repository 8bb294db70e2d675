use native.Mathlib.Omega.{arith}
use Prim.Native.Nat.{ℕ, ◌+◌, ◌≤◌}
use mathlib.Core.Path.{◌≡◌, sym}
use mathlib.Core.List.{List, [], append-nil}
use lib.ListN.{length}
use Rattle.families.specs.Family.{id_size}
use Rattle.families.specs.declared.Form.{Form}
use Rattle.families.proofs.FamilyLaws.{id_small}
use Rattle.route_bytes.specs.Encode.{four_words, address}
use Rattle.route_writer.proofs.Ahead.{ahead_long, Whole, ahead_start, ahead_room, whole_room, whole_row, whole_turn}
use Rattle.route_writer.specs.Private.{row_at, Ahead, Fillable}
use Rattle.route_writer.proofs.fill_long.Goals as goal

-- the place lies in the output, and an id is small
room : (form : Form) (rows d₀ : List ℕ) (at to k : ℕ) (d : List ℕ) → Ahead 128 form rows d₀ at to d → k ≡ id_size form → (to ≤ length d₀) × (k ≤ 4)
room form rows d₀ at to k d ahead id = (omega (arith, ahead_long 128 form rows d₀ at to d ahead, ahead_room 128 form rows d₀ at to d ahead), omega (arith, id, id_small form))

-- a turn of the loop
turn : (form : Form) (rows d₀ : List ℕ) (total at to k : ℕ) (d : List ℕ) → Fillable rows 128 form d₀ total → Ahead 128 form rows d₀ at to d → k ≡ id_size form → to + (k + 17) ≤ total
    → Whole 128 form rows d₀ total at to d (address (row_at rows at)) k
unfolding four_words
turn form rows d₀ total at to k d fillable ahead id fits =
    record {
      small = omega arith;
      fillable = fillable;
      ahead = ahead;
      tail = [];
      split = sym (append-nil (address (row_at rows at)));
      enough = omega arith;
      id = id;
      fits = omega (arith, fits);
    }

pub loop-to-init : goal.loop-to-init
loop-to-init c = let a = c.args in ahead_start 128 a.form a.rows.now a.out.now a.total c.requires

pub overflow_add-k : goal.overflow_add-k
overflow_add-k c =
    let a = c.args in
    let r = room a.form a.rows.now a.out.now c.loop-to.at c.loop-to.to c.id_size-k.result c.loop-to.out c.loop-to.invariant c.id_size-k.ensures in
    omega (arith, r)

pub overflow_add-to : goal.overflow_add-to
overflow_add-to c =
    let a = c.args in
    let r = room a.form a.rows.now a.out.now c.loop-to.at c.loop-to.to c.id_size-k.result c.loop-to.out c.loop-to.invariant c.id_size-k.ensures in
    omega (arith, r)

pub put_head-len-requires : goal.put_head-len-requires
put_head-len-requires c =
    let a = c.args in
    let t = turn a.form a.rows.now a.out.now a.total c.loop-to.at c.loop-to.to c.id_size-k.result c.loop-to.out c.requires c.loop-to.invariant c.id_size-k.ensures c.loop-to-test.true in
    record {
      at_in_bounds = ((whole_room t).0, omega (arith, (whole_room t).1, t.id));
      form_bound = ((whole_row t).mark, omega (arith, (whole_row t).fits));
    }

pub overflow_add-to-in-loop-to : goal.overflow_add-to-in-loop-to
overflow_add-to-in-loop-to c =
    let a = c.args in
    let t = turn a.form a.rows.now a.out.now a.total c.loop-to.at c.loop-to.to c.id_size-k.result c.loop-to.out c.requires c.loop-to.invariant c.id_size-k.ensures c.loop-to-test.true in
    omega (arith, whole_room t)

pub overflow_add-to-in-loop-to-2 : goal.overflow_add-to-in-loop-to-2
overflow_add-to-in-loop-to-2 c =
    let a = c.args in
    let t = turn a.form a.rows.now a.out.now a.total c.loop-to.at c.loop-to.to c.id_size-k.result c.loop-to.out c.requires c.loop-to.invariant c.id_size-k.ensures c.loop-to-test.true in
    omega (arith, whole_room t)

pub put_words-requires : goal.put_words-requires
put_words-requires c =
    let a = c.args in
    let t = turn a.form a.rows.now a.out.now a.total c.loop-to.at c.loop-to.to c.id_size-k.result c.loop-to.out c.requires c.loop-to.invariant c.id_size-k.ensures c.loop-to-test.true in
    let r = whole_room t in (r.0, omega (arith, r.1))

pub overflow_add-at : goal.overflow_add-at
overflow_add-at c =
    let a = c.args in
    let t = turn a.form a.rows.now a.out.now a.total c.loop-to.at c.loop-to.to c.id_size-k.result c.loop-to.out c.requires c.loop-to.invariant c.id_size-k.ensures c.loop-to-test.true in
    omega (arith, whole_room t)

pub overflow_add-to-in-loop-to-3 : goal.overflow_add-to-in-loop-to-3
overflow_add-to-in-loop-to-3 c =
    let a = c.args in
    let r = room a.form a.rows.now a.out.now c.loop-to.at c.loop-to.to c.id_size-k.result c.loop-to.out c.loop-to.invariant c.id_size-k.ensures in
    omega (arith, r)

pub overflow_add-to-in-loop-to-4 : goal.overflow_add-to-in-loop-to-4
overflow_add-to-in-loop-to-4 c =
    let a = c.args in
    let r = room a.form a.rows.now a.out.now c.loop-to.at c.loop-to.to c.id_size-k.result c.loop-to.out c.loop-to.invariant c.id_size-k.ensures in
    let t = turn a.form a.rows.now a.out.now a.total c.loop-to.at c.loop-to.to c.id_size-k.result c.loop-to.out c.requires c.loop-to.invariant c.id_size-k.ensures c.loop-to-test.true in
    let within : c.octet_count.result ≤ 16 = omega (arith, c.octet_count.ensures, c.put_head-len.ensures.length, (whole_row t).fits) in
    omega (arith, r, within)

pub overflow_add-to-in-loop-to-5 : goal.overflow_add-to-in-loop-to-5
overflow_add-to-in-loop-to-5 c =
    let a = c.args in
    let t = turn a.form a.rows.now a.out.now a.total c.loop-to.at c.loop-to.to c.id_size-k.result c.loop-to.out c.requires c.loop-to.invariant c.id_size-k.ensures c.loop-to-test.true in
    let within : c.octet_count.result ≤ 16 = omega (arith, c.octet_count.ensures, c.put_head-len.ensures.length, (whole_row t).fits) in
    omega (arith, whole_room t, within)

pub loop-to-smaller : goal.loop-to-smaller
loop-to-smaller c =
    let a = c.args in
    let t = turn a.form a.rows.now a.out.now a.total c.loop-to.at c.loop-to.to c.id_size-k.result c.loop-to.out c.requires c.loop-to.invariant c.id_size-k.ensures c.loop-to-test.true in
    omega (arith, whole_room t)

pub loop-to-preserved : goal.loop-to-preserved
loop-to-preserved c =
    let a = c.args in
    let t = turn a.form a.rows.now a.out.now a.total c.loop-to.at c.loop-to.to c.id_size-k.result c.loop-to.out c.requires c.loop-to.invariant c.id_size-k.ensures c.loop-to-test.true in
    let h = c.put_head-len.ensures in whole_turn t _ _ _ _ h.length c.octet_count.ensures h.out c.put_words.ensures

pub shape_of-out : goal.shape_of-out
shape_of-out c =
    let a = c.args in
    ahead_long 128 a.form a.rows.now a.out.now c.loop-to.at c.loop-to.to c.loop-to.out c.loop-to.invariant

pub returns : goal.returns
returns c = c.loop-to.invariant
