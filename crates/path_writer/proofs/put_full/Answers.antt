use native.Mathlib.Omega.{arith}
use Prim.Native.Nat.{ℕ, ◌+◌, ◌-◌, ◌^◌, ◌≤◌, ◌<◌}
use mathlib.Core.Path.{◌≡◌, refl, sym, subst}
use mathlib.Core.List.{List}
use lib.ListN.{length, get_or}
use Rattle.wire.specs.Number.{to_be}
use Rattle.wire.specs.Store.{laid}
use Rattle.path_writer.proofs.NumberPut.{part_put, Putting, putting_start, putting_long, putting_done, putting_room, putting_fits, putting_next}
use Rattle.path_writer.proofs.put_full.Goals as goal

pub loop-left-init : goal.loop-left-init
loop-left-init c =
    let a = c.args in
    let p = c.requires in
    putting_start a.numbers.now a.from 4 a.n a.out.now a.start p.numbers_in_bounds p.n_in_bounds p.numbers_value

pub overflow_add-end : goal.overflow_add-end
overflow_add-end c =
    let turn :
    let a = c.args in
    (c.loop-left.at + c.loop-left.left ≤ length a.numbers.now)
    × (c.loop-left.to + 4 ≤ length c.loop-left.out)
    × (get_or a.numbers.now c.loop-left.at 0 < 256 ^ 4)
    × (length c.loop-left.out ≡ length a.out.now)
    × Putting a.numbers.now a.from 4 a.n a.out.now a.start (c.loop-left.at + 1) (c.loop-left.to + 4) (c.loop-left.left - 1) (laid c.loop-left.out c.loop-left.to (to_be 4 (get_or a.numbers.now c.loop-left.at 0))) =
    let a = c.args in
    let pos : 0 < c.loop-left.left = omega (arith, c.loop-left-test.true) in (
      c.loop-left.invariant.inside,
      putting_room a.numbers.now a.from 4 a.n a.out.now a.start c.requires.numbers_in_bounds c.loop-left.at c.loop-left.to c.loop-left.left c.loop-left.out c.loop-left.invariant pos,
      putting_fits a.numbers.now a.from 4 a.n a.out.now a.start c.requires.numbers_in_bounds c.loop-left.at c.loop-left.to c.loop-left.left c.loop-left.out c.loop-left.invariant pos,
      putting_long a.numbers.now a.from 4 a.n a.out.now a.start c.requires.numbers_in_bounds c.loop-left.at c.loop-left.to c.loop-left.left c.loop-left.out c.loop-left.invariant,
      putting_next a.numbers.now a.from 4 a.n a.out.now a.start c.requires.numbers_in_bounds c.loop-left.at c.loop-left.to c.loop-left.left c.loop-left.out c.loop-left.invariant pos,
    ) in
    omega (arith, turn)

pub slice_bounds-put_u32-start : goal.slice_bounds-put_u32-start
slice_bounds-put_u32-start c =
    let turn :
    let a = c.args in
    (c.loop-left.at + c.loop-left.left ≤ length a.numbers.now)
    × (c.loop-left.to + 4 ≤ length c.loop-left.out)
    × (get_or a.numbers.now c.loop-left.at 0 < 256 ^ 4)
    × (length c.loop-left.out ≡ length a.out.now)
    × Putting a.numbers.now a.from 4 a.n a.out.now a.start (c.loop-left.at + 1) (c.loop-left.to + 4) (c.loop-left.left - 1) (laid c.loop-left.out c.loop-left.to (to_be 4 (get_or a.numbers.now c.loop-left.at 0))) =
    let a = c.args in
    let pos : 0 < c.loop-left.left = omega (arith, c.loop-left-test.true) in (
      c.loop-left.invariant.inside,
      putting_room a.numbers.now a.from 4 a.n a.out.now a.start c.requires.numbers_in_bounds c.loop-left.at c.loop-left.to c.loop-left.left c.loop-left.out c.loop-left.invariant pos,
      putting_fits a.numbers.now a.from 4 a.n a.out.now a.start c.requires.numbers_in_bounds c.loop-left.at c.loop-left.to c.loop-left.left c.loop-left.out c.loop-left.invariant pos,
      putting_long a.numbers.now a.from 4 a.n a.out.now a.start c.requires.numbers_in_bounds c.loop-left.at c.loop-left.to c.loop-left.left c.loop-left.out c.loop-left.invariant,
      putting_next a.numbers.now a.from 4 a.n a.out.now a.start c.requires.numbers_in_bounds c.loop-left.at c.loop-left.to c.loop-left.left c.loop-left.out c.loop-left.invariant pos,
    ) in
    omega (arith, turn)

pub slice_bounds-put_u32-end : goal.slice_bounds-put_u32-end
slice_bounds-put_u32-end c =
    let turn :
    let a = c.args in
    (c.loop-left.at + c.loop-left.left ≤ length a.numbers.now)
    × (c.loop-left.to + 4 ≤ length c.loop-left.out)
    × (get_or a.numbers.now c.loop-left.at 0 < 256 ^ 4)
    × (length c.loop-left.out ≡ length a.out.now)
    × Putting a.numbers.now a.from 4 a.n a.out.now a.start (c.loop-left.at + 1) (c.loop-left.to + 4) (c.loop-left.left - 1) (laid c.loop-left.out c.loop-left.to (to_be 4 (get_or a.numbers.now c.loop-left.at 0))) =
    let a = c.args in
    let pos : 0 < c.loop-left.left = omega (arith, c.loop-left-test.true) in (
      c.loop-left.invariant.inside,
      putting_room a.numbers.now a.from 4 a.n a.out.now a.start c.requires.numbers_in_bounds c.loop-left.at c.loop-left.to c.loop-left.left c.loop-left.out c.loop-left.invariant pos,
      putting_fits a.numbers.now a.from 4 a.n a.out.now a.start c.requires.numbers_in_bounds c.loop-left.at c.loop-left.to c.loop-left.left c.loop-left.out c.loop-left.invariant pos,
      putting_long a.numbers.now a.from 4 a.n a.out.now a.start c.requires.numbers_in_bounds c.loop-left.at c.loop-left.to c.loop-left.left c.loop-left.out c.loop-left.invariant,
      putting_next a.numbers.now a.from 4 a.n a.out.now a.start c.requires.numbers_in_bounds c.loop-left.at c.loop-left.to c.loop-left.left c.loop-left.out c.loop-left.invariant pos,
    ) in
    omega (arith, turn)

pub offset_bounds-numbers-at : goal.offset_bounds-numbers-at
offset_bounds-numbers-at c =
    let turn :
    let a = c.args in
    (c.loop-left.at + c.loop-left.left ≤ length a.numbers.now)
    × (c.loop-left.to + 4 ≤ length c.loop-left.out)
    × (get_or a.numbers.now c.loop-left.at 0 < 256 ^ 4)
    × (length c.loop-left.out ≡ length a.out.now)
    × Putting a.numbers.now a.from 4 a.n a.out.now a.start (c.loop-left.at + 1) (c.loop-left.to + 4) (c.loop-left.left - 1) (laid c.loop-left.out c.loop-left.to (to_be 4 (get_or a.numbers.now c.loop-left.at 0))) =
    let a = c.args in
    let pos : 0 < c.loop-left.left = omega (arith, c.loop-left-test.true) in (
      c.loop-left.invariant.inside,
      putting_room a.numbers.now a.from 4 a.n a.out.now a.start c.requires.numbers_in_bounds c.loop-left.at c.loop-left.to c.loop-left.left c.loop-left.out c.loop-left.invariant pos,
      putting_fits a.numbers.now a.from 4 a.n a.out.now a.start c.requires.numbers_in_bounds c.loop-left.at c.loop-left.to c.loop-left.left c.loop-left.out c.loop-left.invariant pos,
      putting_long a.numbers.now a.from 4 a.n a.out.now a.start c.requires.numbers_in_bounds c.loop-left.at c.loop-left.to c.loop-left.left c.loop-left.out c.loop-left.invariant,
      putting_next a.numbers.now a.from 4 a.n a.out.now a.start c.requires.numbers_in_bounds c.loop-left.at c.loop-left.to c.loop-left.left c.loop-left.out c.loop-left.invariant pos,
    ) in
    omega (arith, turn, c.loop-left-test.true)

pub bounds-numbers-at : goal.bounds-numbers-at
bounds-numbers-at c =
    let turn :
    let a = c.args in
    (c.loop-left.at + c.loop-left.left ≤ length a.numbers.now)
    × (c.loop-left.to + 4 ≤ length c.loop-left.out)
    × (get_or a.numbers.now c.loop-left.at 0 < 256 ^ 4)
    × (length c.loop-left.out ≡ length a.out.now)
    × Putting a.numbers.now a.from 4 a.n a.out.now a.start (c.loop-left.at + 1) (c.loop-left.to + 4) (c.loop-left.left - 1) (laid c.loop-left.out c.loop-left.to (to_be 4 (get_or a.numbers.now c.loop-left.at 0))) =
    let a = c.args in
    let pos : 0 < c.loop-left.left = omega (arith, c.loop-left-test.true) in (
      c.loop-left.invariant.inside,
      putting_room a.numbers.now a.from 4 a.n a.out.now a.start c.requires.numbers_in_bounds c.loop-left.at c.loop-left.to c.loop-left.left c.loop-left.out c.loop-left.invariant pos,
      putting_fits a.numbers.now a.from 4 a.n a.out.now a.start c.requires.numbers_in_bounds c.loop-left.at c.loop-left.to c.loop-left.left c.loop-left.out c.loop-left.invariant pos,
      putting_long a.numbers.now a.from 4 a.n a.out.now a.start c.requires.numbers_in_bounds c.loop-left.at c.loop-left.to c.loop-left.left c.loop-left.out c.loop-left.invariant,
      putting_next a.numbers.now a.from 4 a.n a.out.now a.start c.requires.numbers_in_bounds c.loop-left.at c.loop-left.to c.loop-left.left c.loop-left.out c.loop-left.invariant pos,
    ) in
    omega (arith, turn, c.loop-left-test.true)

pub overflow_add-at : goal.overflow_add-at
overflow_add-at c =
    let turn :
    let a = c.args in
    (c.loop-left.at + c.loop-left.left ≤ length a.numbers.now)
    × (c.loop-left.to + 4 ≤ length c.loop-left.out)
    × (get_or a.numbers.now c.loop-left.at 0 < 256 ^ 4)
    × (length c.loop-left.out ≡ length a.out.now)
    × Putting a.numbers.now a.from 4 a.n a.out.now a.start (c.loop-left.at + 1) (c.loop-left.to + 4) (c.loop-left.left - 1) (laid c.loop-left.out c.loop-left.to (to_be 4 (get_or a.numbers.now c.loop-left.at 0))) =
    let a = c.args in
    let pos : 0 < c.loop-left.left = omega (arith, c.loop-left-test.true) in (
      c.loop-left.invariant.inside,
      putting_room a.numbers.now a.from 4 a.n a.out.now a.start c.requires.numbers_in_bounds c.loop-left.at c.loop-left.to c.loop-left.left c.loop-left.out c.loop-left.invariant pos,
      putting_fits a.numbers.now a.from 4 a.n a.out.now a.start c.requires.numbers_in_bounds c.loop-left.at c.loop-left.to c.loop-left.left c.loop-left.out c.loop-left.invariant pos,
      putting_long a.numbers.now a.from 4 a.n a.out.now a.start c.requires.numbers_in_bounds c.loop-left.at c.loop-left.to c.loop-left.left c.loop-left.out c.loop-left.invariant,
      putting_next a.numbers.now a.from 4 a.n a.out.now a.start c.requires.numbers_in_bounds c.loop-left.at c.loop-left.to c.loop-left.left c.loop-left.out c.loop-left.invariant pos,
    ) in
    omega (arith, turn, c.loop-left-test.true)

pub loop-left-preserved : goal.loop-left-preserved
loop-left-preserved c =
    let turn :
    let a = c.args in
    (c.loop-left.at + c.loop-left.left ≤ length a.numbers.now)
    × (c.loop-left.to + 4 ≤ length c.loop-left.out)
    × (get_or a.numbers.now c.loop-left.at 0 < 256 ^ 4)
    × (length c.loop-left.out ≡ length a.out.now)
    × Putting a.numbers.now a.from 4 a.n a.out.now a.start (c.loop-left.at + 1) (c.loop-left.to + 4) (c.loop-left.left - 1) (laid c.loop-left.out c.loop-left.to (to_be 4 (get_or a.numbers.now c.loop-left.at 0))) =
    let a = c.args in
    let pos : 0 < c.loop-left.left = omega (arith, c.loop-left-test.true) in (
      c.loop-left.invariant.inside,
      putting_room a.numbers.now a.from 4 a.n a.out.now a.start c.requires.numbers_in_bounds c.loop-left.at c.loop-left.to c.loop-left.left c.loop-left.out c.loop-left.invariant pos,
      putting_fits a.numbers.now a.from 4 a.n a.out.now a.start c.requires.numbers_in_bounds c.loop-left.at c.loop-left.to c.loop-left.left c.loop-left.out c.loop-left.invariant pos,
      putting_long a.numbers.now a.from 4 a.n a.out.now a.start c.requires.numbers_in_bounds c.loop-left.at c.loop-left.to c.loop-left.left c.loop-left.out c.loop-left.invariant,
      putting_next a.numbers.now a.from 4 a.n a.out.now a.start c.requires.numbers_in_bounds c.loop-left.at c.loop-left.to c.loop-left.left c.loop-left.out c.loop-left.invariant pos,
    ) in
    let a = c.args in
    let h = turn in
    subst (λ (d : List ℕ). Putting a.numbers.now a.from 4 a.n a.out.now a.start (c.loop-left.at + 1) (c.loop-left.to + 4) (c.loop-left.left - 1) d)
    (sym (part_put c.loop-left.out c.loop-left.to _ 4 _ _ c.put_u32.ensures refl h.1)) h.4

pub shape_of-out : goal.shape_of-out
shape_of-out c =
    let a = c.args in
    putting_long a.numbers.now a.from 4 a.n a.out.now a.start c.requires.numbers_in_bounds c.loop-left.at c.loop-left.to c.loop-left.left c.loop-left.out c.loop-left.invariant

pub returns : goal.returns
returns c =
    let a = c.args in
    putting_done a.numbers.now a.from 4 a.n a.out.now a.start c.requires.numbers_in_bounds c.loop-left.at c.loop-left.to c.loop-left.left c.loop-left.out c.loop-left.invariant (omega (arith, c.loop-left-test.false))
