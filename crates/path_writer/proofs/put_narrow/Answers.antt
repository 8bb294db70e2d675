use native.Mathlib.Omega.{arith}
use Prim.Native.Nat.{ℕ, ◌+◌, ◌-◌, ◌^◌, ◌≤◌, ◌<◌}
use mathlib.Core.Path.{◌≡◌, refl, sym, ap, subst, ◌∙◌}
use mathlib.Core.List.{List}
use borrow.Rule.Slice.PartMut.{put_mid}
use lib.ListN.{length, get_or, take, drop}
use Rattle.wire.specs.Number.{to_be}
use Rattle.wire.specs.Store.{laid}
use Rattle.wire.specs.Walk.{flat}
use Rattle.path_writer.proofs.NumberPut.{part_put, Putting, putting_start, putting_long, putting_done, putting_room, putting_fits, putting_next}
use Rattle.path_writer.proofs.put_narrow.Goals as goal

pub loop-left-init : goal.loop-left-init
loop-left-init c =
    let a = c.args in
    let p = c.requires in
    putting_start a.numbers.now a.from 2 a.n a.out.now a.start p.numbers_in_bounds p.n_in_bounds p.numbers_value

pub overflow_add-middle : goal.overflow_add-middle
overflow_add-middle c =
    let turn :
    let a = c.args in
    (c.loop-left.at + c.loop-left.left ≤ length a.numbers.now)
    × (c.loop-left.to + 2 ≤ length c.loop-left.out)
    × (get_or a.numbers.now c.loop-left.at 0 < 256 ^ 2)
    × (length c.loop-left.out ≡ length a.out.now)
    × Putting a.numbers.now a.from 2 a.n a.out.now a.start (c.loop-left.at + 1) (c.loop-left.to + 2) (c.loop-left.left - 1) (laid c.loop-left.out c.loop-left.to (to_be 2 (get_or a.numbers.now c.loop-left.at 0))) =
    let a = c.args in
    let pos : 0 < c.loop-left.left = omega (arith, c.loop-left-test.true) in (
      c.loop-left.invariant.inside,
      putting_room a.numbers.now a.from 2 a.n a.out.now a.start c.requires.numbers_in_bounds c.loop-left.at c.loop-left.to c.loop-left.left c.loop-left.out c.loop-left.invariant pos,
      putting_fits a.numbers.now a.from 2 a.n a.out.now a.start c.requires.numbers_in_bounds c.loop-left.at c.loop-left.to c.loop-left.left c.loop-left.out c.loop-left.invariant pos,
      putting_long a.numbers.now a.from 2 a.n a.out.now a.start c.requires.numbers_in_bounds c.loop-left.at c.loop-left.to c.loop-left.left c.loop-left.out c.loop-left.invariant,
      putting_next a.numbers.now a.from 2 a.n a.out.now a.start c.requires.numbers_in_bounds c.loop-left.at c.loop-left.to c.loop-left.left c.loop-left.out c.loop-left.invariant pos,
    ) in
    omega (arith, turn)

pub overflow_add-end : goal.overflow_add-end
overflow_add-end c =
    let turn :
    let a = c.args in
    (c.loop-left.at + c.loop-left.left ≤ length a.numbers.now)
    × (c.loop-left.to + 2 ≤ length c.loop-left.out)
    × (get_or a.numbers.now c.loop-left.at 0 < 256 ^ 2)
    × (length c.loop-left.out ≡ length a.out.now)
    × Putting a.numbers.now a.from 2 a.n a.out.now a.start (c.loop-left.at + 1) (c.loop-left.to + 2) (c.loop-left.left - 1) (laid c.loop-left.out c.loop-left.to (to_be 2 (get_or a.numbers.now c.loop-left.at 0))) =
    let a = c.args in
    let pos : 0 < c.loop-left.left = omega (arith, c.loop-left-test.true) in (
      c.loop-left.invariant.inside,
      putting_room a.numbers.now a.from 2 a.n a.out.now a.start c.requires.numbers_in_bounds c.loop-left.at c.loop-left.to c.loop-left.left c.loop-left.out c.loop-left.invariant pos,
      putting_fits a.numbers.now a.from 2 a.n a.out.now a.start c.requires.numbers_in_bounds c.loop-left.at c.loop-left.to c.loop-left.left c.loop-left.out c.loop-left.invariant pos,
      putting_long a.numbers.now a.from 2 a.n a.out.now a.start c.requires.numbers_in_bounds c.loop-left.at c.loop-left.to c.loop-left.left c.loop-left.out c.loop-left.invariant,
      putting_next a.numbers.now a.from 2 a.n a.out.now a.start c.requires.numbers_in_bounds c.loop-left.at c.loop-left.to c.loop-left.left c.loop-left.out c.loop-left.invariant pos,
    ) in
    omega (arith, turn, c.loop-left.invariant.inside)

pub slice_bounds-put_u16-start : goal.slice_bounds-put_u16-start
slice_bounds-put_u16-start c =
    let turn :
    let a = c.args in
    (c.loop-left.at + c.loop-left.left ≤ length a.numbers.now)
    × (c.loop-left.to + 2 ≤ length c.loop-left.out)
    × (get_or a.numbers.now c.loop-left.at 0 < 256 ^ 2)
    × (length c.loop-left.out ≡ length a.out.now)
    × Putting a.numbers.now a.from 2 a.n a.out.now a.start (c.loop-left.at + 1) (c.loop-left.to + 2) (c.loop-left.left - 1) (laid c.loop-left.out c.loop-left.to (to_be 2 (get_or a.numbers.now c.loop-left.at 0))) =
    let a = c.args in
    let pos : 0 < c.loop-left.left = omega (arith, c.loop-left-test.true) in (
      c.loop-left.invariant.inside,
      putting_room a.numbers.now a.from 2 a.n a.out.now a.start c.requires.numbers_in_bounds c.loop-left.at c.loop-left.to c.loop-left.left c.loop-left.out c.loop-left.invariant pos,
      putting_fits a.numbers.now a.from 2 a.n a.out.now a.start c.requires.numbers_in_bounds c.loop-left.at c.loop-left.to c.loop-left.left c.loop-left.out c.loop-left.invariant pos,
      putting_long a.numbers.now a.from 2 a.n a.out.now a.start c.requires.numbers_in_bounds c.loop-left.at c.loop-left.to c.loop-left.left c.loop-left.out c.loop-left.invariant,
      putting_next a.numbers.now a.from 2 a.n a.out.now a.start c.requires.numbers_in_bounds c.loop-left.at c.loop-left.to c.loop-left.left c.loop-left.out c.loop-left.invariant pos,
    ) in
    omega (arith, turn)

pub slice_bounds-put_u16-end : goal.slice_bounds-put_u16-end
slice_bounds-put_u16-end c =
    let turn :
    let a = c.args in
    (c.loop-left.at + c.loop-left.left ≤ length a.numbers.now)
    × (c.loop-left.to + 2 ≤ length c.loop-left.out)
    × (get_or a.numbers.now c.loop-left.at 0 < 256 ^ 2)
    × (length c.loop-left.out ≡ length a.out.now)
    × Putting a.numbers.now a.from 2 a.n a.out.now a.start (c.loop-left.at + 1) (c.loop-left.to + 2) (c.loop-left.left - 1) (laid c.loop-left.out c.loop-left.to (to_be 2 (get_or a.numbers.now c.loop-left.at 0))) =
    let a = c.args in
    let pos : 0 < c.loop-left.left = omega (arith, c.loop-left-test.true) in (
      c.loop-left.invariant.inside,
      putting_room a.numbers.now a.from 2 a.n a.out.now a.start c.requires.numbers_in_bounds c.loop-left.at c.loop-left.to c.loop-left.left c.loop-left.out c.loop-left.invariant pos,
      putting_fits a.numbers.now a.from 2 a.n a.out.now a.start c.requires.numbers_in_bounds c.loop-left.at c.loop-left.to c.loop-left.left c.loop-left.out c.loop-left.invariant pos,
      putting_long a.numbers.now a.from 2 a.n a.out.now a.start c.requires.numbers_in_bounds c.loop-left.at c.loop-left.to c.loop-left.left c.loop-left.out c.loop-left.invariant,
      putting_next a.numbers.now a.from 2 a.n a.out.now a.start c.requires.numbers_in_bounds c.loop-left.at c.loop-left.to c.loop-left.left c.loop-left.out c.loop-left.invariant pos,
    ) in
    omega (arith, turn)

pub offset_bounds-numbers-at : goal.offset_bounds-numbers-at
offset_bounds-numbers-at c =
    let turn :
    let a = c.args in
    (c.loop-left.at + c.loop-left.left ≤ length a.numbers.now)
    × (c.loop-left.to + 2 ≤ length c.loop-left.out)
    × (get_or a.numbers.now c.loop-left.at 0 < 256 ^ 2)
    × (length c.loop-left.out ≡ length a.out.now)
    × Putting a.numbers.now a.from 2 a.n a.out.now a.start (c.loop-left.at + 1) (c.loop-left.to + 2) (c.loop-left.left - 1) (laid c.loop-left.out c.loop-left.to (to_be 2 (get_or a.numbers.now c.loop-left.at 0))) =
    let a = c.args in
    let pos : 0 < c.loop-left.left = omega (arith, c.loop-left-test.true) in (
      c.loop-left.invariant.inside,
      putting_room a.numbers.now a.from 2 a.n a.out.now a.start c.requires.numbers_in_bounds c.loop-left.at c.loop-left.to c.loop-left.left c.loop-left.out c.loop-left.invariant pos,
      putting_fits a.numbers.now a.from 2 a.n a.out.now a.start c.requires.numbers_in_bounds c.loop-left.at c.loop-left.to c.loop-left.left c.loop-left.out c.loop-left.invariant pos,
      putting_long a.numbers.now a.from 2 a.n a.out.now a.start c.requires.numbers_in_bounds c.loop-left.at c.loop-left.to c.loop-left.left c.loop-left.out c.loop-left.invariant,
      putting_next a.numbers.now a.from 2 a.n a.out.now a.start c.requires.numbers_in_bounds c.loop-left.at c.loop-left.to c.loop-left.left c.loop-left.out c.loop-left.invariant pos,
    ) in
    omega (arith, turn, c.loop-left-test.true)

pub bounds-numbers-at : goal.bounds-numbers-at
bounds-numbers-at c =
    let turn :
    let a = c.args in
    (c.loop-left.at + c.loop-left.left ≤ length a.numbers.now)
    × (c.loop-left.to + 2 ≤ length c.loop-left.out)
    × (get_or a.numbers.now c.loop-left.at 0 < 256 ^ 2)
    × (length c.loop-left.out ≡ length a.out.now)
    × Putting a.numbers.now a.from 2 a.n a.out.now a.start (c.loop-left.at + 1) (c.loop-left.to + 2) (c.loop-left.left - 1) (laid c.loop-left.out c.loop-left.to (to_be 2 (get_or a.numbers.now c.loop-left.at 0))) =
    let a = c.args in
    let pos : 0 < c.loop-left.left = omega (arith, c.loop-left-test.true) in (
      c.loop-left.invariant.inside,
      putting_room a.numbers.now a.from 2 a.n a.out.now a.start c.requires.numbers_in_bounds c.loop-left.at c.loop-left.to c.loop-left.left c.loop-left.out c.loop-left.invariant pos,
      putting_fits a.numbers.now a.from 2 a.n a.out.now a.start c.requires.numbers_in_bounds c.loop-left.at c.loop-left.to c.loop-left.left c.loop-left.out c.loop-left.invariant pos,
      putting_long a.numbers.now a.from 2 a.n a.out.now a.start c.requires.numbers_in_bounds c.loop-left.at c.loop-left.to c.loop-left.left c.loop-left.out c.loop-left.invariant,
      putting_next a.numbers.now a.from 2 a.n a.out.now a.start c.requires.numbers_in_bounds c.loop-left.at c.loop-left.to c.loop-left.left c.loop-left.out c.loop-left.invariant pos,
    ) in
    omega (arith, turn, c.loop-left-test.true)

pub overflow_cast-numbers : goal.overflow_cast-numbers
overflow_cast-numbers c =
    let turn :
    let a = c.args in
    (c.loop-left.at + c.loop-left.left ≤ length a.numbers.now)
    × (c.loop-left.to + 2 ≤ length c.loop-left.out)
    × (get_or a.numbers.now c.loop-left.at 0 < 256 ^ 2)
    × (length c.loop-left.out ≡ length a.out.now)
    × Putting a.numbers.now a.from 2 a.n a.out.now a.start (c.loop-left.at + 1) (c.loop-left.to + 2) (c.loop-left.left - 1) (laid c.loop-left.out c.loop-left.to (to_be 2 (get_or a.numbers.now c.loop-left.at 0))) =
    let a = c.args in
    let pos : 0 < c.loop-left.left = omega (arith, c.loop-left-test.true) in (
      c.loop-left.invariant.inside,
      putting_room a.numbers.now a.from 2 a.n a.out.now a.start c.requires.numbers_in_bounds c.loop-left.at c.loop-left.to c.loop-left.left c.loop-left.out c.loop-left.invariant pos,
      putting_fits a.numbers.now a.from 2 a.n a.out.now a.start c.requires.numbers_in_bounds c.loop-left.at c.loop-left.to c.loop-left.left c.loop-left.out c.loop-left.invariant pos,
      putting_long a.numbers.now a.from 2 a.n a.out.now a.start c.requires.numbers_in_bounds c.loop-left.at c.loop-left.to c.loop-left.left c.loop-left.out c.loop-left.invariant,
      putting_next a.numbers.now a.from 2 a.n a.out.now a.start c.requires.numbers_in_bounds c.loop-left.at c.loop-left.to c.loop-left.left c.loop-left.out c.loop-left.invariant pos,
    ) in
    omega (arith, turn)

pub slice_bounds-put_u16-start-in-loop-left : goal.slice_bounds-put_u16-start-in-loop-left
slice_bounds-put_u16-start-in-loop-left c =
    let turn :
    let a = c.args in
    (c.loop-left.at + c.loop-left.left ≤ length a.numbers.now)
    × (c.loop-left.to + 2 ≤ length c.loop-left.out)
    × (get_or a.numbers.now c.loop-left.at 0 < 256 ^ 2)
    × (length c.loop-left.out ≡ length a.out.now)
    × Putting a.numbers.now a.from 2 a.n a.out.now a.start (c.loop-left.at + 1) (c.loop-left.to + 2) (c.loop-left.left - 1) (laid c.loop-left.out c.loop-left.to (to_be 2 (get_or a.numbers.now c.loop-left.at 0))) =
    let a = c.args in
    let pos : 0 < c.loop-left.left = omega (arith, c.loop-left-test.true) in (
      c.loop-left.invariant.inside,
      putting_room a.numbers.now a.from 2 a.n a.out.now a.start c.requires.numbers_in_bounds c.loop-left.at c.loop-left.to c.loop-left.left c.loop-left.out c.loop-left.invariant pos,
      putting_fits a.numbers.now a.from 2 a.n a.out.now a.start c.requires.numbers_in_bounds c.loop-left.at c.loop-left.to c.loop-left.left c.loop-left.out c.loop-left.invariant pos,
      putting_long a.numbers.now a.from 2 a.n a.out.now a.start c.requires.numbers_in_bounds c.loop-left.at c.loop-left.to c.loop-left.left c.loop-left.out c.loop-left.invariant,
      putting_next a.numbers.now a.from 2 a.n a.out.now a.start c.requires.numbers_in_bounds c.loop-left.at c.loop-left.to c.loop-left.left c.loop-left.out c.loop-left.invariant pos,
    ) in
    let second :
    let a = c.args in
    let d = put_mid c.loop-left.to (c.loop-left.to + 2 - c.loop-left.to) c.loop-left.out c.put_u16.new.out in
    (c.loop-left.to + 4 ≤ length d)
    × (get_or a.numbers.now (c.loop-left.at + 1) 0 < 256 ^ 2)
    × Putting a.numbers.now a.from 2 a.n a.out.now a.start (c.loop-left.at + 2) (c.loop-left.to + 4) (c.loop-left.left - 2) (laid d (c.loop-left.to + 2) (to_be 2 (get_or a.numbers.now (c.loop-left.at + 1) 0))) =
    let a = c.args in
    let d = put_mid c.loop-left.to (c.loop-left.to + 2 - c.loop-left.to) c.loop-left.out c.put_u16.new.out in
    let first = turn in
    let put = part_put c.loop-left.out c.loop-left.to _ 2 _ _ c.put_u16.ensures refl first.1 in
    let h : Putting a.numbers.now a.from 2 a.n a.out.now a.start (c.loop-left.at + 1) (c.loop-left.to + 2) (c.loop-left.left - 1) d =
    subst (λ (x : List ℕ). Putting a.numbers.now a.from 2 a.n a.out.now a.start (c.loop-left.at + 1) (c.loop-left.to + 2) (c.loop-left.left - 1) x) (sym put) first.4 in
    let pos : 0 < c.loop-left.left - 1 = omega (arith, c.loop-left-test.true) in
    let room = putting_room a.numbers.now a.from 2 a.n a.out.now a.start c.requires.numbers_in_bounds (c.loop-left.at + 1) (c.loop-left.to + 2) (c.loop-left.left - 1) d h pos in
    let place : c.loop-left.at + 1 + 1 ≡ c.loop-left.at + 2 = omega arith in
    let next : c.loop-left.to + 2 + 2 ≡ c.loop-left.to + 4 = omega arith in
    let less : c.loop-left.left - 1 - 1 ≡ c.loop-left.left - 2 = omega arith in (
      omega (arith, room),
      putting_fits a.numbers.now a.from 2 a.n a.out.now a.start c.requires.numbers_in_bounds (c.loop-left.at + 1) (c.loop-left.to + 2) (c.loop-left.left - 1) d h pos,
      rw (← place, ← next, ← less) (putting_next a.numbers.now a.from 2 a.n a.out.now a.start c.requires.numbers_in_bounds (c.loop-left.at + 1) (c.loop-left.to + 2) (c.loop-left.left - 1) d h pos),
    ) in
    omega (arith, second)

pub slice_bounds-put_u16-end-in-loop-left : goal.slice_bounds-put_u16-end-in-loop-left
slice_bounds-put_u16-end-in-loop-left c =
    let turn :
    let a = c.args in
    (c.loop-left.at + c.loop-left.left ≤ length a.numbers.now)
    × (c.loop-left.to + 2 ≤ length c.loop-left.out)
    × (get_or a.numbers.now c.loop-left.at 0 < 256 ^ 2)
    × (length c.loop-left.out ≡ length a.out.now)
    × Putting a.numbers.now a.from 2 a.n a.out.now a.start (c.loop-left.at + 1) (c.loop-left.to + 2) (c.loop-left.left - 1) (laid c.loop-left.out c.loop-left.to (to_be 2 (get_or a.numbers.now c.loop-left.at 0))) =
    let a = c.args in
    let pos : 0 < c.loop-left.left = omega (arith, c.loop-left-test.true) in (
      c.loop-left.invariant.inside,
      putting_room a.numbers.now a.from 2 a.n a.out.now a.start c.requires.numbers_in_bounds c.loop-left.at c.loop-left.to c.loop-left.left c.loop-left.out c.loop-left.invariant pos,
      putting_fits a.numbers.now a.from 2 a.n a.out.now a.start c.requires.numbers_in_bounds c.loop-left.at c.loop-left.to c.loop-left.left c.loop-left.out c.loop-left.invariant pos,
      putting_long a.numbers.now a.from 2 a.n a.out.now a.start c.requires.numbers_in_bounds c.loop-left.at c.loop-left.to c.loop-left.left c.loop-left.out c.loop-left.invariant,
      putting_next a.numbers.now a.from 2 a.n a.out.now a.start c.requires.numbers_in_bounds c.loop-left.at c.loop-left.to c.loop-left.left c.loop-left.out c.loop-left.invariant pos,
    ) in
    let second :
    let a = c.args in
    let d = put_mid c.loop-left.to (c.loop-left.to + 2 - c.loop-left.to) c.loop-left.out c.put_u16.new.out in
    (c.loop-left.to + 4 ≤ length d)
    × (get_or a.numbers.now (c.loop-left.at + 1) 0 < 256 ^ 2)
    × Putting a.numbers.now a.from 2 a.n a.out.now a.start (c.loop-left.at + 2) (c.loop-left.to + 4) (c.loop-left.left - 2) (laid d (c.loop-left.to + 2) (to_be 2 (get_or a.numbers.now (c.loop-left.at + 1) 0))) =
    let a = c.args in
    let d = put_mid c.loop-left.to (c.loop-left.to + 2 - c.loop-left.to) c.loop-left.out c.put_u16.new.out in
    let first = turn in
    let put = part_put c.loop-left.out c.loop-left.to _ 2 _ _ c.put_u16.ensures refl first.1 in
    let h : Putting a.numbers.now a.from 2 a.n a.out.now a.start (c.loop-left.at + 1) (c.loop-left.to + 2) (c.loop-left.left - 1) d =
    subst (λ (x : List ℕ). Putting a.numbers.now a.from 2 a.n a.out.now a.start (c.loop-left.at + 1) (c.loop-left.to + 2) (c.loop-left.left - 1) x) (sym put) first.4 in
    let pos : 0 < c.loop-left.left - 1 = omega (arith, c.loop-left-test.true) in
    let room = putting_room a.numbers.now a.from 2 a.n a.out.now a.start c.requires.numbers_in_bounds (c.loop-left.at + 1) (c.loop-left.to + 2) (c.loop-left.left - 1) d h pos in
    let place : c.loop-left.at + 1 + 1 ≡ c.loop-left.at + 2 = omega arith in
    let next : c.loop-left.to + 2 + 2 ≡ c.loop-left.to + 4 = omega arith in
    let less : c.loop-left.left - 1 - 1 ≡ c.loop-left.left - 2 = omega arith in (
      omega (arith, room),
      putting_fits a.numbers.now a.from 2 a.n a.out.now a.start c.requires.numbers_in_bounds (c.loop-left.at + 1) (c.loop-left.to + 2) (c.loop-left.left - 1) d h pos,
      rw (← place, ← next, ← less) (putting_next a.numbers.now a.from 2 a.n a.out.now a.start c.requires.numbers_in_bounds (c.loop-left.at + 1) (c.loop-left.to + 2) (c.loop-left.left - 1) d h pos),
    ) in
    omega (arith, second)

pub overflow_add-at : goal.overflow_add-at
overflow_add-at c =
    let turn :
    let a = c.args in
    (c.loop-left.at + c.loop-left.left ≤ length a.numbers.now)
    × (c.loop-left.to + 2 ≤ length c.loop-left.out)
    × (get_or a.numbers.now c.loop-left.at 0 < 256 ^ 2)
    × (length c.loop-left.out ≡ length a.out.now)
    × Putting a.numbers.now a.from 2 a.n a.out.now a.start (c.loop-left.at + 1) (c.loop-left.to + 2) (c.loop-left.left - 1) (laid c.loop-left.out c.loop-left.to (to_be 2 (get_or a.numbers.now c.loop-left.at 0))) =
    let a = c.args in
    let pos : 0 < c.loop-left.left = omega (arith, c.loop-left-test.true) in (
      c.loop-left.invariant.inside,
      putting_room a.numbers.now a.from 2 a.n a.out.now a.start c.requires.numbers_in_bounds c.loop-left.at c.loop-left.to c.loop-left.left c.loop-left.out c.loop-left.invariant pos,
      putting_fits a.numbers.now a.from 2 a.n a.out.now a.start c.requires.numbers_in_bounds c.loop-left.at c.loop-left.to c.loop-left.left c.loop-left.out c.loop-left.invariant pos,
      putting_long a.numbers.now a.from 2 a.n a.out.now a.start c.requires.numbers_in_bounds c.loop-left.at c.loop-left.to c.loop-left.left c.loop-left.out c.loop-left.invariant,
      putting_next a.numbers.now a.from 2 a.n a.out.now a.start c.requires.numbers_in_bounds c.loop-left.at c.loop-left.to c.loop-left.left c.loop-left.out c.loop-left.invariant pos,
    ) in
    omega (arith, turn, c.loop-left-test.true)

pub offset_bounds-numbers-at-in-loop-left : goal.offset_bounds-numbers-at-in-loop-left
offset_bounds-numbers-at-in-loop-left c =
    let turn :
    let a = c.args in
    (c.loop-left.at + c.loop-left.left ≤ length a.numbers.now)
    × (c.loop-left.to + 2 ≤ length c.loop-left.out)
    × (get_or a.numbers.now c.loop-left.at 0 < 256 ^ 2)
    × (length c.loop-left.out ≡ length a.out.now)
    × Putting a.numbers.now a.from 2 a.n a.out.now a.start (c.loop-left.at + 1) (c.loop-left.to + 2) (c.loop-left.left - 1) (laid c.loop-left.out c.loop-left.to (to_be 2 (get_or a.numbers.now c.loop-left.at 0))) =
    let a = c.args in
    let pos : 0 < c.loop-left.left = omega (arith, c.loop-left-test.true) in (
      c.loop-left.invariant.inside,
      putting_room a.numbers.now a.from 2 a.n a.out.now a.start c.requires.numbers_in_bounds c.loop-left.at c.loop-left.to c.loop-left.left c.loop-left.out c.loop-left.invariant pos,
      putting_fits a.numbers.now a.from 2 a.n a.out.now a.start c.requires.numbers_in_bounds c.loop-left.at c.loop-left.to c.loop-left.left c.loop-left.out c.loop-left.invariant pos,
      putting_long a.numbers.now a.from 2 a.n a.out.now a.start c.requires.numbers_in_bounds c.loop-left.at c.loop-left.to c.loop-left.left c.loop-left.out c.loop-left.invariant,
      putting_next a.numbers.now a.from 2 a.n a.out.now a.start c.requires.numbers_in_bounds c.loop-left.at c.loop-left.to c.loop-left.left c.loop-left.out c.loop-left.invariant pos,
    ) in
    omega (arith, turn, c.loop-left-test.true)

pub bounds-numbers-at-in-loop-left : goal.bounds-numbers-at-in-loop-left
bounds-numbers-at-in-loop-left c =
    let turn :
    let a = c.args in
    (c.loop-left.at + c.loop-left.left ≤ length a.numbers.now)
    × (c.loop-left.to + 2 ≤ length c.loop-left.out)
    × (get_or a.numbers.now c.loop-left.at 0 < 256 ^ 2)
    × (length c.loop-left.out ≡ length a.out.now)
    × Putting a.numbers.now a.from 2 a.n a.out.now a.start (c.loop-left.at + 1) (c.loop-left.to + 2) (c.loop-left.left - 1) (laid c.loop-left.out c.loop-left.to (to_be 2 (get_or a.numbers.now c.loop-left.at 0))) =
    let a = c.args in
    let pos : 0 < c.loop-left.left = omega (arith, c.loop-left-test.true) in (
      c.loop-left.invariant.inside,
      putting_room a.numbers.now a.from 2 a.n a.out.now a.start c.requires.numbers_in_bounds c.loop-left.at c.loop-left.to c.loop-left.left c.loop-left.out c.loop-left.invariant pos,
      putting_fits a.numbers.now a.from 2 a.n a.out.now a.start c.requires.numbers_in_bounds c.loop-left.at c.loop-left.to c.loop-left.left c.loop-left.out c.loop-left.invariant pos,
      putting_long a.numbers.now a.from 2 a.n a.out.now a.start c.requires.numbers_in_bounds c.loop-left.at c.loop-left.to c.loop-left.left c.loop-left.out c.loop-left.invariant,
      putting_next a.numbers.now a.from 2 a.n a.out.now a.start c.requires.numbers_in_bounds c.loop-left.at c.loop-left.to c.loop-left.left c.loop-left.out c.loop-left.invariant pos,
    ) in
    omega (arith, turn, c.loop-left-test.true)

pub overflow_cast-numbers-in-loop-left : goal.overflow_cast-numbers-in-loop-left
overflow_cast-numbers-in-loop-left c =
    let turn :
    let a = c.args in
    (c.loop-left.at + c.loop-left.left ≤ length a.numbers.now)
    × (c.loop-left.to + 2 ≤ length c.loop-left.out)
    × (get_or a.numbers.now c.loop-left.at 0 < 256 ^ 2)
    × (length c.loop-left.out ≡ length a.out.now)
    × Putting a.numbers.now a.from 2 a.n a.out.now a.start (c.loop-left.at + 1) (c.loop-left.to + 2) (c.loop-left.left - 1) (laid c.loop-left.out c.loop-left.to (to_be 2 (get_or a.numbers.now c.loop-left.at 0))) =
    let a = c.args in
    let pos : 0 < c.loop-left.left = omega (arith, c.loop-left-test.true) in (
      c.loop-left.invariant.inside,
      putting_room a.numbers.now a.from 2 a.n a.out.now a.start c.requires.numbers_in_bounds c.loop-left.at c.loop-left.to c.loop-left.left c.loop-left.out c.loop-left.invariant pos,
      putting_fits a.numbers.now a.from 2 a.n a.out.now a.start c.requires.numbers_in_bounds c.loop-left.at c.loop-left.to c.loop-left.left c.loop-left.out c.loop-left.invariant pos,
      putting_long a.numbers.now a.from 2 a.n a.out.now a.start c.requires.numbers_in_bounds c.loop-left.at c.loop-left.to c.loop-left.left c.loop-left.out c.loop-left.invariant,
      putting_next a.numbers.now a.from 2 a.n a.out.now a.start c.requires.numbers_in_bounds c.loop-left.at c.loop-left.to c.loop-left.left c.loop-left.out c.loop-left.invariant pos,
    ) in
    let second :
    let a = c.args in
    let d = put_mid c.loop-left.to (c.loop-left.to + 2 - c.loop-left.to) c.loop-left.out c.put_u16.new.out in
    (c.loop-left.to + 4 ≤ length d)
    × (get_or a.numbers.now (c.loop-left.at + 1) 0 < 256 ^ 2)
    × Putting a.numbers.now a.from 2 a.n a.out.now a.start (c.loop-left.at + 2) (c.loop-left.to + 4) (c.loop-left.left - 2) (laid d (c.loop-left.to + 2) (to_be 2 (get_or a.numbers.now (c.loop-left.at + 1) 0))) =
    let a = c.args in
    let d = put_mid c.loop-left.to (c.loop-left.to + 2 - c.loop-left.to) c.loop-left.out c.put_u16.new.out in
    let first = turn in
    let put = part_put c.loop-left.out c.loop-left.to _ 2 _ _ c.put_u16.ensures refl first.1 in
    let h : Putting a.numbers.now a.from 2 a.n a.out.now a.start (c.loop-left.at + 1) (c.loop-left.to + 2) (c.loop-left.left - 1) d =
    subst (λ (x : List ℕ). Putting a.numbers.now a.from 2 a.n a.out.now a.start (c.loop-left.at + 1) (c.loop-left.to + 2) (c.loop-left.left - 1) x) (sym put) first.4 in
    let pos : 0 < c.loop-left.left - 1 = omega (arith, c.loop-left-test.true) in
    let room = putting_room a.numbers.now a.from 2 a.n a.out.now a.start c.requires.numbers_in_bounds (c.loop-left.at + 1) (c.loop-left.to + 2) (c.loop-left.left - 1) d h pos in
    let place : c.loop-left.at + 1 + 1 ≡ c.loop-left.at + 2 = omega arith in
    let next : c.loop-left.to + 2 + 2 ≡ c.loop-left.to + 4 = omega arith in
    let less : c.loop-left.left - 1 - 1 ≡ c.loop-left.left - 2 = omega arith in (
      omega (arith, room),
      putting_fits a.numbers.now a.from 2 a.n a.out.now a.start c.requires.numbers_in_bounds (c.loop-left.at + 1) (c.loop-left.to + 2) (c.loop-left.left - 1) d h pos,
      rw (← place, ← next, ← less) (putting_next a.numbers.now a.from 2 a.n a.out.now a.start c.requires.numbers_in_bounds (c.loop-left.at + 1) (c.loop-left.to + 2) (c.loop-left.left - 1) d h pos),
    ) in
    omega (arith, second)

pub overflow_add-at-in-loop-left : goal.overflow_add-at-in-loop-left
overflow_add-at-in-loop-left c =
    let turn :
    let a = c.args in
    (c.loop-left.at + c.loop-left.left ≤ length a.numbers.now)
    × (c.loop-left.to + 2 ≤ length c.loop-left.out)
    × (get_or a.numbers.now c.loop-left.at 0 < 256 ^ 2)
    × (length c.loop-left.out ≡ length a.out.now)
    × Putting a.numbers.now a.from 2 a.n a.out.now a.start (c.loop-left.at + 1) (c.loop-left.to + 2) (c.loop-left.left - 1) (laid c.loop-left.out c.loop-left.to (to_be 2 (get_or a.numbers.now c.loop-left.at 0))) =
    let a = c.args in
    let pos : 0 < c.loop-left.left = omega (arith, c.loop-left-test.true) in (
      c.loop-left.invariant.inside,
      putting_room a.numbers.now a.from 2 a.n a.out.now a.start c.requires.numbers_in_bounds c.loop-left.at c.loop-left.to c.loop-left.left c.loop-left.out c.loop-left.invariant pos,
      putting_fits a.numbers.now a.from 2 a.n a.out.now a.start c.requires.numbers_in_bounds c.loop-left.at c.loop-left.to c.loop-left.left c.loop-left.out c.loop-left.invariant pos,
      putting_long a.numbers.now a.from 2 a.n a.out.now a.start c.requires.numbers_in_bounds c.loop-left.at c.loop-left.to c.loop-left.left c.loop-left.out c.loop-left.invariant,
      putting_next a.numbers.now a.from 2 a.n a.out.now a.start c.requires.numbers_in_bounds c.loop-left.at c.loop-left.to c.loop-left.left c.loop-left.out c.loop-left.invariant pos,
    ) in
    omega (arith, turn, c.loop-left-test.true)

pub loop-left-preserved : goal.loop-left-preserved
loop-left-preserved c =
    let turn :
    let a = c.args in
    (c.loop-left.at + c.loop-left.left ≤ length a.numbers.now)
    × (c.loop-left.to + 2 ≤ length c.loop-left.out)
    × (get_or a.numbers.now c.loop-left.at 0 < 256 ^ 2)
    × (length c.loop-left.out ≡ length a.out.now)
    × Putting a.numbers.now a.from 2 a.n a.out.now a.start (c.loop-left.at + 1) (c.loop-left.to + 2) (c.loop-left.left - 1) (laid c.loop-left.out c.loop-left.to (to_be 2 (get_or a.numbers.now c.loop-left.at 0))) =
    let a = c.args in
    let pos : 0 < c.loop-left.left = omega (arith, c.loop-left-test.true) in (
      c.loop-left.invariant.inside,
      putting_room a.numbers.now a.from 2 a.n a.out.now a.start c.requires.numbers_in_bounds c.loop-left.at c.loop-left.to c.loop-left.left c.loop-left.out c.loop-left.invariant pos,
      putting_fits a.numbers.now a.from 2 a.n a.out.now a.start c.requires.numbers_in_bounds c.loop-left.at c.loop-left.to c.loop-left.left c.loop-left.out c.loop-left.invariant pos,
      putting_long a.numbers.now a.from 2 a.n a.out.now a.start c.requires.numbers_in_bounds c.loop-left.at c.loop-left.to c.loop-left.left c.loop-left.out c.loop-left.invariant,
      putting_next a.numbers.now a.from 2 a.n a.out.now a.start c.requires.numbers_in_bounds c.loop-left.at c.loop-left.to c.loop-left.left c.loop-left.out c.loop-left.invariant pos,
    ) in
    let second :
    let a = c.args in
    let d = put_mid c.loop-left.to (c.loop-left.to + 2 - c.loop-left.to) c.loop-left.out c.put_u16.new.out in
    (c.loop-left.to + 4 ≤ length d)
    × (get_or a.numbers.now (c.loop-left.at + 1) 0 < 256 ^ 2)
    × Putting a.numbers.now a.from 2 a.n a.out.now a.start (c.loop-left.at + 2) (c.loop-left.to + 4) (c.loop-left.left - 2) (laid d (c.loop-left.to + 2) (to_be 2 (get_or a.numbers.now (c.loop-left.at + 1) 0))) =
    let a = c.args in
    let d = put_mid c.loop-left.to (c.loop-left.to + 2 - c.loop-left.to) c.loop-left.out c.put_u16.new.out in
    let first = turn in
    let put = part_put c.loop-left.out c.loop-left.to _ 2 _ _ c.put_u16.ensures refl first.1 in
    let h : Putting a.numbers.now a.from 2 a.n a.out.now a.start (c.loop-left.at + 1) (c.loop-left.to + 2) (c.loop-left.left - 1) d =
    subst (λ (x : List ℕ). Putting a.numbers.now a.from 2 a.n a.out.now a.start (c.loop-left.at + 1) (c.loop-left.to + 2) (c.loop-left.left - 1) x) (sym put) first.4 in
    let pos : 0 < c.loop-left.left - 1 = omega (arith, c.loop-left-test.true) in
    let room = putting_room a.numbers.now a.from 2 a.n a.out.now a.start c.requires.numbers_in_bounds (c.loop-left.at + 1) (c.loop-left.to + 2) (c.loop-left.left - 1) d h pos in
    let place : c.loop-left.at + 1 + 1 ≡ c.loop-left.at + 2 = omega arith in
    let next : c.loop-left.to + 2 + 2 ≡ c.loop-left.to + 4 = omega arith in
    let less : c.loop-left.left - 1 - 1 ≡ c.loop-left.left - 2 = omega arith in (
      omega (arith, room),
      putting_fits a.numbers.now a.from 2 a.n a.out.now a.start c.requires.numbers_in_bounds (c.loop-left.at + 1) (c.loop-left.to + 2) (c.loop-left.left - 1) d h pos,
      rw (← place, ← next, ← less) (putting_next a.numbers.now a.from 2 a.n a.out.now a.start c.requires.numbers_in_bounds (c.loop-left.at + 1) (c.loop-left.to + 2) (c.loop-left.left - 1) d h pos),
    ) in
    let a = c.args in
    let d = put_mid c.loop-left.to (c.loop-left.to + 2 - c.loop-left.to) c.loop-left.out c.put_u16.new.out in
    let h = second in
    subst (λ (x : List ℕ). Putting a.numbers.now a.from 2 a.n a.out.now a.start (c.loop-left.at + 2) (c.loop-left.to + 4) (c.loop-left.left - 2) x)
    (sym (part_put d (c.loop-left.to + 2) _ 2 _ _ c.put_u16-in-loop-left.ensures (omega arith) h.0)) h.2

pub overflow_add-end-then-left-eq1 : goal.overflow_add-end-then-left-eq1
overflow_add-end-then-left-eq1 c =
    let last :
    let a = c.args in
    let v = get_or a.numbers.now c.loop-left.at 0 in
    (c.loop-left.to + 2 ≤ length c.loop-left.out)
    × (v < 256 ^ 2)
    × (length (laid c.loop-left.out c.loop-left.to (to_be 2 v)) ≡ length a.out.now)
    × (laid c.loop-left.out c.loop-left.to (to_be 2 v) ≡ laid a.out.now a.start (flat (to_be 2) (take a.n (drop a.from a.numbers.now))))
    × (length c.loop-left.out ≡ length a.out.now) =
    let a = c.args in
    let pos : 0 < c.loop-left.left = omega (arith, c.if-left-eq1.true) in
    let h = putting_next a.numbers.now a.from 2 a.n a.out.now a.start c.requires.numbers_in_bounds c.loop-left.at c.loop-left.to c.loop-left.left c.loop-left.out c.loop-left.invariant pos in (
      putting_room a.numbers.now a.from 2 a.n a.out.now a.start c.requires.numbers_in_bounds c.loop-left.at c.loop-left.to c.loop-left.left c.loop-left.out c.loop-left.invariant pos,
      putting_fits a.numbers.now a.from 2 a.n a.out.now a.start c.requires.numbers_in_bounds c.loop-left.at c.loop-left.to c.loop-left.left c.loop-left.out c.loop-left.invariant pos,
      putting_long a.numbers.now a.from 2 a.n a.out.now a.start c.requires.numbers_in_bounds (c.loop-left.at + 1) (c.loop-left.to + 2) (c.loop-left.left - 1) (laid c.loop-left.out c.loop-left.to (to_be 2 (get_or a.numbers.now c.loop-left.at 0))) h,
      putting_done a.numbers.now a.from 2 a.n a.out.now a.start c.requires.numbers_in_bounds (c.loop-left.at + 1) (c.loop-left.to + 2) (c.loop-left.left - 1) (laid c.loop-left.out c.loop-left.to (to_be 2 (get_or a.numbers.now c.loop-left.at 0))) h (omega (arith, c.if-left-eq1.true)),
      putting_long a.numbers.now a.from 2 a.n a.out.now a.start c.requires.numbers_in_bounds c.loop-left.at c.loop-left.to c.loop-left.left c.loop-left.out c.loop-left.invariant,
    ) in
    omega (arith, last)

pub slice_bounds-put_u16-start-then-left-eq1 : goal.slice_bounds-put_u16-start-then-left-eq1
slice_bounds-put_u16-start-then-left-eq1 c =
    let last :
    let a = c.args in
    let v = get_or a.numbers.now c.loop-left.at 0 in
    (c.loop-left.to + 2 ≤ length c.loop-left.out)
    × (v < 256 ^ 2)
    × (length (laid c.loop-left.out c.loop-left.to (to_be 2 v)) ≡ length a.out.now)
    × (laid c.loop-left.out c.loop-left.to (to_be 2 v) ≡ laid a.out.now a.start (flat (to_be 2) (take a.n (drop a.from a.numbers.now))))
    × (length c.loop-left.out ≡ length a.out.now) =
    let a = c.args in
    let pos : 0 < c.loop-left.left = omega (arith, c.if-left-eq1.true) in
    let h = putting_next a.numbers.now a.from 2 a.n a.out.now a.start c.requires.numbers_in_bounds c.loop-left.at c.loop-left.to c.loop-left.left c.loop-left.out c.loop-left.invariant pos in (
      putting_room a.numbers.now a.from 2 a.n a.out.now a.start c.requires.numbers_in_bounds c.loop-left.at c.loop-left.to c.loop-left.left c.loop-left.out c.loop-left.invariant pos,
      putting_fits a.numbers.now a.from 2 a.n a.out.now a.start c.requires.numbers_in_bounds c.loop-left.at c.loop-left.to c.loop-left.left c.loop-left.out c.loop-left.invariant pos,
      putting_long a.numbers.now a.from 2 a.n a.out.now a.start c.requires.numbers_in_bounds (c.loop-left.at + 1) (c.loop-left.to + 2) (c.loop-left.left - 1) (laid c.loop-left.out c.loop-left.to (to_be 2 (get_or a.numbers.now c.loop-left.at 0))) h,
      putting_done a.numbers.now a.from 2 a.n a.out.now a.start c.requires.numbers_in_bounds (c.loop-left.at + 1) (c.loop-left.to + 2) (c.loop-left.left - 1) (laid c.loop-left.out c.loop-left.to (to_be 2 (get_or a.numbers.now c.loop-left.at 0))) h (omega (arith, c.if-left-eq1.true)),
      putting_long a.numbers.now a.from 2 a.n a.out.now a.start c.requires.numbers_in_bounds c.loop-left.at c.loop-left.to c.loop-left.left c.loop-left.out c.loop-left.invariant,
    ) in
    omega (arith, last)

pub slice_bounds-put_u16-end-then-left-eq1 : goal.slice_bounds-put_u16-end-then-left-eq1
slice_bounds-put_u16-end-then-left-eq1 c =
    let last :
    let a = c.args in
    let v = get_or a.numbers.now c.loop-left.at 0 in
    (c.loop-left.to + 2 ≤ length c.loop-left.out)
    × (v < 256 ^ 2)
    × (length (laid c.loop-left.out c.loop-left.to (to_be 2 v)) ≡ length a.out.now)
    × (laid c.loop-left.out c.loop-left.to (to_be 2 v) ≡ laid a.out.now a.start (flat (to_be 2) (take a.n (drop a.from a.numbers.now))))
    × (length c.loop-left.out ≡ length a.out.now) =
    let a = c.args in
    let pos : 0 < c.loop-left.left = omega (arith, c.if-left-eq1.true) in
    let h = putting_next a.numbers.now a.from 2 a.n a.out.now a.start c.requires.numbers_in_bounds c.loop-left.at c.loop-left.to c.loop-left.left c.loop-left.out c.loop-left.invariant pos in (
      putting_room a.numbers.now a.from 2 a.n a.out.now a.start c.requires.numbers_in_bounds c.loop-left.at c.loop-left.to c.loop-left.left c.loop-left.out c.loop-left.invariant pos,
      putting_fits a.numbers.now a.from 2 a.n a.out.now a.start c.requires.numbers_in_bounds c.loop-left.at c.loop-left.to c.loop-left.left c.loop-left.out c.loop-left.invariant pos,
      putting_long a.numbers.now a.from 2 a.n a.out.now a.start c.requires.numbers_in_bounds (c.loop-left.at + 1) (c.loop-left.to + 2) (c.loop-left.left - 1) (laid c.loop-left.out c.loop-left.to (to_be 2 (get_or a.numbers.now c.loop-left.at 0))) h,
      putting_done a.numbers.now a.from 2 a.n a.out.now a.start c.requires.numbers_in_bounds (c.loop-left.at + 1) (c.loop-left.to + 2) (c.loop-left.left - 1) (laid c.loop-left.out c.loop-left.to (to_be 2 (get_or a.numbers.now c.loop-left.at 0))) h (omega (arith, c.if-left-eq1.true)),
      putting_long a.numbers.now a.from 2 a.n a.out.now a.start c.requires.numbers_in_bounds c.loop-left.at c.loop-left.to c.loop-left.left c.loop-left.out c.loop-left.invariant,
    ) in
    omega (arith, last)

pub offset_bounds-numbers-at-then-left-eq1 : goal.offset_bounds-numbers-at-then-left-eq1
offset_bounds-numbers-at-then-left-eq1 c = omega (arith, c.loop-left.invariant.inside, c.if-left-eq1.true)

pub bounds-numbers-at-then-left-eq1 : goal.bounds-numbers-at-then-left-eq1
bounds-numbers-at-then-left-eq1 c = omega (arith, c.loop-left.invariant.inside, c.if-left-eq1.true)

pub overflow_cast-numbers-then-left-eq1 : goal.overflow_cast-numbers-then-left-eq1
overflow_cast-numbers-then-left-eq1 c =
    let last :
    let a = c.args in
    let v = get_or a.numbers.now c.loop-left.at 0 in
    (c.loop-left.to + 2 ≤ length c.loop-left.out)
    × (v < 256 ^ 2)
    × (length (laid c.loop-left.out c.loop-left.to (to_be 2 v)) ≡ length a.out.now)
    × (laid c.loop-left.out c.loop-left.to (to_be 2 v) ≡ laid a.out.now a.start (flat (to_be 2) (take a.n (drop a.from a.numbers.now))))
    × (length c.loop-left.out ≡ length a.out.now) =
    let a = c.args in
    let pos : 0 < c.loop-left.left = omega (arith, c.if-left-eq1.true) in
    let h = putting_next a.numbers.now a.from 2 a.n a.out.now a.start c.requires.numbers_in_bounds c.loop-left.at c.loop-left.to c.loop-left.left c.loop-left.out c.loop-left.invariant pos in (
      putting_room a.numbers.now a.from 2 a.n a.out.now a.start c.requires.numbers_in_bounds c.loop-left.at c.loop-left.to c.loop-left.left c.loop-left.out c.loop-left.invariant pos,
      putting_fits a.numbers.now a.from 2 a.n a.out.now a.start c.requires.numbers_in_bounds c.loop-left.at c.loop-left.to c.loop-left.left c.loop-left.out c.loop-left.invariant pos,
      putting_long a.numbers.now a.from 2 a.n a.out.now a.start c.requires.numbers_in_bounds (c.loop-left.at + 1) (c.loop-left.to + 2) (c.loop-left.left - 1) (laid c.loop-left.out c.loop-left.to (to_be 2 (get_or a.numbers.now c.loop-left.at 0))) h,
      putting_done a.numbers.now a.from 2 a.n a.out.now a.start c.requires.numbers_in_bounds (c.loop-left.at + 1) (c.loop-left.to + 2) (c.loop-left.left - 1) (laid c.loop-left.out c.loop-left.to (to_be 2 (get_or a.numbers.now c.loop-left.at 0))) h (omega (arith, c.if-left-eq1.true)),
      putting_long a.numbers.now a.from 2 a.n a.out.now a.start c.requires.numbers_in_bounds c.loop-left.at c.loop-left.to c.loop-left.left c.loop-left.out c.loop-left.invariant,
    ) in
    omega (arith, last)

pub shape_of-out-then-left-eq1 : goal.shape_of-out-then-left-eq1
shape_of-out-then-left-eq1 c =
    let last :
    let a = c.args in
    let v = get_or a.numbers.now c.loop-left.at 0 in
    (c.loop-left.to + 2 ≤ length c.loop-left.out)
    × (v < 256 ^ 2)
    × (length (laid c.loop-left.out c.loop-left.to (to_be 2 v)) ≡ length a.out.now)
    × (laid c.loop-left.out c.loop-left.to (to_be 2 v) ≡ laid a.out.now a.start (flat (to_be 2) (take a.n (drop a.from a.numbers.now))))
    × (length c.loop-left.out ≡ length a.out.now) =
    let a = c.args in
    let pos : 0 < c.loop-left.left = omega (arith, c.if-left-eq1.true) in
    let h = putting_next a.numbers.now a.from 2 a.n a.out.now a.start c.requires.numbers_in_bounds c.loop-left.at c.loop-left.to c.loop-left.left c.loop-left.out c.loop-left.invariant pos in (
      putting_room a.numbers.now a.from 2 a.n a.out.now a.start c.requires.numbers_in_bounds c.loop-left.at c.loop-left.to c.loop-left.left c.loop-left.out c.loop-left.invariant pos,
      putting_fits a.numbers.now a.from 2 a.n a.out.now a.start c.requires.numbers_in_bounds c.loop-left.at c.loop-left.to c.loop-left.left c.loop-left.out c.loop-left.invariant pos,
      putting_long a.numbers.now a.from 2 a.n a.out.now a.start c.requires.numbers_in_bounds (c.loop-left.at + 1) (c.loop-left.to + 2) (c.loop-left.left - 1) (laid c.loop-left.out c.loop-left.to (to_be 2 (get_or a.numbers.now c.loop-left.at 0))) h,
      putting_done a.numbers.now a.from 2 a.n a.out.now a.start c.requires.numbers_in_bounds (c.loop-left.at + 1) (c.loop-left.to + 2) (c.loop-left.left - 1) (laid c.loop-left.out c.loop-left.to (to_be 2 (get_or a.numbers.now c.loop-left.at 0))) h (omega (arith, c.if-left-eq1.true)),
      putting_long a.numbers.now a.from 2 a.n a.out.now a.start c.requires.numbers_in_bounds c.loop-left.at c.loop-left.to c.loop-left.left c.loop-left.out c.loop-left.invariant,
    ) in
    let put :
    let a = c.args in
    put_mid c.loop-left.to (c.loop-left.to + 2 - c.loop-left.to) c.loop-left.out c.put_u16-then-left-eq1.new.out ≡ laid c.loop-left.out c.loop-left.to (to_be 2 (get_or a.numbers.now c.loop-left.at 0)) =
    part_put c.loop-left.out c.loop-left.to _ 2 _ _ c.put_u16-then-left-eq1.ensures refl last.0 in
    ap length put ∙ last.2

pub returns-then-left-eq1 : goal.returns-then-left-eq1
returns-then-left-eq1 c =
    let last :
    let a = c.args in
    let v = get_or a.numbers.now c.loop-left.at 0 in
    (c.loop-left.to + 2 ≤ length c.loop-left.out)
    × (v < 256 ^ 2)
    × (length (laid c.loop-left.out c.loop-left.to (to_be 2 v)) ≡ length a.out.now)
    × (laid c.loop-left.out c.loop-left.to (to_be 2 v) ≡ laid a.out.now a.start (flat (to_be 2) (take a.n (drop a.from a.numbers.now))))
    × (length c.loop-left.out ≡ length a.out.now) =
    let a = c.args in
    let pos : 0 < c.loop-left.left = omega (arith, c.if-left-eq1.true) in
    let h = putting_next a.numbers.now a.from 2 a.n a.out.now a.start c.requires.numbers_in_bounds c.loop-left.at c.loop-left.to c.loop-left.left c.loop-left.out c.loop-left.invariant pos in (
      putting_room a.numbers.now a.from 2 a.n a.out.now a.start c.requires.numbers_in_bounds c.loop-left.at c.loop-left.to c.loop-left.left c.loop-left.out c.loop-left.invariant pos,
      putting_fits a.numbers.now a.from 2 a.n a.out.now a.start c.requires.numbers_in_bounds c.loop-left.at c.loop-left.to c.loop-left.left c.loop-left.out c.loop-left.invariant pos,
      putting_long a.numbers.now a.from 2 a.n a.out.now a.start c.requires.numbers_in_bounds (c.loop-left.at + 1) (c.loop-left.to + 2) (c.loop-left.left - 1) (laid c.loop-left.out c.loop-left.to (to_be 2 (get_or a.numbers.now c.loop-left.at 0))) h,
      putting_done a.numbers.now a.from 2 a.n a.out.now a.start c.requires.numbers_in_bounds (c.loop-left.at + 1) (c.loop-left.to + 2) (c.loop-left.left - 1) (laid c.loop-left.out c.loop-left.to (to_be 2 (get_or a.numbers.now c.loop-left.at 0))) h (omega (arith, c.if-left-eq1.true)),
      putting_long a.numbers.now a.from 2 a.n a.out.now a.start c.requires.numbers_in_bounds c.loop-left.at c.loop-left.to c.loop-left.left c.loop-left.out c.loop-left.invariant,
    ) in
    let put :
    let a = c.args in
    put_mid c.loop-left.to (c.loop-left.to + 2 - c.loop-left.to) c.loop-left.out c.put_u16-then-left-eq1.new.out ≡ laid c.loop-left.out c.loop-left.to (to_be 2 (get_or a.numbers.now c.loop-left.at 0)) =
    part_put c.loop-left.out c.loop-left.to _ 2 _ _ c.put_u16-then-left-eq1.ensures refl last.0 in
    put ∙ last.3

pub shape_of-out-else-left-eq1 : goal.shape_of-out-else-left-eq1
shape_of-out-else-left-eq1 c =
    let a = c.args in
    putting_long a.numbers.now a.from 2 a.n a.out.now a.start c.requires.numbers_in_bounds c.loop-left.at c.loop-left.to c.loop-left.left c.loop-left.out c.loop-left.invariant

pub returns-else-left-eq1 : goal.returns-else-left-eq1
returns-else-left-eq1 c =
    let a = c.args in
    putting_done a.numbers.now a.from 2 a.n a.out.now a.start c.requires.numbers_in_bounds c.loop-left.at c.loop-left.to c.loop-left.left c.loop-left.out c.loop-left.invariant (omega (arith, c.loop-left-test.false, c.if-left-eq1.false))
