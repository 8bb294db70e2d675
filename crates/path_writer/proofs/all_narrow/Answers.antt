use borrow.Author.Tests.{le-ltb, lt-ltb}
use native.Mathlib.Omega.{arith}
use Prim.Native.Nat.{ℕ, ◌+◌, ◌-◌, ◌^◌, ◌≤◌, ◌<◌}
use mathlib.Core.Path.{◌≡◌, refl, sym, ap, ◌∙◌}
use mathlib.Core.List.{List, ◌∷◌}
use mathlib.Core.Bool.{true, false}
use lib.Dec.{ltb}
use lib.ListN.{length, drop, take, get_or}
use Rattle.path_writer.specs.Write.{all_fit}
use Rattle.path_writer.proofs.WriteLaws.{take_next}
use Rattle.path_writer.proofs.all_narrow.Goals as goal

-- the number at a place, and those after it
module _ (w : ℕ) (ns : List ℕ) (at left : ℕ) (pos : 0 < left) (h : at + left ≤ length ns) where
  next : take left (drop at ns) ≡ get_or ns at 0 ∷ take (left - 1) (drop (at + 1) ns)
  next = take_next ns at left pos (omega arith)

  wide : ltb (get_or ns at 0) (256 ^ w) ≡ false → all_fit w (take left (drop at ns)) ≡ false
  unfolding all_fit
  wide e = ap (all_fit w) next ∙ rw e refl

  fine : ltb (get_or ns at 0) (256 ^ w) ≡ true → all_fit w (take left (drop at ns)) ≡ all_fit w (take (left - 1) (drop (at + 1) ns))
  unfolding all_fit
  fine e = ap (all_fit w) next ∙ rw e refl

pub returns-then-numbers-at-gt-MOST_NARROW : goal.returns-then-numbers-at-gt-MOST_NARROW
returns-then-numbers-at-gt-MOST_NARROW c =
    let a = c.args in
    sym (c.loop-left.invariant.1 ∙ wide 2 a.numbers.now c.loop-left.at c.loop-left.left c.loop-left-test.true c.loop-left.invariant.0 (le-ltb (get_or a.numbers.now c.loop-left.at 0) 65536 (omega (arith, c.if-numbers-at-gt-MOST_NARROW.true))))

pub loop-left-preserved : goal.loop-left-preserved
loop-left-preserved c =
    let a = c.args in (
      omega (arith, c.loop-left.invariant.0, c.loop-left-test.true),
      c.loop-left.invariant.1 ∙ fine 2 a.numbers.now c.loop-left.at c.loop-left.left c.loop-left-test.true c.loop-left.invariant.0 (lt-ltb (get_or a.numbers.now c.loop-left.at 0) 65536 (omega (arith, c.if-numbers-at-gt-MOST_NARROW.false))),
    )

pub returns : goal.returns
unfolding all_fit
returns c =
    let a = c.args in
    let z : c.loop-left.left ≡ 0 = omega (arith, c.loop-left-test.false) in
    sym (c.loop-left.invariant.1 ∙ ap (λ (k : ℕ). all_fit 2 (take k (drop c.loop-left.at a.numbers.now))) z)
