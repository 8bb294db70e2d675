use mathlib.Core.Path.{refl, sym, ap, ◌∙◌}
use Prim.Native.Nat.{ℕ, ◌+◌, ◌-◌}
use mathlib.Core.List.{List}
use native.Mathlib.Omega.{arith}
use lib.ListN.{length, get_or}
use Rattle.wire.proofs.NumberLaws.{be_between}
use Rattle.attributes.specs.Private.{whole_if}
use Rattle.attributes.proofs.AttributeLaws.{long_head, head_bounds, head_cut, long_front, short_front}
use Rattle.attributes.proofs.front.Goals as goal

pub returns-then-s-lt-SHORT_HEAD : goal.returns-then-s-lt-SHORT_HEAD
returns-then-s-lt-SHORT_HEAD c = head_cut _ _ (omega (arith, c.if-s-lt-SHORT_HEAD.true, head_bounds (get_or c.args.s.now 0 0)))

pub returns-then-s-lt-LONG_HEAD : goal.returns-then-s-lt-LONG_HEAD
returns-then-s-lt-LONG_HEAD c = let e = long_head _ (sym c.is_extended.ensures ∙ c.if-is_extended.true) in head_cut _ _ (omega (arith, c.if-s-lt-LONG_HEAD.true, e))

pub returns-then-is_extended : goal.returns-then-is_extended
returns-then-is_extended c =
    let a = c.args in
    let s : List ℕ = a.s.now in
    c.whole.ensures
    ∙ ap (λ (n : ℕ). whole_if (get_or s 0 0) (get_or s 1 0) (a.place + 4) n (length s - 4)) (c.u16_at.ensures ∙ be_between s 2 4 2 refl)
    ∙ long_front s a.place (sym c.is_extended.ensures ∙ c.if-is_extended.true) c.if-s-lt-LONG_HEAD.false

pub returns : goal.returns
returns c =
    let a = c.args in
    let s : List ℕ = a.s.now in
    c.whole-2.ensures
    ∙ ap (λ (n : ℕ). whole_if (get_or s 0 0) (get_or s 1 0) (a.place + 3) n (length s - 3)) c.from.ensures
    ∙ short_front s a.place (sym c.is_extended.ensures ∙ c.if-is_extended.false) c.if-s-lt-SHORT_HEAD.false
