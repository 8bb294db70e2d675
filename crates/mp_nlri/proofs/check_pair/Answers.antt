use mathlib.Core.Path.{◌≡◌, refl, sym, ◌∙◌}
use mathlib.Core.Bool.{false}
use borrow.Author.Tests.{eq-eqb, ne_eqb, le-ltb, lt-ltb}
use lib.ListN.{get_or}
use mathlib.Core.List.{List}
use Prim.Native.Nat.{ℕ}
use Rattle.wire.specs.Number.{be_at}
use Rattle.mp_nlri.specs.Value.{is_pair, pair_fault}
use Rattle.mp_nlri.proofs.check_pair.Goals.{then-u16_at-ne-IPV6-via-then-u16_at-ne-IPV6, then-u16_at-ne-IPV6-via-else-u16_at-ne-IPV6+then-value-ne-UNICAST}
use Rattle.mp_nlri.proofs.check_pair.Goals as goal

other_family : (v : List ℕ) → (be_at v 0 2 ≡ 2 → ⊥) → is_pair v ≡ false
other_family v other = rw (ne_eqb _ _ other) refl

other_subfamily : (v : List ℕ) → be_at v 0 2 ≡ 2 → (get_or v 2 0 ≡ 1 → ⊥) → is_pair v ≡ false
other_subfamily v family other = rw (eq-eqb _ _ family, ne_eqb _ _ other) refl

pub returns-then-value-gt-LIST_LIMIT : goal.returns-then-value-gt-LIST_LIMIT
unfolding pair_fault
returns-then-value-gt-LIST_LIMIT c = rw (lt-ltb _ _ c.if-value-gt-LIST_LIMIT.true) refl

pub returns-then-value-lt-PAIR_SIZE : goal.returns-then-value-lt-PAIR_SIZE
unfolding pair_fault
returns-then-value-lt-PAIR_SIZE c = rw (le-ltb _ _ c.if-value-gt-LIST_LIMIT.false, lt-ltb _ _ c.if-value-lt-PAIR_SIZE.true) refl

pub returns-then-u16_at-ne-IPV6 : goal.returns-then-u16_at-ne-IPV6
unfolding pair_fault
returns-then-u16_at-ne-IPV6 c =
    let v = c.args.value.now in
    let other : is_pair v ≡ false = elim c.then-u16_at-ne-IPV6.branch [
      | then-u16_at-ne-IPV6-via-then-u16_at-ne-IPV6 w ↦ other_family v (λ e. w.if-u16_at-ne-IPV6.true (c.u16_at.ensures ∙ e))
      | then-u16_at-ne-IPV6-via-else-u16_at-ne-IPV6+then-value-ne-UNICAST w ↦ other_subfamily v (sym c.u16_at.ensures ∙ w.if-u16_at-ne-IPV6.false) w.if-value-ne-UNICAST.true
    ] in
    rw (le-ltb _ _ c.if-value-gt-LIST_LIMIT.false, le-ltb _ _ c.if-value-lt-PAIR_SIZE.false, other) refl

pub returns : goal.returns
unfolding pair_fault
returns c =
    let family = eq-eqb _ _ (sym c.u16_at.ensures ∙ c.if-u16_at-ne-IPV6.false) in
    rw (le-ltb _ _ c.if-value-gt-LIST_LIMIT.false, le-ltb _ _ c.if-value-lt-PAIR_SIZE.false, family, eq-eqb _ _ c.if-value-ne-UNICAST.false) refl
