-- Laws of a choice by a test.
-- Assumes nothing.
use Prim.Native.Nat.{ℕ, zero, suc, ◌≤◌, ◌<◌}
use mathlib.Core.Path.{◌≡◌, refl, sym, subst}
use mathlib.Core.Bool.{Bool, true, false, ◌&&◌}
use native.Mathlib.Nat.{lt_of_not-le}
use native.Mathlib.Decide.{dec_le}
use native.Mathlib.Omega.{arith}
use borrow.Author.Tests.{le-leb, lt-leb, eqb-true, eqb-false}
use lib.Dec.{leb, eqb}
use Rattle.wire.specs.Choice.{pick, below}

-- by cases, with what the test says in each
pub pick_leb {ℓ} : {X : Type 0} (P : X → Type ℓ) (a b : ℕ) (x y : X) → (a ≤ b → P x) → (b < a → P y) → P (pick (leb a b) x y)
pick_leb P a b x y f g =
    elim (dec_le a b) [
      | yes h ↦ subst (λ (t : Bool). P (pick t x y)) (sym (le-leb a b h)) (f h)
      | no h ↦ subst (λ (t : Bool). P (pick t x y)) (sym (lt-leb a b (lt_of_not-le h))) (g (lt_of_not-le h))
    ]

-- what holds of both holds of the choice
pub pick_any {ℓ} : {X : Type 0} (P : X → Type ℓ) (t : Bool) (x y : X) → P x → P y → P (pick t x y)
pick_any P true x y p q = p
pick_any P false x y p q = q

pub pick_eqb {ℓ} : {X : Type 0} (P : X → Type ℓ) (a b : ℕ) (x y : X) → (a ≡ b → P x) → ((a ≡ b → ⊥) → P y) → P (pick (eqb a b) x y)
pick_eqb P a b x y f g = by_test (eqb a b) refl
  where
    by_test : (t : Bool) → eqb a b ≡ t → P (pick t x y)
    by_test true e = f (eqb-true a b e)
    by_test false e = g (eqb-false a b e)

-- of what is picked unless a test holds, with the test's answer
pub pick_unless {ℓ} : {X : Type 0} (P : X → Type ℓ) (t : Bool) (x y : X) → P x → (t ≡ false → P y) → P (pick t x y)
pick_unless P true x y p q = p
pick_unless P false x y p q = q refl

-- each part of what is true
pub and_true : (a b : Bool) → a && b ≡ true → (a ≡ true) × (b ≡ true)
and_true true b e = (refl, e)
and_true false b e = let z : ◌≡◌ {A = ℕ} 0 1 = cc in absurd (omega arith)

-- what a test of each number below n says of each
pub below_at : (f : ℕ → Bool) (n d : ℕ) → below f n ≡ true → d < n → f d ≡ true
below_at f zero d h lt = absurd (omega arith)
below_at f (suc n) d h lt =
    elim (dec_le n d) [
      | yes le ↦ (let e : d ≡ n = omega arith in rw e (and_true (f n) (below f n) h).0)
      | no gt ↦ below_at f n d (and_true (f n) (below f n) h).1 (lt_of_not-le gt)
    ]
