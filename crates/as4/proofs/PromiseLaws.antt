-- Laws of what is wrong with a value, and of what a path weighs.
-- Assumes nothing.
use Prim.Native.Nat.{ℕ, ◌≤◌, ◌<◌}
use mathlib.Core.Path.{◌≡◌, refl, ap}
use mathlib.Core.List.{List}
use native.Mathlib.Omega.{arith}
use borrow.Author.Tests.{le-leb, lt-leb}
use lib.ListN.{length}
use Rattle.std.specs.Prelude.{Ok, Err}
use Rattle.wire.specs.Refusal.{list_limit}
use Rattle.wire.specs.Verdict.{Verdict, fine, unless}
use Rattle.wire.specs.Walk.{Reading}
use Rattle.wire.specs.declared.refusal.Refusal.{Refusal}
use Rattle.wire.specs.declared.refusal.Refusal.TheVariants.{TooLong}
use Rattle.wire.proofs.AnswerLaws.{refused_not_fine}
use Rattle.wire.proofs.ChoiceLaws.{pick_leb}
use Rattle.paths.specs.Segment.{Segment}
use Rattle.as4.specs.Promises.{fault_of}
use Rattle.as4.specs.Private.{weight_of, weighed}
use Rattle.as4.specs.declared.Weight.{Weight}

module _ (s : List ℕ) (r : Reading Segment) where
  -- ---- what is wrong with a value

  pub fault_short : length s ≤ list_limit → fault_of s r ≡ r.verdict
  unfolding fault_of
  fault_short h = rw (le-leb (length s) list_limit h)

  pub fault_long : list_limit < length s → fault_of s r ≡ Err TooLong
  unfolding fault_of
  fault_long h = rw (lt-leb (length s) list_limit h)

  pub no_fault : fault_of s r ≡ fine → (length s ≤ list_limit) × (r.verdict ≡ fine)
  unfolding fault_of
  no_fault =
      pick_leb (λ (v : Verdict). v ≡ fine → (length s ≤ list_limit) × (r.verdict ≡ fine)) (length s) list_limit _ _ (λ h e. (h, e)) (λ _ e. absurd (refused_not_fine TooLong e))

  -- ---- what it weighs

  pub weighed_bad : (n : Refusal) → fault_of s r ≡ Err n → weighed s r ≡ Err n
  unfolding weighed
  weighed_bad n e = ap (λ (v : Verdict). unless v (weight_of r.rows)) e

  pub weighed_good : fault_of s r ≡ fine → weighed s r ≡ Ok (weight_of r.rows)
  unfolding weighed
  weighed_good e = ap (λ (v : Verdict). unless v (weight_of r.rows)) e

  -- and back

  pub weight_says : (w : Weight) → weighed s r ≡ Ok w → (fault_of s r ≡ fine) × (weight_of r.rows ≡ w)
  unfolding weighed
  weight_says w = by (fault_of s r)
    where
      by : (v : Verdict) → unless v (weight_of r.rows) ≡ Ok w → (v ≡ fine) × (weight_of r.rows ≡ w)
      by (Ok tt) e = (refl, cc)
      by (Err n) e = let z : ◌≡◌ {A = ℕ} 0 1 = cc in absurd (omega arith)

  pub refused_says : (n : Refusal) → weighed s r ≡ Err n → fault_of s r ≡ Err n
  unfolding weighed
  refused_says n = by (fault_of s r)
    where
      by : (v : Verdict) → unless v (weight_of r.rows) ≡ Err n → v ≡ Err n
      by (Ok tt) e = let z : ◌≡◌ {A = ℕ} 0 1 = cc in absurd (omega arith)
      by (Err n') e = cc
