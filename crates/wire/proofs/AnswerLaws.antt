-- Laws of verdicts and of answers.
-- Assumes nothing.
use Prim.Native.Nat.{ℕ, ◌≤◌, ◌<◌}
use mathlib.Core.Path.{◌≡◌, refl, sym, ap}
use mathlib.Core.List.{List}
use native.Mathlib.Omega.{arith}
use borrow.Author.Tests.{le-leb, lt-leb}
use lib.ListN.{length, take}
use lib.Seq.{take_at}
use Rattle.std.specs.Prelude.{Result, Ok, Err}
use Rattle.wire.specs.Answer.{filled, count_meaning, limited}
use Rattle.wire.specs.Verdict.{Verdict, fine, answer_by, either}
use Rattle.wire.specs.declared.refusal.Refusal.{Refusal}
use Rattle.wire.specs.declared.refusal.Refusal.TheVariants.{TooLong, NoRoom}
use Rattle.wire.proofs.ChoiceLaws.{pick_leb}

-- ---- by a verdict

-- what is refused is not fine
pub refused_not_fine : (r : Refusal) → ◌≡◌ {A = Verdict} (Err r) fine → ⊥
refused_not_fine r e = let z : ◌≡◌ {A = ℕ} 0 1 = cc in omega arith

pub answer_fine : {X : Type 0} (v : Verdict) (good : X) (refused : Refusal → X) → v ≡ fine → answer_by v good refused ≡ good
answer_fine (Ok tt) good refused e = refl
answer_fine (Err r) good refused e = absurd (refused_not_fine r e)

pub answer_refused : {X : Type 0} (v : Verdict) (r : Refusal) (good : X) (refused : Refusal → X) → v ≡ Err r → answer_by v good refused ≡ refused r
answer_refused (Ok tt) r good refused e = absurd (refused_not_fine r (sym e))
answer_refused (Err r') r good refused e = let is : r' ≡ r = cc in ap refused is

-- ---- the first of two faults

pub either_none : (v w : Verdict) → either v w ≡ fine → (v ≡ fine) × (w ≡ fine)
either_none (Ok tt) w e = (refl, e)
either_none (Err r) w e = absurd (refused_not_fine r e)

pub either_fine : (v : Verdict) → either v fine ≡ v
either_fine (Ok tt) = refl
either_fine (Err r) = refl

module _ (v w : Verdict) where
  pub either_first : (r : Refusal) → v ≡ Err r → either v w ≡ Err r
  either_first r e = ap (λ (u : Verdict). either u w) e

  pub either_second : v ≡ fine → either v w ≡ w
  either_second e = ap (λ (u : Verdict). either u w) e

-- ---- so many bytes, under a limit

module _ (limit size places : ℕ) where
  pub limited_long : limit < size → limited limit size places ≡ Err TooLong
  unfolding limited
  limited_long h = rw (lt-leb size limit h)

  pub limited_full : size ≤ limit → places < size → limited limit size places ≡ Err NoRoom
  unfolding limited
  limited_full h k = rw (le-leb size limit h, lt-leb size places k)

  pub limited_fits : size ≤ limit → size ≤ places → limited limit size places ≡ Ok size
  unfolding limited
  limited_fits h k = rw (le-leb size limit h, le-leb size places k)

  -- and back
  pub limited_bytes : (n : ℕ) → limited limit size places ≡ Ok n → (size ≤ limit) × (size ≤ places) × (size ≡ n)
  unfolding limited
  limited_bytes n =
      pick_leb (λ (a : Result ℕ Refusal). a ≡ Ok n → (size ≤ limit) × (size ≤ places) × (size ≡ n)) size limit _ _
      (λ h. pick_leb (λ (a : Result ℕ Refusal). a ≡ Ok n → (size ≤ limit) × (size ≤ places) × (size ≡ n)) size places _ _
      (λ k e. (h, k, cc))
      (λ _ e. let z : ◌≡◌ {A = ℕ} 0 1 = cc in absurd (omega arith)))
      (λ _ e. let z : ◌≡◌ {A = ℕ} 0 1 = cc in absurd (omega arith))

-- what was written stands at the front of the output
pub written_front : (a : Result ℕ Refusal) (n : ℕ) (bytes out : List ℕ) → a ≡ Ok n → length bytes ≡ n → take n (filled (count_meaning a) bytes out) ≡ bytes
written_front (Ok m) n bytes out e size = take_at bytes _ n size
written_front (Err m) n bytes out e size = let z : ◌≡◌ {A = ℕ} 0 1 = cc in absurd (omega arith)
