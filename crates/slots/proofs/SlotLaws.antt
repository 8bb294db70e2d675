-- Laws of slot records.
-- Assumes nothing.
use Prim.Native.Nat.{ℕ, suc, ◌+◌, ◌≤◌, ◌<◌}
use mathlib.Core.Path.{◌≡◌, refl}
use mathlib.Core.List.{List}
use mathlib.Core.Bool.{Bool, true, false}
use native.Mathlib.Omega.{arith}
use borrow.Author.Tests.{lt-ltb, le-ltb}
use lib.Dec.{ltb, eqb}
use lib.ListN.{length, get_or}
use Rattle.wire.specs.Choice.{pick}
use Rattle.wire.proofs.ChoiceLaws.{pick_any, pick_eqb, pick_leb}
use Rattle.families.specs.Family.{mode_of}
use Rattle.families.specs.declared.AddPath.{AddPath}
use Rattle.slots.specs.Slot.{mark_first, mark_second, record_size, differs, over_settings, kept_of, short, slot_of}
use Rattle.slots.specs.declared.SlotAnswer.{SlotAnswer}
use Rattle.slots.specs.declared.SlotAnswer.TheVariants.{Slot, More, Stop, End}

-- by cases, with what the test says in each
pub pick_both {ℓ} : {X : Type 0} (P : X → Type ℓ) (t : Bool) (x y : X) → (t ≡ true → P x) → (t ≡ false → P y) → P (pick t x y)
pick_both P true x y f g = f refl
pick_both P false x y f g = g refl

-- what holds of the answers that are no record, and of one that is all there, holds of every answer
pub slot_cases {ℓ} : (s : List ℕ) (last : Bool) (P : SlotAnswer → Type ℓ) → (length s ≡ 0 → last ≡ true → P End)
    → (length s < record_size + kept_of s → P More) → (0 < length s → P Stop)
    → (record_size + kept_of s ≤ length s → P (Slot (kept_of s) (mode_of (get_or s 4 0)))) → P (slot_of s last)
unfolding slot_of
slot_cases s last P end more stop good =
    pick_eqb P (length s) 0 _ _ (λ none. pick_both P last End More (end none) (λ _. more (omega (arith, none))))
    (λ some.
    let wrong : P Stop = stop (omega (arith, some)) in
    let cut : length s < record_size + kept_of s → P (short last) = λ h. pick_any P last Stop More wrong (more h) in
    pick_any P (differs s 0 mark_first) _ _ wrong
    (pick_any P (differs s 1 mark_second) _ _ wrong
    (pick_any P (over_settings s) _ _ wrong
    (pick_leb P (suc (length s)) record_size _ _ (λ h. cut (omega (arith, h)))
    (λ _. pick_leb P (suc (length s)) (record_size + kept_of s) _ _ (λ h. cut (omega (arith, h))) (λ h. good (omega (arith, h))))))))

-- the kept bytes of a record are there
pub slot_fits : (s : List ℕ) (last : Bool) (kept : ℕ) (mode : AddPath) → slot_of s last ≡ Slot kept mode → record_size + kept ≤ length s
slot_fits s last kept mode =
    slot_cases s last (λ a. a ≡ Slot kept mode → record_size + kept ≤ length s)
    (λ _ _ e. let z : ◌≡◌ {A = ℕ} 0 1 = cc in absurd (omega arith))
    (λ _ e. let z : ◌≡◌ {A = ℕ} 0 1 = cc in absurd (omega arith))
    (λ _ e. let z : ◌≡◌ {A = ℕ} 0 1 = cc in absurd (omega arith))
    (λ fits e. let k : kept_of s ≡ kept = cc in omega arith)

-- what is no record is something, and at the end there is nothing, and no more will come
pub stop_some : (s : List ℕ) (last : Bool) → slot_of s last ≡ Stop → 0 < length s
stop_some s last =
    slot_cases s last (λ a. a ≡ Stop → 0 < length s)
    (λ _ _ e. let z : ◌≡◌ {A = ℕ} 0 1 = cc in absurd (omega arith))
    (λ _ e. let z : ◌≡◌ {A = ℕ} 0 1 = cc in absurd (omega arith))
    (λ some _. some)
    (λ _ e. let z : ◌≡◌ {A = ℕ} 0 1 = cc in absurd (omega arith))

pub end_none : (s : List ℕ) (last : Bool) → slot_of s last ≡ End → (length s ≡ 0) × (last ≡ true)
end_none s last =
    slot_cases s last (λ a. a ≡ End → (length s ≡ 0) × (last ≡ true))
    (λ none over _. (none, over))
    (λ _ e. let z : ◌≡◌ {A = ℕ} 0 1 = cc in absurd (omega arith))
    (λ _ e. let z : ◌≡◌ {A = ℕ} 0 1 = cc in absurd (omega arith))
    (λ _ e. let z : ◌≡◌ {A = ℕ} 0 1 = cc in absurd (omega arith))

-- ---- the tests, one by one

-- the mark and the settings byte are right, as far as they are there
pub record Marked (s : List ℕ) : Type 0 where
  pub some : eqb (length s) 0 ≡ false
  pub first : differs s 0 mark_first ≡ false
  pub second : differs s 1 mark_second ≡ false
  pub settings : over_settings s ≡ false

module _ (s : List ℕ) (last : Bool) (m : Marked s) where
  -- it is not all there
  pub marked_short : length s < record_size + kept_of s → slot_of s last ≡ short last
  unfolding slot_of
  marked_short h =
      simp (m.some, m.first, m.second, m.settings, lt-ltb (length s) (record_size + kept_of s) h)
      (pick_any (λ (a : SlotAnswer). a ≡ short last) (ltb (length s) record_size) _ _ refl refl)

  pub marked_whole : record_size + kept_of s ≤ length s → slot_of s last ≡ Slot (kept_of s) (mode_of (get_or s 4 0))
  unfolding slot_of
  marked_whole h = simp (m.some, m.first, m.second, m.settings, le-ltb (length s) record_size (omega (arith, h)), le-ltb (length s) (record_size + kept_of s) h)
