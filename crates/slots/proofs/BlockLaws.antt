-- A record is found again, however the input is cut into blocks.
-- Assumes nothing.
use Prim.Native.Nat.{ℕ, ◌+◌, ◌≤◌, ◌<◌}
use mathlib.Core.Path.{◌≡◌, refl, sym, ap, ap₂, ◌∙◌}
use mathlib.Core.List.{List, [], ◌∷◌, ◌++◌}
use mathlib.Core.Bool.{Bool, true, false}
use native.Mathlib.Omega.{arith}
use borrow.Author.Tests.{lt-leb, le-ltb, ltb-false, ne_eqb, eqb-false}
use lib.ListN.{length, get_or, take, drop, length-append, get_or-append}
use lib.Seq.{take_at, drop_at}
use lib.Dec.{leb, ltb, eqb}
use Rattle.wire.proofs.ChoiceLaws.{pick_any, pick_leb}
use Rattle.wire.specs.Number.{be, be_at}
use Rattle.wire.proofs.NumberLaws.{be_to_be, padded_cells}
use Rattle.families.specs.Family.{mode_of}
use Rattle.slots.specs.Slot.{mark_first, mark_second, record_size, settings_limit, found, differs, over_settings, kept_of, slot_of, Decided, record_of}
use Rattle.slots.specs.declared.SlotAnswer.{SlotAnswer}
use Rattle.slots.specs.declared.SlotAnswer.TheVariants.{Slot}
use Rattle.slots.proofs.SlotLaws.{pick_both}

-- ---- blocks of input

found_there : (test : ℕ → Bool) (s : List ℕ) (at : ℕ) → found test s at ≡ true → at < length s
unfolding found
found_there test s at =
    pick_leb (λ (b : Bool). b ≡ true → at < length s) (length s) at false (test (get_or s at 0))
    (λ h e. let z : ◌≡◌ {A = ℕ} 0 1 = cc in absurd (omega arith)) (λ h e. h)

found_not : (test : ℕ → Bool) (s : List ℕ) (at : ℕ) → test (get_or s at 0) ≡ false → found test s at ≡ false
unfolding found
found_not test s at e = pick_any (λ (b : Bool). b ≡ false) (leb (length s) at) false (test (get_or s at 0)) refl e

-- bytes that follow change nothing at a place before them
found_before : (test : ℕ → Bool) (s t : List ℕ) (at : ℕ) → at < length s → found test (s ++ t) at ≡ found test s at
unfolding found
found_before test s t at h =
    let more : at < length (s ++ t) = omega (arith, length-append s t) in
    rw (lt-leb (length s) at h, lt-leb (length (s ++ t)) at more) (ap test (get_or-append s t 0 at h))

kept_before : (s t : List ℕ) → 4 ≤ length s → kept_of (s ++ t) ≡ kept_of s
unfolding be_at
kept_before s t h =
    ap be
    (padded_cells (s ++ t) 2 2
    ∙ ap₂ (λ (a b : ℕ). a ∷ b ∷ []) (get_or-append s t 0 2 (omega arith)) (get_or-append s t 0 3 (omega arith))
    ∙ sym (padded_cells s 2 2))

-- what the bytes in hand decide stays so, whatever follows and whenever the input ends
pub decided : (s t : List ℕ) (last : Bool) → Decided (slot_of s false) → slot_of (s ++ t) last ≡ slot_of s false
unfolding slot_of
decided s t last =
    let P : SlotAnswer → Type 0 = λ a. Decided a → slot_of (s ++ t) last ≡ a in
    pick_both P (eqb (length s) 0) _ _ (λ e d. absurd d) (λ e.
    let one : 0 < length s = omega (arith, eqb-false (length s) 0 e) in
    let some : eqb (length (s ++ t)) 0 ≡ false = ne_eqb (length (s ++ t)) 0 (λ z. omega (arith, length-append s t)) in
    pick_both P (differs s 0 mark_first) _ _ (λ wrong d. simp (some, found_before _ s t 0 one ∙ wrong)) (λ first.
    let first' = found_before _ s t 0 one ∙ first in
    pick_both P (differs s 1 mark_second) _ _ (λ wrong d. simp (some, first', found_before _ s t 1 (found_there _ s 1 wrong) ∙ wrong)) (λ second.
    let second' : 1 < length s → differs (s ++ t) 1 mark_second ≡ false = λ h. found_before _ s t 1 h ∙ second in
    pick_both P (over_settings s) _ _
    (λ wrong d.
    let four = found_there _ s 4 wrong in
    simp (some, first', second' (omega arith), found_before _ s t 4 four ∙ wrong)) (λ over.
    pick_both P (ltb (length s) record_size) _ _ (λ e d. absurd d) (λ header.
    pick_both P (ltb (length s) (record_size + kept_of s)) _ _ (λ e d. absurd d) (λ there d.
    let long : record_size ≤ length s = ltb-false (length s) record_size header in
    let all : record_size + kept_of s ≤ length s = ltb-false (length s) (record_size + kept_of s) there in
    let more = length-append s t in
    simp (
      some,
      first',
      second' (omega arith),
      found_before _ s t 4 (omega arith) ∙ over,
      le-ltb (length (s ++ t)) record_size (omega arith),
      kept_before s t (omega arith),
      le-ltb (length (s ++ t)) (record_size + kept_of s) (omega arith),
      get_or-append s t 0 4 (omega arith),
    )))))))

-- ---- a record

module _ (settings : ℕ) (kept : List ℕ) (s : settings ≤ settings_limit) (k : length kept ≤ 65535) where
  long : length (record_of settings kept) ≡ record_size + length kept
  unfolding record_of
  long = omega arith

  count : kept_of (record_of settings kept) ≡ length kept
  unfolding record_of be_at
  count = be_to_be 2 (length kept) (omega arith)

  alone : slot_of (record_of settings kept) false ≡ Slot (length kept) (mode_of settings)
  unfolding slot_of record_of
  alone =
      let r : List ℕ = record_of settings kept in
      let first : differs r 0 mark_first ≡ false = found_not _ r 0 refl in
      let second : differs r 1 mark_second ≡ false = found_not _ r 1 refl in
      let over : over_settings r ≡ false = found_not _ r 4 (le-ltb settings_limit settings s) in
      simp (
        ne_eqb (length r) 0 (λ z. omega (arith, long)),
        first,
        second,
        over,
        le-ltb (length r) record_size (omega (arith, long)),
        count,
        le-ltb (length r) (record_size + length kept) (omega (arith, long)),
      )

  -- is found at the front of any input, with its kept bytes, and what follows it is the rest
  pub record_read : (rest : List ℕ) (last : Bool) → slot_of (record_of settings kept ++ rest) last ≡ Slot (length kept) (mode_of settings)
  record_read rest last = decided (record_of settings kept) rest last (rw alone tt) ∙ alone

  pub record_kept : (rest : List ℕ) → take (length kept) (drop record_size (record_of settings kept ++ rest)) ≡ kept
  unfolding record_of
  record_kept rest = take_at kept rest (length kept) refl

  pub record_rest : (rest : List ℕ) → drop (record_size + length kept) (record_of settings kept ++ rest) ≡ rest
  record_rest rest = drop_at (record_of settings kept) rest (record_size + length kept) long
