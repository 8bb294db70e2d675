-- Laws of a store of rows without its marks: place by place, and row by row.
-- Assumes nothing.
use Prim.Native.Nat.{ℕ, zero, suc, ◌+◌, ◌-◌, ◌/◌, ◌%◌, ◌≤◌, ◌<◌}
use mathlib.Core.Path.{◌≡◌, refl, sym, ap, ap₂, ◌∙◌}
use mathlib.Core.List.{List, [], ◌∷◌, ◌++◌, append_assoc, append-nil, map}
use mathlib.Core.Bool.{false}
use native.Mathlib.Omega.{arith}
use borrow.Author.Tests.{eq-eqb, ne_eqb}
use lib.ListN.{length, get_or, set, take, drop, length-set, drop_of_length-le}
use lib.Seq.{drop-drop, take-add, take_all}
use Rattle.std.specs.Prelude.{Ok, Err}
use Rattle.wire.specs.Walk.{flat}
use Rattle.wire.specs.declared.refusal.Refusal.TheVariants.{NotWritable}
use Rattle.routes.specs.Prefix.{words}
use Rattle.routes.proofs.ListLaws.{words_length}
use Rattle.routes.specs.declared.Row.{Row}
use Rattle.route_marks.specs.Marks.{has_mark, unmarked, bare, cleared_from, cleared}
use Rattle.route_marks.specs.Promises.{clear_answer, clear_after}

-- ---- a number

-- one under the mark has none to take off; with it, it is as it was before
pub unmarked_low : (w : ℕ) → w < 512 → unmarked w ≡ w
unmarked_low w h = omega arith

pub unmarked_marked : (w : ℕ) → w < 512 → unmarked (w + 512) ≡ w
unmarked_marked w h = omega arith

-- the bit is off; those below it and those above it are as they were
pub unmarked_bits : (w : ℕ) → (has_mark (unmarked w) ≡ false) × (unmarked w % 512 ≡ w % 512) × (unmarked w / 1024 ≡ w / 1024)
unmarked_bits w = (ne_eqb (unmarked w / 512 % 2) 1 (λ e. omega (arith, e)), omega arith, omega arith)

-- ---- places

pub cleared_length : (skip : ℕ) (ws : List ℕ) → length (cleared_from skip ws) ≡ length ws
unfolding cleared_from
cleared_length skip [] = refl
cleared_length zero (w ∷ ws) = ap suc (cleared_length 5 ws)
cleared_length (suc skip) (w ∷ ws) = ap suc (cleared_length skip ws)

-- of six, that which follows those passed over has its mark off, and the others stay
first_at : (skip : ℕ) (ws : List ℕ) (i : ℕ) → skip ≤ 5 → (i + 6 - skip) % 6 ≡ 0 → get_or (cleared_from skip ws) i 0 ≡ unmarked (get_or ws i 0)
unfolding cleared_from
first_at skip [] i few h = refl
first_at zero (w ∷ ws) zero few h = refl
first_at zero (w ∷ ws) (suc i) few h = first_at 5 ws i (omega arith) (omega (arith, h))
first_at (suc skip) (w ∷ ws) zero few h = absurd (omega (arith, few, h))
first_at (suc skip) (w ∷ ws) (suc i) few h = first_at skip ws i (omega (arith, few)) (omega (arith, h))

other_at : (skip : ℕ) (ws : List ℕ) (i : ℕ) → skip ≤ 5 → ((i + 6 - skip) % 6 ≡ 0 → ⊥) → get_or (cleared_from skip ws) i 0 ≡ get_or ws i 0
unfolding cleared_from
other_at skip [] i few h = refl
other_at zero (w ∷ ws) zero few h = absurd (h refl)
other_at zero (w ∷ ws) (suc i) few h = other_at 5 ws i (omega arith) (λ e. h (omega (arith, e)))
other_at (suc skip) (w ∷ ws) zero few h = refl
other_at (suc skip) (w ∷ ws) (suc i) few h = other_at skip ws i (omega (arith, few)) (λ e. h (omega (arith, few, e)))

pub cleared_first : (ws : List ℕ) (i : ℕ) → i % 6 ≡ 0 → get_or (cleared ws) i 0 ≡ unmarked (get_or ws i 0)
cleared_first ws i h = first_at 0 ws i (omega arith) (omega (arith, h))

pub cleared_other : (ws : List ℕ) (i : ℕ) → (i % 6 ≡ 0 → ⊥) → get_or (cleared ws) i 0 ≡ get_or ws i 0
cleared_other ws i h = other_at 0 ws i (omega arith) (λ e. h (omega (arith, e)))

-- ---- rows

pub cleared_words : (rows : List Row) → cleared (flat words rows) ≡ flat words (map bare rows)
unfolding flat cleared_from
cleared_words [] = refl
cleared_words (r ∷ rows) = ap (λ (ws : List ℕ). words (bare r) ++ ws) (cleared_words rows)

-- ---- a turn of the loop

-- places that are passed over
passed : (skip : ℕ) (ws : List ℕ) → cleared_from skip ws ≡ take skip ws ++ cleared_from 0 (drop skip ws)
unfolding cleared_from
passed zero ws = refl
passed (suc skip) [] = refl
passed (suc skip) (w ∷ ws) = ap (λ (l : List ℕ). w ∷ l) (passed skip ws)

-- a first word
first : (d : List ℕ) (at : ℕ) → at < length d
    → let d' = set d at (unmarked (get_or d at 0)) in take at d ++ cleared_from 0 (drop at d) ≡ take (suc at) d' ++ cleared_from 5 (drop (suc at) d')
unfolding cleared_from
first [] at h = absurd (omega (arith, h))
first (w ∷ ws) zero h = refl
first (w ∷ ws) (suc at) h = ap (λ (l : List ℕ). w ∷ l) (first ws at (omega (arith, h)))

-- at its head: the marks are off before `at`, whole rows are left, and clearing these too is clearing the store
pub record Clearing (ws d : List ℕ) (at : ℕ) : Type 0 where
  pub long : length d ≡ length ws
  pub rows : (length ws - at) % 6 ≡ 0
  pub within : at ≤ length ws
  pub is : cleared ws ≡ take at d ++ cleared (drop at d)

pub clearing_start : (ws : List ℕ) → length ws % 6 ≡ 0 → Clearing ws ws 0
clearing_start ws h = record { long = refl; rows = omega (arith, h); within = omega arith; is = refl }

module _ (ws d : List ℕ) (at : ℕ) (h : Clearing ws d at) where
  pub clearing_step : at < length d → (v : ℕ) → v ≡ unmarked (get_or d at 0) → Clearing ws (set d at v) (at + 6)
  clearing_step lt v e =
      let d' : List ℕ = set d at v in
      let fits : at + 6 ≤ length ws = omega (arith, h.long, h.rows) in
      let all : suc at + 5 ≡ at + 6 = omega arith in
      let put : take at d ++ cleared (drop at d) ≡ take (suc at) d' ++ cleared_from 5 (drop (suc at) d') =
      first d at lt ∙ ap (λ (x : ℕ). take (suc at) (set d at x) ++ cleared_from 5 (drop (suc at) (set d at x))) (sym e) in
      let on : take (suc at) d' ++ cleared_from 5 (drop (suc at) d') ≡ take (at + 6) d' ++ cleared (drop (at + 6) d') =
      ap (λ (l : List ℕ). take (suc at) d' ++ l) (passed 5 (drop (suc at) d'))
      ∙ sym (append_assoc (take (suc at) d') (take 5 (drop (suc at) d')) (cleared (drop 5 (drop (suc at) d'))))
      ∙ ap₂ (λ (l r : List ℕ). l ++ cleared r) (sym (take-add (suc at) 5 d')) (drop-drop 5 (suc at) d')
      ∙ ap (λ (i : ℕ). take i d' ++ cleared (drop i d')) all in
      record { long = length-set d at v ∙ h.long; rows = omega (arith, h.rows, fits); within = fits; is = h.is ∙ put ∙ on }

  pub clearing_done : length d ≤ at → d ≡ cleared ws
  unfolding cleared_from
  clearing_done le =
      sym (h.is ∙ ap₂ (λ (l r : List ℕ). l ++ cleared r) (take_all at d le) (drop_of_length-le d le) ∙ append-nil d)

-- ---- what is answered and left

module _ (ws : List ℕ) where
  pub clear_whole : length ws % 6 ≡ 0 → (Ok (length ws / 6) ≡ clear_answer (length ws)) × (cleared ws ≡ clear_after ws)
  unfolding clear_answer clear_after
  clear_whole h = (simp (eq-eqb _ _ h), simp (eq-eqb _ _ h))

  pub clear_part : (length ws % 6 ≡ 0 → ⊥) → (Err NotWritable ≡ clear_answer (length ws)) × (ws ≡ clear_after ws)
  unfolding clear_answer clear_after
  clear_part h = (simp (ne_eqb _ _ h), simp (ne_eqb _ _ h))

-- of rows
pub clear_rows : (rows : List Row) → (clear_answer (length (flat words rows)) ≡ Ok (length rows)) × (clear_after (flat words rows) ≡ flat words (map bare rows))
clear_rows rows =
    let places = words_length rows in
    let whole = clear_whole (flat words rows) (omega (arith, places)) in
    let sixth : length (flat words rows) / 6 ≡ length rows = omega (arith, places) in
    (sym whole.0 ∙ ap Ok sixth, sym whole.1 ∙ cleared_words rows)
