-- Laws of the leading segments of a path, of the path that is built, and of what both count.
-- Assumes nothing.
use Prim.Native.Nat.{ℕ, ◌-◌, ◌≤◌, ◌<◌}
use mathlib.Core.Path.{◌≡◌, refl, ap}
use mathlib.Core.List.{List, [], ◌∷◌}
use mathlib.Core.Bool.{Bool, true, false}
use mathlib.Core.Logic.{◌⊎◌, ⊎_elim}
use native.Mathlib.Omega.{arith}
use borrow.Author.Tests.{leb-true, ne_eqb}
use lib.ListN.{length}
use lib.Dec.{leb, eqb}
use Rattle.std.proofs.lemmas.Bool.{both_ways}
use Rattle.wire.specs.Choice.{pick}
use Rattle.wire.proofs.ChoiceLaws.{pick_eqb, pick_leb}
use Rattle.paths.specs.Segment.{Segment, as_set, asns_of}
use Rattle.as4.specs.Merge.{is_confed, route_len, leading, split}

-- ---- what one segment counts

module _ (g : Segment) where
  pub confed_none : is_confed g ≡ true → route_len g ≡ 0
  confed_none e =
      let h : 3 ≤ g.kind = leb-true 3 g.kind e in
      let n : (g.kind ≡ as_set → ⊥) = λ f. omega (arith, f, h) in
      rw (ne_eqb g.kind as_set n, e)

  -- one that counts two and more is a sequence, with so many numbers
  pub many_numbers : 1 < route_len g → route_len g ≡ length (asns_of g)
  many_numbers = pick_eqb (λ (x : ℕ). 1 < x → x ≡ length (asns_of g)) g.kind as_set _ _ (λ _ h. absurd (omega (arith, h))) (λ _. by (is_confed g))
    where
      by : (t : Bool) → 1 < pick t 0 (length (asns_of g)) → pick t 0 (length (asns_of g)) ≡ length (asns_of g)
      by true h = absurd (omega (arith, h))
      by false h = refl

-- ---- the leading segments

module _ (n : ℕ) (g : Segment) (path : List Segment) where
  -- by cases on a segment: it is of a confederation; nothing is left to make up; it is taken whole; or it is split
  pub lead_cases : (P : List Segment → Type 0) → (is_confed g ≡ true → P (g ∷ leading n path)) → (is_confed g ≡ false → n ≡ 0 → P [])
      → (is_confed g ≡ false → 0 < n → route_len g ≤ n → P (g ∷ leading (n - route_len g) path))
      → (is_confed g ≡ false → 0 < n → n < route_len g → P (split n g ∷ [])) → P (leading n (g ∷ path))
  unfolding leading
  lead_cases P c z w s = by (is_confed g) refl
    where
      by : (t : Bool) → is_confed g ≡ t
          → P (pick t (g ∷ leading n path) (pick (eqb n 0) [] (pick (leb (route_len g) n) (g ∷ leading (n - route_len g) path) (split n g ∷ []))))
      by true e = c e
      by false e =
          pick_eqb P n 0 _ _ (z e)
          (λ some. let pos : 0 < n = omega (arith, some) in pick_leb P (route_len g) n _ _ (w e pos) (s e pos))

  -- of a confederation, or something is left to make up: so it is taken
  module _ (c : is_confed g ≡ true ⊎ 0 < n) where
    not_ended : is_confed g ≡ false → n ≡ 0 → ⊥
    not_ended e z = ⊎_elim (both_ways (is_confed g) e) (λ (pos : 0 < n). omega (arith, pos, z)) c

    -- whole
    pub lead_whole : route_len g ≤ n → leading n (g ∷ path) ≡ g ∷ leading (n - route_len g) path
    lead_whole h =
        lead_cases (λ (l : List Segment). l ≡ g ∷ leading (n - route_len g) path)
        (λ e. let same : n ≡ n - route_len g = omega (arith, confed_none g e) in ap (λ (k : ℕ). g ∷ leading k path) same)
        (λ e z. absurd (not_ended e z))
        (λ _ _ _. refl)
        (λ _ _ lt. absurd (omega (arith, lt, h)))

    -- or split
    pub lead_split : n < route_len g → (leading n (g ∷ path) ≡ split n g ∷ []) × (0 < n) × (n < length (asns_of g))
    lead_split h =
        lead_cases (λ (l : List Segment). (l ≡ split n g ∷ []) × (0 < n) × (n < length (asns_of g)))
        (λ e. absurd (omega (arith, confed_none g e, h)))
        (λ e z. absurd (not_ended e z))
        (λ _ _ le. absurd (omega (arith, le, h)))
        (λ _ pos _. (refl, pos, omega (arith, h, many_numbers g (omega (arith, pos, h)))))

-- with nothing left to make up, a segment of no confederation ends it
pub lead_ends : (g : Segment) (path : List Segment) → is_confed g ≡ false → leading 0 (g ∷ path) ≡ []
unfolding leading
lead_ends g path e = rw e
