-- Laws of one segment by its type: what is kept of it and what it counts; and of a path of them.
-- Assumes nothing.
use Prim.Native.Nat.{ℕ, ◌+◌, ◌≤◌}
use mathlib.Core.Path.{◌≡◌, refl, sym, ap, ap₂, ◌∙◌}
use mathlib.Core.List.{List, [], ◌∷◌, ◌++◌, append_assoc, append-nil}
use mathlib.Core.Bool.{Bool, true, false}
use native.Mathlib.Omega.{arith}
use lib.ListN.{length}
use lib.Dec.{leb, eqb}
use Rattle.wire.specs.Choice.{pick}
use Rattle.wire.specs.Walk.{tally, flat}
use Rattle.wire.proofs.ChoiceLaws.{pick_any}
use Rattle.wire.proofs.WalkLaws.{tally_flat, flat_length}
use Rattle.paths.specs.Segment.{Segment, as_set, asns_of}
use Rattle.as4.specs.Merge.{confed_sequence, is_confed, route_len, route_len_of, kept}
use Rattle.as4.specs.Private.{kept_count, kept_of, kept_by, route_count}

-- ---- what is kept

module _ (kind : ℕ) where
  module _ (n : ℕ) where
    pub count_most : kept_count kind n ≤ n
    unfolding kept_count
    count_most = pick_any (λ (k : ℕ). k ≤ n) (leb confed_sequence kind) 0 n (omega arith) (omega arith)

  module _ (l : List ℕ) where
    pub all_kept : leb confed_sequence kind ≡ false → kept_of kind l ≡ l
    unfolding kept_of
    all_kept e = rw e

    pub all_dropped : leb confed_sequence kind ≡ true → kept_of kind l ≡ []
    unfolding kept_of
    all_dropped e = rw e

    -- as many as its places
    pub kept_length : length (kept_of kind l) ≡ kept_count kind (length l)
    unfolding kept_of kept_count
    kept_length = by (leb confed_sequence kind)
      where
        by : (t : Bool) → length (pick t [] l) ≡ pick t 0 (length l)
        by true = refl
        by false = refl

-- a split adds one at most
pub one_most : (n : ℕ) → pick (leb 1 n) 1 0 ≤ 1
one_most n = pick_any (λ (k : ℕ). k ≤ 1) (leb 1 n) 1 0 (omega arith) (omega arith)

-- ---- what is counted

pub route_most : (kind n : ℕ) → route_count kind n ≤ 1 + n
unfolding route_count
route_most kind n = pick_any (λ (k : ℕ). k ≤ 1 + n) (eqb kind as_set) 1 _ (omega arith) (omega (arith, count_most kind n))

pub route_is : (g : Segment) → route_count g.kind (length (asns_of g)) ≡ route_len g
unfolding route_count kept_count
route_is g = refl

tally_same : {A : Type 0} (f h : A → ℕ) → ((a : A) → f a ≡ h a) → (rows : List A) → tally f rows ≡ tally h rows
unfolding tally
tally_same f h e [] = refl
tally_same f h e (a ∷ rows) = ap₂ ◌+◌ (e a) (tally_same f h e rows)

pub route_tally : (rows : List Segment) → tally (λ g. route_count g.kind (length (asns_of g))) rows ≡ route_len_of rows
route_tally = tally_same _ _ route_is

-- ---- places of segments, some and those after them

pub flat_join : {A : Type 0} (emit : A → List ℕ) (rows more : List A) → flat emit (rows ++ more) ≡ flat emit rows ++ flat emit more
unfolding flat
flat_join emit [] more = refl
flat_join emit (a ∷ rows) more = ap (λ (l : List ℕ). emit a ++ l) (flat_join emit rows more) ∙ sym (append_assoc (emit a) (flat emit rows) (flat emit more))

-- of one
pub flat_one : (emit : Segment → List ℕ) (g : Segment) → flat emit (g ∷ []) ≡ emit g
unfolding flat
flat_one emit g = append-nil (emit g)

-- ---- a path without confederation segments

module _ (emit : Segment → List ℕ) where
  -- its places are those that are kept
  pub flat_kept : (rows : List Segment) → flat (kept_by emit) rows ≡ flat emit (kept rows)
  unfolding flat kept kept_of
  flat_kept [] = refl
  flat_kept (g ∷ rows) = by (is_confed g) (flat_kept rows)
    where
      by : (t : Bool) → flat (kept_by emit) rows ≡ flat emit (kept rows) → pick t [] (emit g) ++ flat (kept_by emit) rows ≡ flat emit (pick t (kept rows) (g ∷ kept rows))
      by true e = e
      by false e = ap (λ (l : List ℕ). emit g ++ l) e

  kept_tally : (rows : List Segment) → tally (λ g. kept_count g.kind (length (emit g))) rows ≡ length (flat emit (kept rows))
  kept_tally rows = tally_same _ _ (λ g. sym (kept_length g.kind (emit g))) rows ∙ tally_flat (kept_by emit) rows ∙ ap length (flat_kept rows)

pub kept_numbers : (rows : List Segment) → tally (λ g. kept_count g.kind (length (asns_of g))) rows ≡ length (flat asns_of (kept rows))
kept_numbers = kept_tally asns_of

pub kept_segments : (rows : List Segment) → tally (λ g. kept_count g.kind 1) rows ≡ length (kept rows)
kept_segments rows =
    let one : Segment → List ℕ = λ g. g.kind ∷ [] in
    kept_tally one rows ∙ flat_length one 1 (λ g. refl) (kept rows) ∙ omega arith
