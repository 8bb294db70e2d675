-- Laws of the path that is built, over lists of segments: what it counts, and where its segments come from.
-- Assumes nothing.
use Prim.Native.Nat.{ℕ, ◌+◌, ◌-◌, ◌≤◌, ◌<◌}
use mathlib.Core.Path.{◌≡◌, refl, sym, ap, subst, ◌∙◌}
use mathlib.Core.List.{List, [], ◌∷◌, ◌++◌, append_assoc, append-nil}
use mathlib.Core.Logic.{inl, inr, ⊎_elim}
use mathlib.Core.Bool.{Bool, true, false, ◌&&◌}
use native.Mathlib.Omega.{arith}
use borrow.Author.Tests.{leb-true, eq-eqb, ne_eqb}
use lib.ListN.{length}
use lib.Seq.{length-take-le}
use lib.Dec.{leb, eqb}
use Rattle.wire.specs.Choice.{pick}
use Rattle.wire.specs.Cutting.{Each, none, one}
use Rattle.wire.specs.Walk.{tally}
use Rattle.wire.proofs.ChoiceLaws.{and_true}
use Rattle.wire.proofs.WalkLaws.{tally_append}
use Rattle.paths.specs.Segment.{Segment, as_set, asns_of}
use Rattle.as4.specs.Merge.{is_confed, route_len, route_len_of, kept, split, leading, some, joint, merged, Piece, nothing, cut, Comes}
use Rattle.as4.proofs.MergeLaws.{confed_none, many_numbers, lead_cases}

-- ---- what they count

-- so many numbers of a sequence count so much
set_one : (g : Segment) → g.kind ≡ as_set → route_len g ≡ 1
set_one g e = rw (eq-eqb g.kind as_set e)

numbers_count : (s c : Bool) (k : ℕ) → s ≡ false → c ≡ false → pick s 1 (pick c 0 k) ≡ k
numbers_count s c k e f = rw (e, f)

split_counts : (n : ℕ) (g : Segment) → is_confed g ≡ false → 0 < n → n < route_len g → route_len (split n g) ≡ n
split_counts n g e pos lt =
    let other : (g.kind ≡ as_set → ⊥) = λ f. omega (arith, set_one g f, lt, pos) in
    numbers_count (eqb g.kind as_set) (is_confed g) _ (ne_eqb g.kind as_set other) e
    ∙ length-take-le n (asns_of g) (omega (arith, lt, many_numbers g (omega (arith, lt, pos))))

pub leading_counts : (path : List Segment) (n : ℕ) → n ≤ route_len_of path → route_len_of (leading n path) ≡ n
unfolding tally leading
leading_counts [] n h = omega (arith, h)
leading_counts (g ∷ path) n h =
    lead_cases n g path (λ (l : List Segment). route_len_of l ≡ n)
    (λ e. let none = confed_none g e in omega (arith, none, leading_counts path n (omega (arith, h, none))))
    (λ _ z. omega (arith, z))
    (λ _ _ le. omega (arith, le, leading_counts path (n - route_len g) (omega (arith, h, le))))
    (λ e pos lt. omega (arith, split_counts n g e pos lt))

-- ---- the path

-- by cases: it is AS_PATH, or its leading segments and what is left of AS4_PATH, which then counts no more
pub joint_cases : (path four : List Segment) (P : List Segment → Type 0) → P path
    → (route_len_of four ≤ route_len_of path → P (leading (route_len_of path - route_len_of four) path ++ four)) → P (joint path four)
unfolding joint
joint_cases path four P alone built = by (some four && leb (route_len_of four) (route_len_of path)) refl
  where
    by : (t : Bool) → some four && leb (route_len_of four) (route_len_of path) ≡ t → P (pick t (leading (route_len_of path - route_len_of four) path ++ four) path)
    by true e = built (leb-true _ _ (and_true (some four) _ e).1)
    by false e = alone

-- it counts as AS_PATH does
pub merged_counts : (path four : List Segment) → route_len_of (merged path four) ≡ route_len_of path
merged_counts path four =
    joint_cases path (kept four) (λ (l : List Segment). route_len_of l ≡ route_len_of path) refl
    (λ le. tally_append route_len (leading (route_len_of path - route_len_of (kept four)) path) (kept four)
    ∙ ap (λ (k : ℕ). k + route_len_of (kept four)) (leading_counts path (route_len_of path - route_len_of (kept four)) (omega arith))
    ∙ omega (arith, le))

-- the leading segments are the first of a path, whole but for the last
leading_from : (path : List Segment) (n : ℕ)
    → (front : List Segment) × (rest : List Segment) × (piece : List Segment) × (front ++ rest ≡ path) × Piece rest piece × (leading n path ≡ front ++ piece)
unfolding leading
leading_from [] n = ([], [], [], refl, nothing [], refl)
leading_from (g ∷ path) n =
    lead_cases n g path
    (λ (l : List Segment). (front : List Segment) × (rest : List Segment) × (piece : List Segment) × (front ++ rest ≡ g ∷ path) × Piece rest piece × (l ≡ front ++ piece))
    (λ _. longer (leading_from path n))
    (λ _ _. ([], g ∷ path, [], refl, nothing (g ∷ path), refl))
    (λ _ _ _. longer (leading_from path (n - route_len g)))
    (λ _ pos lt. ([], g ∷ path, split n g ∷ [], refl, cut n g path pos (omega (arith, lt, many_numbers g (omega (arith, lt, pos)))), refl))
  where
    longer : {l : List Segment} → (front : List Segment) × (rest : List Segment) × (piece : List Segment) × (front ++ rest ≡ path) × Piece rest piece × (l ≡ front ++ piece)
        → (front : List Segment) × (rest : List Segment) × (piece : List Segment) × (front ++ rest ≡ g ∷ path) × Piece rest piece × (g ∷ l ≡ front ++ piece)
    longer f = (g ∷ f.0, f.1, f.2, ap (λ (l : List Segment). g ∷ l) f.3, f.4, ap (λ (l : List Segment). g ∷ l) f.5)

-- every segment of AS_PATH, and what is built, comes from the two
pub alone_comes : (path four : List Segment) → Comes path four path
alone_comes path four = record { front = path; rest = []; piece = []; more = []; parts = append-nil path; once = nothing []; left = inl refl; is = sym (append-nil path) }

pub merged_comes : (path four : List Segment) → Comes path four (merged path four)
merged_comes path four =
    joint_cases path (kept four) (Comes path four) (alone_comes path four)
    (λ le.
    let f = leading_from path (route_len_of path - route_len_of (kept four)) in
    record {
      front = f.0;
      rest = f.1;
      piece = f.2;
      more = kept four;
      parts = f.3;
      once = f.4;
      left = inr refl;
      is = ap (λ (l : List Segment). l ++ kept four) f.5 ∙ append_assoc f.0 f.2 (kept four);
    })

-- ---- what holds of each segment of both holds of each of what is built, if it holds of a part where it holds of the whole

each_append : {A : Type 0} {P : A → Type 0} (l m : List A) → Each P l → Each P m → Each P (l ++ m)
each_append [] m none q = q
each_append (a ∷ l) m (one p ps) q = one p (each_append l m ps q)

each_front : {A : Type 0} {P : A → Type 0} (l m : List A) → Each P (l ++ m) → Each P l × Each P m
each_front [] m q = (none, q)
each_front (a ∷ l) m (one p ps) = let f = each_front l m ps in (one p f.0, f.1)

module _ (P : Segment → Type 0) (shorter : (n : ℕ) (g : Segment) → 0 < n → n < length (asns_of g) → P g → P (split n g)) where
  each_kept : (rows : List Segment) → Each P rows → Each P (kept rows)
  unfolding kept
  each_kept [] none = none
  each_kept (g ∷ rows) (one p ps) = by (is_confed g) (each_kept rows ps)
    where
      by : (t : Bool) → Each P (kept rows) → Each P (pick t (kept rows) (g ∷ kept rows))
      by true h = h
      by false h = one p h

  each_piece : (rest piece : List Segment) → Piece rest piece → Each P rest → Each P piece
  each_piece _ _ (nothing rest) ps = none
  each_piece _ _ (cut n g rest pos lt) (one p ps) = one (shorter n g pos lt p) none

  pub comes_each : (path four built : List Segment) → Comes path four built → Each P path → Each P four → Each P built
  comes_each path four built c p q =
      let f = each_front c.front c.rest (subst (Each P) (sym c.parts) p) in
      let more = ⊎_elim (λ (e : c.more ≡ []). subst (Each P) (sym e) none) (λ (e : c.more ≡ kept four). subst (Each P) (sym e) (each_kept four q)) c.left in
      subst (Each P) (sym c.is) (each_append c.front (c.piece ++ c.more) f.0 (each_append c.piece c.more (each_piece c.rest c.piece c.once f.1) more))
