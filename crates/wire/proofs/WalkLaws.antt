-- Laws of reading item by item, over any step.
-- Assumes nothing.
use Prim.Native.Nat.{ℕ, zero, suc, ◌+◌, ◌*◌, ◌≤◌, ◌<◌}
use mathlib.Core.Path.{◌≡◌, refl, sym, ap, ap₂, subst, ◌∙◌}
use mathlib.Core.List.{List, [], ◌∷◌, ◌++◌, map}
use native.Mathlib.Nat.{not-suc-le-zero, le_refl, zero-add, mul-zero, mul-suc}
use native.Mathlib.Numerals.{sub-one}
use native.Mathlib.Omega.{arith}
use lib.ListN.{length, get_or, take, drop, length-drop, length-append}
use lib.Seq.{drop-drop, length-take-le}
use Rattle.wire.specs.declared.refusal.Refusal.{Refusal}
use Rattle.wire.specs.Walk.{Step, took, stop, Reading, whole, refused, more, after, walk, read_all, noted, notes, pieces, starts, past, tally, flat}

-- ---- the equations that a reader expects

module _ {S A : Type 0} (step : S → List ℕ → Step S A) where
  walk_skip : (st : S) (k : ℕ) (s : List ℕ) → walk step st k s ≡ walk step st 0 (drop k s)
  unfolding walk
  walk_skip st zero [] = refl
  walk_skip st (suc k) [] = refl
  walk_skip st zero (b ∷ s) = refl
  walk_skip st (suc k) (b ∷ s) = walk_skip st k s

  pub all_nil : (st : S) → read_all step st [] ≡ whole
  unfolding read_all walk
  all_nil st = refl

  pub all_stop : (st : S) (s : List ℕ) (n : Refusal) → 0 < length s → step st s ≡ stop n → read_all step st s ≡ refused n
  unfolding read_all walk
  all_stop st [] n pos e = absurd (not-suc-le-zero pos)
  all_stop st (b ∷ s) n pos e = rw e

  pub all_took : (st st' : S) (s : List ℕ) (used : ℕ) (a : A) → 0 < length s → 0 < used → step st s ≡ took used a st'
      → read_all step st s ≡ more a (read_all step st' (drop used s))
  unfolding read_all walk
  all_took st st' [] used a pos up e = absurd (not-suc-le-zero pos)
  all_took st st' (b ∷ s) zero a pos up e = absurd (not-suc-le-zero up)
  all_took st st' (b ∷ s) (suc k) a pos up e = rw (e, sub-one (suc k)) (ap (more a) (walk_skip st' k s))

-- ---- a step that takes one place at least, and no more than there are

pub record Sound {S A : Type 0} (step : S → List ℕ → Step S A) : Type 0 where
  pub takes : (st st' : S) (s : List ℕ) (used : ℕ) (a : A) → step st s ≡ took used a st' → (0 < used) × (used ≤ length s)

-- ---- induction along a reading

module _ {S A : Type 0} (step : S → List ℕ → Step S A) (sound : Sound step) where
  -- what holds at the end, at a refusal, and of an item and what follows where it holds of what follows, holds of every reading
  module _ {ℓ} (P : S → List ℕ → Reading A → Type ℓ)
      (at_end : (st : S) → P st [] whole)
      (at_stop : (st : S) (s : List ℕ) (n : Refusal) → 0 < length s → step st s ≡ stop n → P st s (refused n))
      (at_took : (st st' : S) (s : List ℕ) (used : ℕ) (a : A) → 0 < length s → step st s ≡ took used a st'
      → P st' (drop used s) (read_all step st' (drop used s)) → P st s (more a (read_all step st' (drop used s)))) where
    turn : (st : S) (s : List ℕ) (x : Step S A) → 0 < length s → ((st' : S) (t : List ℕ) → length t < length s → P st' t (read_all step st' t))
        → step st s ≡ x → P st s (read_all step st s)
    turn st s (took used a st') pos again e =
        let up : 0 < used = (sound.takes st st' s used a e).0 in
        subst (P st s) (sym (all_took step st st' s used a pos up e))
        (at_took st st' s used a pos e (again st' (drop used s) (omega (arith, length-drop used s))))
    turn st s (stop n) pos again e = subst (P st s) (sym (all_stop step st s n pos e)) (at_stop st s n pos e)

    go : (f : ℕ) (st : S) (s : List ℕ) → length s ≤ f → P st s (read_all step st s)
    go zero st [] h = subst (P st []) (sym (all_nil step st)) (at_end st)
    go zero st (b ∷ s) h = absurd (not-suc-le-zero h)
    go (suc f) st [] h = subst (P st []) (sym (all_nil step st)) (at_end st)
    go (suc f) st (b ∷ s) h = turn st (b ∷ s) (step st (b ∷ s)) (omega arith) (λ st' t lt. go f st' t (omega arith)) refl

    pub all_ind : (st : S) (s : List ℕ) → P st s (read_all step st s)
    all_ind st s = go (length s) st s (le_refl (length s))

-- ---- what is said of the items that a reading takes

module _ {S A B : Type 0} (f : S → List ℕ → B) (step : S → List ℕ → Step S A) where
  -- the step, with what f says in place of its value
  abbrev says : S → List ℕ → Step S B
  says st s = noted f s (step st s)

  pub notes_nil : (st : S) → notes f step st [] ≡ []
  unfolding notes
  notes_nil st = ap (λ (r : Reading B). r.rows) (all_nil says st)

  pub notes_stop : (st : S) (s : List ℕ) (n : Refusal) → 0 < length s → step st s ≡ stop n → notes f step st s ≡ []
  unfolding notes
  notes_stop st s n pos e = ap (λ (r : Reading B). r.rows) (all_stop says st s n pos (ap (noted f s) e))

  pub notes_took : (st st' : S) (s : List ℕ) (used : ℕ) (a : A) → 0 < length s → 0 < used → step st s ≡ took used a st'
      → notes f step st s ≡ f st' (take used s) ∷ notes f step st' (drop used s)
  unfolding notes
  notes_took st st' s used a pos up e = ap (λ (r : Reading B). r.rows) (all_took says st st' s used (f st' (take used s)) pos up (ap (noted f s) e))

-- the pieces that it takes
module _ {S A : Type 0} (step : S → List ℕ → Step S A) where
  pub pieces_nil : (st : S) → pieces step st [] ≡ []
  pieces_nil st = notes_nil (λ _ item. item) step st

  pub pieces_stop : (st : S) (s : List ℕ) (n : Refusal) → 0 < length s → step st s ≡ stop n → pieces step st s ≡ []
  pieces_stop st s n pos e = notes_stop (λ _ item. item) step st s n pos e

  pub pieces_took : (st st' : S) (s : List ℕ) (used : ℕ) (a : A) → 0 < length s → 0 < used → step st s ≡ took used a st'
      → pieces step st s ≡ take used s ∷ pieces step st' (drop used s)
  pieces_took st st' s used a pos up e = notes_took (λ _ item. item) step st st' s used a pos up e

-- the step behind one of which something is said
module _ {S A B : Type 0} (f : S → List ℕ → B) (s : List ℕ) where
  noted_took : (x : Step S A) (used : ℕ) (b : B) (st : S) → noted f s x ≡ took used b st → (a : A) × (x ≡ took used a st)
  noted_took (took u a st₁) used b st e = (a, let p : u ≡ used = cc in let q : st₁ ≡ st = cc in ap₂ (λ (n : ℕ) (st₂ : S). took n a st₂) p q)
  noted_took (stop n) used b st e = let z : ◌≡◌ {A = ℕ} 0 1 = cc in absurd (omega arith)

  noted_stop : (x : Step S A) (n : Refusal) → noted f s x ≡ stop n → x ≡ stop n
  noted_stop (took u a st₁) n e = let z : ◌≡◌ {A = ℕ} 0 1 = cc in absurd (omega arith)
  noted_stop (stop m) n e = let p : m ≡ n = cc in ap stop p

module _ {S A B : Type 0} (f : S → List ℕ → B) (step : S → List ℕ → Step S A) (sound : Sound step) where
  pub noted_sound : Sound (says f step)
  noted_sound = record {
    takes = λ st st' s used b e. (let t = noted_took f s (step st s) used b st' e in sound.takes st st' s used t.0 t.1);
  }

  -- something is said of as many items as are read, up to the same verdict
  pub noted_alike : (st : S) (s : List ℕ) → ((read_all (says f step) st s).verdict ≡ (read_all step st s).verdict) × (length (notes f step st s) ≡ length (read_all step st s).rows)
  unfolding notes
  noted_alike =
      all_ind step sound (λ st s r. ((read_all (says f step) st s).verdict ≡ r.verdict) × (length (read_all (says f step) st s).rows ≡ length r.rows))
      (λ st. let e = all_nil (says f step) st in (ap (λ (r : Reading B). r.verdict) e, ap (λ (r : Reading B). length r.rows) e))
      (λ st s n pos e.
      let g = all_stop (says f step) st s n pos (ap (noted f s) e) in
      (ap (λ (r : Reading B). r.verdict) g, ap (λ (r : Reading B). length r.rows) g))
      (λ st st' s used a pos e again.
      let g = all_took (says f step) st st' s used (f st' (take used s)) pos (sound.takes st st' s used a e).0 (ap (noted f s) e) in
      (ap (λ (r : Reading B). r.verdict) g ∙ again.0, ap (λ (r : Reading B). length r.rows) g ∙ ap suc again.1))

  -- where f says the same of an item in whichever state its step leaves, it is said of the pieces
  pub notes_pieces : (g : List ℕ → B) → ((st st' : S) (s : List ℕ) (used : ℕ) (a : A) → step st s ≡ took used a st' → f st' (take used s) ≡ g (take used s))
      → (st : S) (s : List ℕ) → notes f step st s ≡ map g (pieces step st s)
  notes_pieces g same =
      all_ind step sound (λ st s r. notes f step st s ≡ map g (pieces step st s))
      (λ st. notes_nil f step st ∙ ap (map g) (sym (pieces_nil step st)))
      (λ st s n pos e. notes_stop f step st s n pos e ∙ ap (map g) (sym (pieces_stop step st s n pos e)))
      (λ st st' s used a pos e again.
      let up = (sound.takes st st' s used a e).0 in
      notes_took f step st st' s used a pos up e ∙ ap₂ ◌∷◌ (same st st' s used a e) again ∙ ap (map g) (sym (pieces_took step st st' s used a pos up e)))

-- ---- where the items start

-- as many starts as items
pub starts_length : (at : ℕ) (items : List (List ℕ)) → length (starts at items) ≡ length items
unfolding starts
starts_length at [] = refl
starts_length at (item ∷ items) = ap suc (starts_length (at + length item) items)

-- from a place on, the starts are as many places further
starts_from : (at n : ℕ) (items : List (List ℕ)) → n < length items → get_or (starts at items) n 0 ≡ at + get_or (starts 0 items) n 0
unfolding starts
starts_from at n [] h = absurd (not-suc-le-zero h)
starts_from at zero (item ∷ items) h = omega arith
starts_from at (suc n) (item ∷ items) h =
    let there : n < length items = omega arith in
    omega (arith, starts_from (at + length item) n items there, starts_from (0 + length item) n items there)

module _ {S A : Type 0} (step : S → List ℕ → Step S A) (sound : Sound step) where
  -- that reading from the start of item n reads the items from there on
  abbrev From : S → List ℕ → ℕ → Reading A → Type 0
  From st s n r = (st' : S) × (read_all step st' (drop (get_or (starts 0 (pieces step st s)) n 0) s) ≡ past n r)

  from_took : (st st' : S) (s : List ℕ) (used : ℕ) (a : A) → 0 < length s → step st s ≡ took used a st'
      → ((n : ℕ) → n < length (read_all step st' (drop used s)).rows → From st' (drop used s) n (read_all step st' (drop used s)))
      → (n : ℕ) → n < length (more a (read_all step st' (drop used s))).rows → From st s n (more a (read_all step st' (drop used s)))
  unfolding starts
  from_took st st' s used a pos e again zero h =
      let up = (sound.takes st st' s used a e).0 in (
        st,
        ap (λ (items : List (List ℕ)). read_all step st (drop (get_or (starts 0 items) 0 0) s)) (pieces_took step st st' s used a pos up e)
            ∙ all_took step st st' s used a pos up e,
      )
  from_took st st' s used a pos e again (suc n) h =
      let takes = sound.takes st st' s used a e in
      let items : List (List ℕ) = pieces step st' (drop used s) in
      let there : n < length items = omega (arith, h, (noted_alike (λ _ item. item) step sound st' (drop used s)).1) in
      let size : length (take used s) ≡ used = length-take-le used s takes.1 in
      let start : get_or (starts 0 (pieces step st s)) (suc n) 0 ≡ used + get_or (starts 0 items) n 0 =
      ap (λ (l : List (List ℕ)). get_or (starts 0 l) (suc n) 0) (pieces_took step st st' s used a pos takes.0 e)
      ∙ starts_from (0 + length (take used s)) n items there
      ∙ ap (λ (i : ℕ). i + get_or (starts 0 items) n 0) (zero-add (length (take used s)) ∙ size) in
      let rest = again n (omega arith) in
      (rest.0, ap (read_all step rest.0) (ap (λ (i : ℕ). drop i s) start ∙ sym (drop-drop (get_or (starts 0 items) n 0) used s)) ∙ rest.1)

  -- reading from an item's start reads the rest of the items
  pub rest_read : (st : S) (s : List ℕ) (n : ℕ) → n < length (read_all step st s).rows
      → (st' : S) × (read_all step st' (drop (get_or (starts 0 (pieces step st s)) n 0) s) ≡ past n (read_all step st s))
  rest_read =
      all_ind step sound (λ st s r. (n : ℕ) → n < length r.rows → From st s n r)
      (λ st n h. absurd (not-suc-le-zero h))
      (λ st s why pos e n h. absurd (not-suc-le-zero h))
      from_took

-- ---- sums and places of values

pub tally_one : {A : Type 0} (rows : List A) → tally (λ _. 1) rows ≡ length rows
unfolding tally
tally_one [] = refl
tally_one (a ∷ rows) = omega (arith, tally_one rows)

pub tally_flat : {A : Type 0} (emit : A → List ℕ) (rows : List A) → tally (λ a. length (emit a)) rows ≡ length (flat emit rows)
unfolding tally flat
tally_flat emit [] = refl
tally_flat emit (a ∷ rows) = omega (arith, tally_flat emit rows, length-append (emit a) (flat emit rows))

pub tally_append : {A : Type 0} (weight : A → ℕ) (rows rows' : List A) → tally weight (rows ++ rows') ≡ tally weight rows + tally weight rows'
unfolding tally
tally_append weight [] rows' = omega arith
tally_append weight (a ∷ rows) rows' = omega (arith, tally_append weight rows rows')

-- values of k places each
pub flat_length : {A : Type 0} (emit : A → List ℕ) (k : ℕ) → ((a : A) → length (emit a) ≡ k) → (rows : List A) → length (flat emit rows) ≡ k * length rows
unfolding flat
flat_length emit k h [] = omega (arith, mul-zero k)
flat_length emit k h (a ∷ rows) = omega (arith, flat_length emit k h rows, length-append (emit a) (flat emit rows), h a, mul-suc k (length rows))

-- ---- a step that does not look at the state

module _ {S A : Type 0} (step : S → List ℕ → Step S A) (blind : (st st' : S) (s : List ℕ) → step st s ≡ step st' s) where
  pub all_blind : (st st' : S) (s : List ℕ) → read_all step st s ≡ read_all step st' s
  unfolding read_all walk
  all_blind st st' [] = refl
  all_blind st st' (b ∷ s) = ap (λ (x : Step S A). after x (λ st₁ k. walk step st₁ k s)) (blind st st' (b ∷ s))
