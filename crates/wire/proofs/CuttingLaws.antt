-- What holds of any step that decides an idea of a well-formed item: bytes are read to their end exactly if they can be cut, there is one
-- cutting, and what is read are its items. And of values that stand for items: what is written is read again, and the other way.
-- Assumes nothing.
use Prim.Native.Nat.{ℕ, ◌+◌, ◌<◌}
use mathlib.Core.Path.{◌≡◌, refl, sym, ap, ap₂, ◌∙◌}
use mathlib.Core.List.{List, [], ◌∷◌, ◌++◌, map, append_assoc, append-nil}
use mathlib.Core.Logic.{◌⊎◌, inl, inr, ⊎_elim}
use native.Mathlib.Omega.{arith}
use lib.ListN.{length, take, drop, length-append, take-append-drop}
use lib.Seq.{take-append_seam, drop-append_seam, take-add}
use Rattle.wire.specs.Number.{Bytes}
use Rattle.std.specs.Prelude.{Err}
use Rattle.wire.specs.Verdict.{fine}
use Rattle.wire.specs.declared.refusal.Refusal.{Refusal}
use Rattle.wire.proofs.AnswerLaws.{refused_not_fine}
use Rattle.wire.specs.Walk.{Step, took, stop, Reading, more, read_all, pieces, flat}
use Rattle.wire.specs.Cutting.{Each, none, one, Some, here, later, joined, Cutting}
use Rattle.wire.proofs.NumberLaws.{bytes_take, bytes_drop}
use Rattle.wire.proofs.WalkLaws.{Sound, all_nil, all_stop, all_took, all_ind, pieces_nil, pieces_took}

-- items laid end to end, some and those after them
pub joined_append : (items items' : List (List ℕ)) → joined (items ++ items') ≡ joined items ++ joined items'
unfolding joined
joined_append [] items' = refl
joined_append (item ∷ items) items' = ap (λ (l : List ℕ). item ++ l) (joined_append items items') ∙ sym (append_assoc item (joined items) (joined items'))

-- ---- reading

-- a well-formed item at the front is taken whole and for its value, whatever follows it; and what is taken is well formed
pub record Decides {S A : Type 0} (step : S → List ℕ → Step S A) (Formed : List ℕ → Type 0) (value : List ℕ → A) : Type 0 where
  pub sound : Sound step
  pub taken : (st : S) (item rest : List ℕ) → Formed item → (st' : S) × (step st (item ++ rest) ≡ took (length item) (value item) st')
  pub formed : (st st' : S) (s : List ℕ) (used : ℕ) (a : A) → step st s ≡ took used a st' → Formed (take used s)

module _ {S A : Type 0} (step : S → List ℕ → Step S A) (Formed : List ℕ → Type 0) (value : List ℕ → A) (decides : Decides step Formed value) where
  -- a well-formed item has a byte
  pub item_long : (st : S) (item : List ℕ) → Formed item → 0 < length item
  item_long st item f = let t = decides.taken st item [] f in (decides.sound.takes st t.0 (item ++ []) (length item) (value item) t.1).0

  -- items laid end to end are read as their values, whatever follows
  pub front_read : (st : S) (items : List (List ℕ)) (rest : List ℕ) → Each Formed items
      → (st' : S) × (read_all step st (joined items ++ rest) ≡ record { rows = map value items ++ (read_all step st' rest).rows; verdict = (read_all step st' rest).verdict })
  unfolding joined
  front_read st [] rest none = (st, refl)
  front_read st (item ∷ items) rest (one f fs) =
      let long = item_long st item f in
      let behind : List ℕ = joined items ++ rest in
      let t = decides.taken st item behind f in
      let again = front_read t.0 items rest fs in (
        again.0,
        ap (read_all step st) (append_assoc item (joined items) rest)
            ∙ all_took step st t.0 (item ++ behind) (length item) (value item) (omega (arith, length-append item behind)) long t.1
            ∙ ap (λ (l : List ℕ). more (value item) (read_all step t.0 l)) (drop-append_seam item behind)
            ∙ ap (more (value item)) again.1,
      )

  -- the reading and the pieces of items laid end to end
  pub items_read : (st : S) (items : List (List ℕ)) → Each Formed items → read_all step st (joined items) ≡ record { rows = map value items; verdict = fine }
  items_read st items fs =
      let f = front_read st items [] fs in
      ap (read_all step st) (sym (append-nil (joined items)))
      ∙ f.1
      ∙ ap (λ (r : Reading A). record { rows = map value items ++ r.rows; verdict = r.verdict }) (all_nil step f.0)
      ∙ ap (λ (l : List A). record { rows = l; verdict = fine }) (append-nil (map value items))

  pub items_pieces : (st : S) (items : List (List ℕ)) → Each Formed items → pieces step st (joined items) ≡ items
  unfolding joined
  items_pieces st [] none = pieces_nil step st
  items_pieces st (item ∷ items) (one f fs) =
      let long = item_long st item f in
      let t = decides.taken st item (joined items) f in
      pieces_took step st t.0 (item ++ joined items) (length item) (value item) (omega (arith, length-append item (joined items))) long t.1
      ∙ ap₂ ◌∷◌ (take-append_seam item (joined items))
      (ap (pieces step t.0) (drop-append_seam item (joined items)) ∙ items_pieces t.0 items fs)

  module _ (st : S) (s : List ℕ) where
    -- bytes that can be cut are read to their end, and what is read are the values of the items
    pub cut_read : (items : List (List ℕ)) → Cutting Formed s items → read_all step st s ≡ record { rows = map value items; verdict = fine }
    cut_read items c = ap (read_all step st) (sym c.whole) ∙ items_read st items c.each

    -- the pieces that are read are the items
    pub cut_pieces : (items : List (List ℕ)) → Cutting Formed s items → pieces step st s ≡ items
    cut_pieces items c = ap (pieces step st) (sym c.whole) ∙ items_pieces st items c.each

    -- two cuttings of the same bytes are equal
    pub one_cutting : (items items' : List (List ℕ)) → Cutting Formed s items → Cutting Formed s items' → items ≡ items'
    one_cutting items items' c c' = sym (cut_pieces items c) ∙ cut_pieces items' c'

    -- what is read of any bytes, before a refusal, are the values of items at their front; nothing follows these where none is refused
    pub read_front : (items : List (List ℕ)) × (rest : List ℕ) × Each Formed items × (joined items ++ rest ≡ s)
        × (map value items ≡ (read_all step st s).rows) × ((read_all step st s).verdict ≡ fine → rest ≡ [])
    unfolding joined
    read_front =
        all_ind step decides.sound
        (λ _ t r. (items : List (List ℕ)) × (rest : List ℕ) × Each Formed items × (joined items ++ rest ≡ t) × (map value items ≡ r.rows) × (r.verdict ≡ fine → rest ≡ []))
        (λ _. ([], [], none, refl, refl, λ _. refl))
        (λ st₁ t n pos e. ([], t, none, refl, refl, λ v. absurd (refused_not_fine n v)))
        (λ st₁ st₂ t used a pos e again.
        let item : List ℕ = take used t in
        let f = decides.formed st₁ st₂ t used a e in
        let same = decides.taken st₁ item (drop used t) f in
        let whole : item ++ drop used t ≡ t = take-append-drop used t in
        let told : took used a st₂ ≡ took (length item) (value item) same.0 = sym e ∙ ap (step st₁) (sym whole) ∙ same.1 in
        let is : value item ≡ a = cc in (
          item ∷ again.0,
          again.1,
          one f again.2,
          append_assoc item (joined again.0) again.1 ∙ ap (λ (l : List ℕ). item ++ l) again.3 ∙ whole,
          ap₂ ◌∷◌ is again.4,
          again.5,
        ))
        st s

    -- bytes that are read to their end can be cut
    pub read_cut : (read_all step st s).verdict ≡ fine → (items : List (List ℕ)) × Cutting Formed s items
    read_cut v =
        let f = read_front in (
          f.0,
          record { each = f.2; whole = sym (append-nil (joined f.0)) ∙ ap (λ (l : List ℕ). joined f.0 ++ l) (sym (f.5 v)) ∙ f.3 },
        )

  -- what is read up to a place, and the item that stands there
  pub read_more : (st st₁ st₂ : S) (s : List ℕ) (at used : ℕ) (a : A) → (read_all step st (take at s)).verdict ≡ fine → step st₁ (drop at s) ≡ took used a st₂
      → read_all step st (take (at + used) s) ≡ record { rows = (read_all step st (take at s)).rows ++ a ∷ []; verdict = fine }
  unfolding joined
  read_more st st₁ st₂ s at used a good e =
      let cut = read_cut st (take at s) good in
      let item : List ℕ = take used (drop at s) in
      let formed = decides.formed st₁ st₂ (drop at s) used a e in
      let front = front_read st cut.0 item cut.1.each in
      let same = decides.taken st₁ item (drop used (drop at s)) formed in
      let told : took used a st₂ ≡ took (length item) (value item) same.0 = sym e ∙ ap (step st₁) (sym (take-append-drop used (drop at s))) ∙ same.1 in
      let is : value item ≡ a = cc in
      let last : read_all step front.0 item ≡ record { rows = a ∷ []; verdict = fine } =
      ap (read_all step front.0) (sym (append-nil item)) ∙ items_read front.0 (item ∷ []) (one formed none) ∙ ap (λ (x : A). record { rows = x ∷ []; verdict = fine }) is in
      ap (read_all step st) (take-add at used s ∙ ap (λ (l : List ℕ). l ++ item) (sym cut.1.whole))
      ∙ front.1
      ∙ ap (λ (r : Reading A). record { rows = map value cut.0 ++ r.rows; verdict = r.verdict }) last
      ∙ ap (λ (r : Reading A). record { rows = r.rows ++ a ∷ []; verdict = fine }) (sym (cut_read st (take at s) cut.0 cut.1))

-- ---- two ideas of an item, the wider of which allows all that the other does

-- what holds of each follows from what holds of each
pub each_map : {A : Type 0} {P Q : A → Type 0} (f : (a : A) → P a → Q a) (l : List A) → Each P l → Each Q l
each_map f [] none = none
each_map f (a ∷ l) (one p ps) = one (f a p) (each_map f l ps)

pub cut_wider : {P Q : List ℕ → Type 0} (f : (item : List ℕ) → P item → Q item) (s : List ℕ) (items : List (List ℕ)) → Cutting P s items → Cutting Q s items
cut_wider f s items c = record { each = each_map f items c.each; whole = c.whole }

module _ {S A : Type 0} (step : S → List ℕ → Step S A) (Formed : List ℕ → Type 0) (value : List ℕ → A) (decides : Decides step Formed value) (Wider : List ℕ → Type 0) where
  -- what is read to its end by the narrower is read the same by the wider
  pub wider_read : {S' : Type 0} (step' : S' → List ℕ → Step S' A) → Decides step' Wider value → ((item : List ℕ) → Formed item → Wider item)
      → (st : S) (st' : S') (s : List ℕ) → (read_all step st s).verdict ≡ fine → read_all step st s ≡ read_all step' st' s
  wider_read step' decides' wider st st' s v =
      let c = read_cut step Formed value decides st s v in
      cut_read step Formed value decides st s c.0 c.1 ∙ sym (cut_read step' Wider value decides' st' s c.0 (cut_wider wider s c.0 c.1))

  -- where an item of the wider is one of the narrower, or odd and refused by it for a reason: items of the wider are all of the narrower,
  -- or some are odd and the narrower refuses them for that reason
  module _ (Odd : List ℕ → Type 0) (n : Refusal) (sorted : (item : List ℕ) → Wider item → Formed item ⊎ Odd item)
      (refuses : (st : S) (item rest : List ℕ) → Wider item → Odd item → (0 < length (item ++ rest)) × (step st (item ++ rest) ≡ stop n)) where
    pub all_or_odd : (st : S) (items : List (List ℕ)) → Each Wider items → Each Formed items ⊎ (Some Odd items × ((read_all step st (joined items)).verdict ≡ Err n))
    unfolding joined
    all_or_odd st [] none = inl none
    all_or_odd st (item ∷ items) (one w ws) =
        ⊎_elim
        (λ (f : Formed item).
        let t = decides.taken st item (joined items) f in
        let long = item_long step Formed value decides st item f in
        let on : (read_all step st (item ++ joined items)).verdict ≡ (read_all step t.0 (joined items)).verdict =
        ap (λ (r : Reading A). r.verdict) (all_took step st t.0 (item ++ joined items) (length item) (value item) (omega (arith, long, length-append item (joined items))) long t.1)
        ∙ ap (λ (l : List ℕ). (read_all step t.0 l).verdict) (drop-append_seam item (joined items)) in
        ⊎_elim (λ (fs : Each Formed items). inl (one f fs)) (λ o. inr (later o.0, on ∙ o.1)) (all_or_odd t.0 items ws))
        (λ (o : Odd item). let r = refuses st item (joined items) w o in inr (here o, ap (λ (x : Reading A). x.verdict) (all_stop step st (item ++ joined items) n r.0 r.1)))
        (sorted item w)

-- ---- writing

-- the places of values, one after another, are their items laid end to end
pub flat_joined : {A : Type 0} (emit : A → List ℕ) (rows : List A) → flat emit rows ≡ joined (map emit rows)
unfolding flat joined
flat_joined emit [] = refl
flat_joined emit (a ∷ rows) = ap (λ (l : List ℕ). emit a ++ l) (flat_joined emit rows)

-- items and values stand for each other: an item of bytes is what its value is written as, and a value is what its bytes are read as
pub record Stands {A : Type 0} (Formed : List ℕ → Type 0) (value : List ℕ → A) (Good : A → Type 0) (emit : A → List ℕ) : Type 0 where
  pub written : (item : List ℕ) → Formed item → Bytes item → Good (value item) × (emit (value item) ≡ item)
  pub read : (a : A) → Good a → Formed (emit a) × (value (emit a) ≡ a)

module _ {A : Type 0} (Formed : List ℕ → Type 0) (value : List ℕ → A) (Good : A → Type 0) (emit : A → List ℕ) (stands : Stands Formed value Good emit) where
  -- the values of items are written as the items
  pub items_written : (items : List (List ℕ)) → Each Formed items → Bytes (joined items)
      → Each Good (map value items) × (map emit (map value items) ≡ items) × (flat emit (map value items) ≡ joined items)
  unfolding flat joined
  items_written [] none b = (none, refl, refl)
  items_written (item ∷ items) (one f fs) b =
      let here : Bytes item = rw take-append_seam at (bytes_take (length item) (item ++ joined items) b) in
      let after : Bytes (joined items) = rw drop-append_seam at (bytes_drop (length item) (item ++ joined items) b) in
      let h = stands.written item f here in
      let t = items_written items fs after in
      (one h.0 t.0, ap₂ ◌∷◌ h.1 t.1, ap₂ ◌++◌ h.1 t.2)

  -- what values are written as can be cut, and is read as the values
  pub rows_cut : (rows : List A) → Each Good rows → Cutting Formed (flat emit rows) (map emit rows) × (map value (map emit rows) ≡ rows)
  rows_cut rows h = let t = go rows h in (record { each = t.0; whole = sym (flat_joined emit rows) }, t.1)
    where
      go : (l : List A) → Each Good l → Each Formed (map emit l) × (map value (map emit l) ≡ l)
      go [] none = (none, refl)
      go (a ∷ l) (one g gs) =
          let r = stands.read a g in
          let t = go l gs in
          (one r.0 t.0, ap₂ ◌∷◌ r.1 t.1)

  -- so values whose bytes are the same are equal
  pub same_rows : {S : Type 0} (step : S → List ℕ → Step S A) → Decides step Formed value → S → (rows rows' : List A) → Each Good rows → Each Good rows'
      → flat emit rows ≡ flat emit rows' → rows ≡ rows'
  same_rows step decides st rows rows' h h' e =
      let p = rows_cut rows h in
      let q = rows_cut rows' h' in
      let r = cut_read step Formed value decides st (flat emit rows) (map emit rows) p.0 in
      let r' = cut_read step Formed value decides st (flat emit rows') (map emit rows') q.0 in
      sym p.1 ∙ ap (λ (x : Reading A). x.rows) (sym r ∙ ap (read_all step st) e ∙ r') ∙ q.1
