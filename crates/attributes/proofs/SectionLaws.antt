-- What the calls answer of a section that can be cut into attributes, and of one that cannot.
-- Assumes nothing.
use Prim.Native.Nat.{ℕ, ◌+◌, max, ◌≤◌, ◌<◌}
use mathlib.Core.Path.{◌≡◌, refl, sym, ap, ap₂, subst, ◌∙◌}
use mathlib.Core.List.{List, [], ◌∷◌, ◌++◌, map, append-nil}
use native.Mathlib.Nat.{lt_of_not-le}
use native.Mathlib.Decide.{dec_le}
use native.Mathlib.Omega.{arith}
use lib.ListN.{length, get_or, take, drop, length-append, length-drop}
use lib.Seq.{drop-drop, drop-append-le, drop-append_seam, take-append_seam}
use Rattle.wire.specs.Extent.{within}
use lib.Dec.{eqb}
use Rattle.wire.specs.Answer.{flag}
use Rattle.wire.specs.Cutting.{Each, none, one, joined, Cutting}
use Rattle.std.specs.Prelude.{Some, None, Ok, Err}
use Rattle.wire.specs.Refusal.{list_limit}
use Rattle.wire.specs.Verdict.{Verdict, fine}
use Rattle.wire.specs.declared.refusal.Refusal.{Refusal}
use Rattle.wire.specs.declared.refusal.Refusal.TheVariants.{Truncated, RepeatedMpNlri}
use Rattle.wire.proofs.AnswerLaws.{refused_not_fine}
use Rattle.wire.specs.Walk.{stop, Reading, whole, refused, more, read_all, tally}
use Rattle.wire.proofs.ChoiceLaws.{pick_eqb}
use Rattle.wire.proofs.CuttingLaws.{joined_append, item_long, front_read, cut_read, read_front}
use Rattle.wire.proofs.WalkLaws.{tally_append, all_ind}
use Rattle.attributes.specs.Attribute.{mp_reach_nlri, mp_unreach_nlri, head_size, Head, size_of, attribute_front, attribute_of, section_of}
use Rattle.attributes.specs.Promises.{Found, value_at, standing, attribute_at, first_of, count_of, judged, find_answer}
use Rattle.attributes.specs.WellFormed.{WellFormed, kind_of, value_of, item_at, items_from, Other, times, Once, Front}
use Rattle.attributes.specs.declared.Attribute.{Attribute}
use Rattle.wire.proofs.Turn.{turn_fits, turn_next, turn_end, turn_stop}
use Rattle.attributes.proofs.AttributeLaws.{attribute_sound, attribute_stops, taken_at, first_here, first_later, attribute_taken, at_cases}
use Rattle.attributes.proofs.FormedLaws.{formed_size, decides}
use Rattle.attributes.proofs.SearchTurn.{judged_once, judged_twice, find_judged}

-- ---- an item, and what is told of it

head_in : (item : List ℕ) → WellFormed item → head_size (get_or item 0 0) ≤ length item
unfolding attribute_front
head_in item f = omega (arith, formed_size item f)

module _ (place : ℕ) (item : List ℕ) (f : WellFormed item) where
  pub standing_item : standing place (attribute_front item) ≡ item_at place item
  unfolding standing item_at attribute_front
  standing_item =
      let size = formed_size item f in
      let long : (attribute_front item).size ≡ length (value_of item) = omega (arith, size, length-drop (head_size (get_or item 0 0)) item) in
      ap₂ (λ (l n : ℕ). record { flags = get_or item 0 0; kind = kind_of item; start = place + head_size (get_or item 0 0); length = l; next = place + n }) long size

-- attributes one after another from a place on
unfoldable pub standing_from : ℕ → List Head → List Attribute
standing_from place [] = []
standing_from place (a ∷ rows) = standing place a ∷ standing_from (place + size_of a) rows

pub standing_items : (place : ℕ) (items : List (List ℕ)) → Each WellFormed items → standing_from place (map attribute_front items) ≡ items_from place items
unfolding standing_from items_from
standing_items place [] none = refl
standing_items place (item ∷ items) (one f fs) =
    ap₂ ◌∷◌ (standing_item place item f) (ap (λ (n : ℕ). standing_from (place + n) (map attribute_front items)) (formed_size item f) ∙ standing_items (place + length item) items fs)

-- ---- an item of a section

module _ (s : List ℕ) (before : List (List ℕ)) (item : List ℕ) (after : List (List ℕ)) (c : Cutting WellFormed s (before ++ (item ∷ after))) where
  item_formed : (items : List (List ℕ)) → Each WellFormed (items ++ (item ∷ after)) → WellFormed item
  item_formed [] (one f fs) = f
  item_formed (item' ∷ items) (one f fs) = item_formed items fs

  formed : WellFormed item
  formed = item_formed before c.each

  -- what stands there
  item_there : drop (length (joined before)) s ≡ item ++ joined after
  unfolding joined
  item_there = ap (drop (length (joined before))) (sym c.whole ∙ joined_append before (item ∷ after)) ∙ drop-append_seam (joined before) (item ++ joined after)

  -- the walker's answer at its place
  pub item_at_lem : length s ≤ list_limit → attribute_at s (length (joined before)) ≡ Ok (Some (item_at (length (joined before)) item))
  item_at_lem short =
      let t = decides.taken tt item (joined after) formed in
      let pos = item_long attribute_of WellFormed attribute_front decides tt item formed in
      let lt : length (joined before) < length s = omega (arith, pos, ap length item_there, length-append item (joined after), length-drop (length (joined before)) s) in
      sym (taken_at s short (length (joined before)) (length item) (attribute_front item) lt (ap (attribute_of tt) item_there ∙ t.1)) ∙ ap (λ (a : Attribute). Ok (Some a)) (standing_item (length (joined before)) item formed)

  -- and its value there
  pub item_value : within (value_at (Ok (Some (item_at (length (joined before)) item)))) s ≡ value_of item
  unfolding item_at
  item_value =
      let head : ℕ = head_size (get_or item 0 0) in
      ap (take (length (value_of item))) (sym (drop-drop head (length (joined before)) s) ∙ ap (drop head) item_there ∙ drop-append-le head item (joined after) (head_in item formed))
      ∙ take-append_seam (value_of item) (joined after)

-- ---- how often a type is there

times_count : (kind : ℕ) (items : List (List ℕ)) → count_of kind (map attribute_front items) ≡ times kind items
unfolding count_of times tally attribute_front
times_count kind [] = refl
times_count kind (item ∷ items) = ap (λ (n : ℕ). flag (eqb (kind_of item) kind) + n) (times_count kind items)

-- ---- the first of a type

module _ (kind : ℕ) where
  kind_front : (item : List ℕ) → (attribute_front item).kind ≡ kind_of item
  unfolding attribute_front
  kind_front item = refl

  pub first_none : (place : ℕ) (items : List (List ℕ)) → Each (Other kind) items → first_of kind place (map attribute_front items) ≡ None
  unfolding first_of
  first_none place [] none = refl
  first_none place (item ∷ items) (one o os) =
      first_later kind place (attribute_front item) (map attribute_front items) (λ e. o (sym (kind_front item) ∙ e)) ∙ first_none (place + size_of (attribute_front item)) items os

  pub first_item : (place : ℕ) (before : List (List ℕ)) (item : List ℕ) (after : List (List ℕ)) → Each WellFormed (before ++ (item ∷ after)) → Each (Other kind) before → kind_of item ≡ kind
      → first_of kind place (map attribute_front (before ++ (item ∷ after))) ≡ Some (item_at (place + length (joined before)) item)
  unfolding joined
  first_item place [] item after (one f fs) none e =
      first_here kind place (attribute_front item) (map attribute_front after) (kind_front item ∙ e)
      ∙ ap Some (standing_item place item f)
      ∙ ap (λ (n : ℕ). Some (item_at n item)) (let z : place ≡ place + 0 = omega arith in z)
  first_item place (item' ∷ before) item after (one f fs) (one o os) e =
      let there : place + size_of (attribute_front item') + length (joined before) ≡ place + length (item' ++ joined before) =
      omega (arith, formed_size item' f, length-append item' (joined before)) in
      first_later kind place (attribute_front item') (map attribute_front (before ++ (item ∷ after))) (λ d. o (sym (kind_front item') ∙ d))
      ∙ first_item (place + size_of (attribute_front item')) before item after fs os e
      ∙ ap (λ (n : ℕ). Some (item_at n item)) there

  -- none of the type, or items of other types before one of it
  pub split : (P : Type 0) (items : List (List ℕ)) → (Each (Other kind) items → P)
      → ((before : List (List ℕ)) (item : List ℕ) (after : List (List ℕ)) → items ≡ before ++ (item ∷ after) → Each (Other kind) before → kind_of item ≡ kind → P) → P
  split P [] f g = f none
  split P (item ∷ items) f g =
      pick_eqb (λ (_ : ℕ). P) (kind_of item) kind 0 0
      (λ e. g [] item items refl none e)
      (λ o. split P items (λ os. f (one o os)) (λ before item' after e os k. g (item ∷ before) item' after (ap (λ (l : List (List ℕ)). item ∷ l) e) (one o os) k))

-- ---- the verdict of a section

module _ (s : List ℕ) where
  -- good, or cut
  verdict_by : (P : Verdict → Type 0) → P fine → P (Err Truncated) → P (read_all attribute_of tt s).verdict
  verdict_by P good cut =
      all_ind attribute_of attribute_sound (λ _ t r. P r.verdict)
      (λ _. good)
      (λ st t r pos e. subst (λ (x : Refusal). P (Err x)) (sym (attribute_stops t st r e)) cut)
      (λ st st' t used a pos e again. again)
      tt s

  -- items at the front have each type no more often than it is read
  front_times : (kind : ℕ) (items : List (List ℕ)) → Front s items → times kind items ≤ count_of kind (read_all attribute_of tt s).rows
  unfolding count_of
  front_times kind items f =
      let r = front_read attribute_of WellFormed attribute_front decides tt items f.rest f.each in
      let rows = ap (λ (x : Reading Head). count_of kind x.rows) (ap (read_all attribute_of tt) (sym f.whole) ∙ r.1) in
      omega (arith, rows, tally_append (λ a. flag (eqb a.kind kind)) (map attribute_front items) (read_all attribute_of tt f.rest).rows, times_count kind items)

  -- all that is read is such a front, and the whole where the verdict is fine
  read_is_front : (items : List (List ℕ)) × Front s items × (map attribute_front items ≡ (read_all attribute_of tt s).rows) × ((read_all attribute_of tt s).verdict ≡ fine → Cutting WellFormed s items)
  read_is_front =
      let f = read_front attribute_of WellFormed attribute_front decides tt s in (
        f.0,
        record { each = f.2; rest = f.1; whole = f.3 },
        f.4,
        λ v. record { each = f.2; whole = sym (append-nil (joined f.0)) ∙ ap (λ (l : List ℕ). joined f.0 ++ l) (sym (f.5 v)) ∙ f.3 },
      )

  -- a cutting is a front
  pub cut_front : (items : List (List ℕ)) → Cutting WellFormed s items → Front s items
  cut_front items c = record { each = c.each; rest = []; whole = append-nil (joined items) ∙ c.whole }

  module _ (short : length s ≤ list_limit) (kind : ℕ) where
    -- ---- what the search answers

    -- a second one of the two types at the front
    pub second_found : (items : List (List ℕ)) → Front s items → (Once items → ⊥) → find_answer s kind ≡ Err RepeatedMpNlri
    unfolding section_of
    second_found items f twice =
        sym (find_judged s kind (Err RepeatedMpNlri) short (judged_twice (section_of s) more))
      where
        more : 1 < max (count_of mp_reach_nlri (section_of s).rows) (count_of mp_unreach_nlri (section_of s).rows)
        more =
            let a = front_times mp_reach_nlri items f in
            let b = front_times mp_unreach_nlri items f in
            elim (dec_le (max (count_of mp_reach_nlri (read_all attribute_of tt s).rows) (count_of mp_unreach_nlri (read_all attribute_of tt s).rows)) 1) [
              | yes le ↦ absurd (twice (omega (arith, le, a), omega (arith, le, b)))
              | no gt ↦ lt_of_not-le gt
            ]

    -- a section that can be cut into items of which each of the two types is one at most
    module _ (items : List (List ℕ)) (c : Cutting WellFormed s items) (h : Once items) where
      good_reading : section_of s ≡ record { rows = map attribute_front items; verdict = fine }
      unfolding section_of
      good_reading = cut_read attribute_of WellFormed attribute_front decides tt s items c

      pub found_is : find_answer s kind ≡ Ok (first_of kind 0 (map attribute_front items))
      found_is =
          let once = judged_once (record { rows = map attribute_front items; verdict = fine }) (omega (arith, times_count mp_reach_nlri items, times_count mp_unreach_nlri items, h.0, h.1)) in
          sym (find_judged s kind fine short (ap judged good_reading ∙ once)) ∙ ap (λ (r : Reading Head). Ok (first_of kind 0 r.rows)) good_reading

    -- by cases: refused by a second one; cut; or good
    pub find_cases : (P : Found → Type 0)
        → ((items : List (List ℕ)) → Front s items → (Once items → ⊥) → P (Err RepeatedMpNlri))
        → (((items : List (List ℕ)) → Cutting WellFormed s items → ⊥) → ((items : List (List ℕ)) → Front s items → Once items) → P (Err Truncated))
        → ((items : List (List ℕ)) → Cutting WellFormed s items → Once items → P (Ok (first_of kind 0 (map attribute_front items))))
        → P (find_answer s kind)
    unfolding section_of
    find_cases P second cut good =
        elim (dec_le (max (count_of mp_reach_nlri (read_all attribute_of tt s).rows) (count_of mp_unreach_nlri (read_all attribute_of tt s).rows)) 1) [
          | yes le ↦ verdict_by (λ (v : Verdict). (read_all attribute_of tt s).verdict ≡ v → P (find_answer s kind)) (good_read le) (broken le) refl
          | no gt ↦ twice (lt_of_not-le gt)
        ]
      where
        same : (k : ℕ) → times k read_is_front.0 ≡ count_of k (read_all attribute_of tt s).rows
        same k = sym (times_count k read_is_front.0) ∙ ap (count_of k) read_is_front.2

        twice : 1 < max (count_of mp_reach_nlri (read_all attribute_of tt s).rows) (count_of mp_unreach_nlri (read_all attribute_of tt s).rows) → P (find_answer s kind)
        twice more =
            let two : Once read_is_front.0 → ⊥ = λ o. omega (arith, more, o.0, o.1, same mp_reach_nlri, same mp_unreach_nlri) in
            subst P (sym (second_found read_is_front.0 read_is_front.1 two)) (second read_is_front.0 read_is_front.1 two)

        good_read : max (count_of mp_reach_nlri (read_all attribute_of tt s).rows) (count_of mp_unreach_nlri (read_all attribute_of tt s).rows) ≤ 1 → (read_all attribute_of tt s).verdict ≡ fine → P (find_answer s kind)
        good_read le v =
            let c = read_is_front.3 v in
            let o : Once read_is_front.0 = (omega (arith, le, same mp_reach_nlri), omega (arith, le, same mp_unreach_nlri)) in
            subst P (sym (found_is read_is_front.0 c o)) (good read_is_front.0 c o)

        broken : max (count_of mp_reach_nlri (read_all attribute_of tt s).rows) (count_of mp_unreach_nlri (read_all attribute_of tt s).rows) ≤ 1 → (read_all attribute_of tt s).verdict ≡ Err Truncated → P (find_answer s kind)
        broken le v =
            let told : find_answer s kind ≡ Err Truncated = sym (find_judged s kind (Err Truncated) short (judged_once (section_of s) le ∙ v)) in
            subst P (sym told)
            (cut
            (λ items c. let e : (read_all attribute_of tt s).verdict ≡ fine = ap (λ (r : Reading Head). r.verdict) (cut_read attribute_of WellFormed attribute_front decides tt s items c) in refused_not_fine Truncated (sym v ∙ e))
            (λ items f. (omega (arith, le, front_times mp_reach_nlri items f), omega (arith, le, front_times mp_unreach_nlri items f))))

-- ---- a walk over a section, attribute by attribute

-- the place after one more item
pub joined_next : (before : List (List ℕ)) (item : List ℕ) → length (joined (before ++ (item ∷ []))) ≡ length (joined before) + length item
unfolding joined
joined_next before item =
    ap length (joined_append before (item ∷ [])) ∙ length-append (joined before) (item ++ []) ∙ ap (λ (l : List ℕ). length (joined before) + length l) (append-nil item)

module _ (s : List ℕ) (at : ℕ) where
  -- none left
  pub walk_end : attribute_at s at ≡ Ok None → (length s ≤ list_limit) × (read_all attribute_of tt (drop at s) ≡ whole)
  walk_end =
      at_cases s at (λ (x : Found). x ≡ Ok None → (length s ≤ list_limit) × (read_all attribute_of tt (drop at s) ≡ whole))
      (λ _ e. let z : ◌≡◌ {A = ℕ} 0 1 = cc in absurd (omega (arith, z)))
      (λ short le e. (short, turn_end attribute_of attribute_sound s tt at le))
      (λ used a short lt t e. let z : ◌≡◌ {A = ℕ} 0 1 = cc in absurd (omega (arith, z)))
      (λ short lt t e. let z : ◌≡◌ {A = ℕ} 0 1 = cc in absurd (omega (arith, z)))

  -- a refusal is that of the reading where the section is not too long
  pub walk_stop : (r : Refusal) → attribute_at s at ≡ Err r → length s ≤ list_limit → read_all attribute_of tt (drop at s) ≡ refused r
  walk_stop r =
      at_cases s at (λ (x : Found). x ≡ Err r → length s ≤ list_limit → read_all attribute_of tt (drop at s) ≡ refused r)
      (λ long e short. absurd (omega (arith, long, short)))
      (λ short le e. let z : ◌≡◌ {A = ℕ} 0 1 = cc in absurd (omega (arith, z)))
      (λ used a short lt t e. let z : ◌≡◌ {A = ℕ} 0 1 = cc in absurd (omega (arith, z)))
      (λ short lt t e _. let k : Truncated ≡ r = cc in turn_stop attribute_of attribute_sound s tt at r lt (t ∙ ap stop k))

  -- one that is listed, and the rest from the next place on
  pub record Next (found : Attribute) : Type 0 where
    pub a : Head
    pub told : standing at a ≡ found
    pub there : at + size_of a ≡ found.next
    pub on : (at < found.next) × (found.next ≤ length s)
    pub short : length s ≤ list_limit
    pub reading : read_all attribute_of tt (drop at s) ≡ more a (read_all attribute_of tt (drop found.next s))

  pub walk_next : (found : Attribute) → attribute_at s at ≡ Ok (Some found) → Next found
  unfolding standing
  walk_next found =
      at_cases s at (λ (x : Found). x ≡ Ok (Some found) → Next found)
      (λ _ e. let z : ◌≡◌ {A = ℕ} 0 1 = cc in absurd (omega (arith, z)))
      (λ short le e. let z : ◌≡◌ {A = ℕ} 0 1 = cc in absurd (omega (arith, z)))
      (λ used a short lt t e.
      let told : standing at a ≡ found = cc in
      let there : at + size_of a ≡ found.next = ap (λ (x : Attribute). x.next) told in
      let all : size_of a ≡ used = (attribute_taken (drop at s) tt tt used a t).size in
      let fits = turn_fits attribute_of attribute_sound s tt at tt used a t (omega (arith, lt)) in
      let same : at + used ≡ found.next = omega (arith, there, all) in
      record {
        a = a;
        told = told;
        there = there;
        on = (omega (arith, same, fits), omega (arith, same, fits));
        short = short;
        reading = turn_next attribute_of attribute_sound s tt at tt used a t ∙ ap (λ (n : ℕ). more a (read_all attribute_of tt (drop n s))) same;
      })
      (λ short lt t e. let z : ◌≡◌ {A = ℕ} 0 1 = cc in absurd (omega (arith, z)))
