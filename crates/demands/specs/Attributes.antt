-- What walking and searching an attribute section are, of the calls themselves: whatever they are given and answer.
-- Assumes nothing.
use Rattle.std.specs.Prelude.{ℕ, ◌+◌, ◌≤◌, ◌<◌, ◌≡◌, refl, drop, ltb, Option, Some, None, Ok, Err}
use Rattle.std.proofs.Math.Path.{sym, ap}
use Rattle.std.proofs.Common.{ap₂, subst, ◌∙◌, lt_of_not-le, zero-add, arith}
use mathlib.Core.List.{List, [], ◌∷◌, ◌++◌, map, append_assoc, append-nil}
use Rattle.std.proofs.Math.Decide.{dec_le}
use Rattle.std.specs.Borrow.{Bor}
use Rattle.std.proofs.Math.ListN.{length}
use Rattle.wire.specs.Answer.{value_in, flag}
use Rattle.wire.specs.Cutting.{Each, joined, Cutting}
use Rattle.wire.specs.Extent.{PartOf}
use Rattle.wire.specs.Refusal.{list_limit}
use Rattle.wire.specs.Verdict.{Verdict, fine}
use Rattle.wire.specs.Walk.{read_all}
use Rattle.wire.specs.declared.refusal.Refusal.{Refusal}
use Rattle.wire.specs.declared.refusal.Refusal.TheVariants.{TooLong, Truncated, RepeatedMpNlri}
use Rattle.wire.proofs.CuttingLaws as Cuttings
use Rattle.attributes.specs.Attribute.{attribute_front, attribute_of}
use Rattle.attributes.specs.Promises.{Found, attribute_meaning, value_at, attribute_at, first_of, find_answer}
use Rattle.attributes.specs.declared.Attribute.{Attribute}
use Rattle.attributes.specs.WellFormed.{WellFormed, kind_of, value_of, item_at, items_from, Other, Once, Front}
use Rattle.attributes.proofs.AttributeLaws as AttributeLaws
use Rattle.attributes.proofs.FormedLaws.{decides}
use Rattle.attributes.proofs.SearchTurn.{find_long}
use Rattle.attributes.proofs.SectionLaws as Laws
use Rattle.attributes.proofs.attribute_at.Reads as attribute_at_call
use Rattle.attributes.proofs.value_at.Reads as value_at_call
use Rattle.attributes.proofs.find_attribute.Reads as find_attribute
use Rattle.attributes.proofs.find_value.Reads as find_value
use Rattle.words.specs.Word.{word_of}
use Rattle.firmware.specs.Fields.{attribute_fields}
use Rattle.firmware.proofs.AttributeBounds.{attribute_by_fields, find_by_fields}
use Rattle.firmware.proofs.attribute.doorbramble_attribute_at.Reads as c_attribute_at
use Rattle.firmware.proofs.attribute.doorbramble_find_attribute.Reads as c_find_attribute

-- ---- the words of the statements

-- a call is given the section, and a place or a type
abbrev pub section : {R : Type 0} → Bor (List ℕ) × R → List ℕ
section given = given.0.now

abbrev pub place : {A R : Type 0} → A × (ℕ × R) → ℕ
place given = given.1.0

abbrev pub kind : {A R : Type 0} → A × (ℕ × R) → ℕ
kind given = given.1.0

-- a cutting of a section into well-formed attributes
abbrev pub Cut : List ℕ → List (List ℕ) → Type 0
Cut = Cutting WellFormed

-- a call of attribute_at on a section and a place, which answered so
pub record Asked (s : List ℕ) (at : ℕ) (answer : Found) : Type 1 where
  pub κs : _
  pub given : _
  pub exit : _
  pub call : attribute_at_call.Learnt κs given answer exit
  pub of_section : section given ≡ s
  pub of_place : place given ≡ at

-- a walk over a section from a place on: each call is given the place where the one before it says that the next attribute stands, until none is left
-- or one is refused. What is listed, and whether it ends in a refusal
pub data Walked (s : List ℕ) : ℕ → List Attribute → Verdict → Type 1 where
  none_left : (at : ℕ) → Asked s at (Ok None) → Walked s at [] fine
  refused : (at : ℕ) (why : Refusal) → Asked s at (Err why) → Walked s at [] (Err why)
  listed : (at : ℕ) (a : Attribute) (rest : List Attribute) (v : Verdict) → Asked s at (Ok (Some a)) → Walked s a.next rest v → Walked s at (a ∷ rest) v

asked_is : (s : List ℕ) (at : ℕ) (answer : Found) → Asked s at answer → attribute_at s at ≡ answer
asked_is s at answer a = sym (a.call ∙ ap₂ attribute_at a.of_section a.of_place)

-- ---- 1. A section is walked to its end exactly if it can be cut end to end into well-formed attributes; those listed are its items.

-- what is listed, and how it ends, from the reading of the section from there on
walked_reading : (s : List ℕ) (at : ℕ) (told : List Attribute) (v : Verdict) → Walked s at told v → length s ≤ list_limit
    → (told ≡ Laws.standing_from at (read_all attribute_of tt (drop at s)).rows) × (v ≡ (read_all attribute_of tt (drop at s)).verdict)
unfolding Laws.standing_from
walked_reading s _ _ _ (none_left at a) short =
    let e = sym (Laws.walk_end s at (asked_is s at _ a)).1 in
    (ap (λ r. Laws.standing_from at r.rows) e, ap (λ r. r.verdict) e)
walked_reading s _ _ _ (refused at why a) short =
    let e = sym (Laws.walk_stop s at why (asked_is s at _ a) short) in
    (ap (λ r. Laws.standing_from at r.rows) e, ap (λ r. r.verdict) e)
walked_reading s _ _ _ (listed at x rest v a w) short =
    let l = Laws.walk_next s at x (asked_is s at _ a) in
    let e = sym l.reading in
    let again = walked_reading s x.next rest v w short in (
      ap₂ ◌∷◌ (sym l.told) (again.0 ∙ ap (λ m. Laws.standing_from m (read_all attribute_of tt (drop x.next s)).rows) (sym l.there)) ∙ ap (λ r. Laws.standing_from at r.rows) e,
      again.1 ∙ ap (λ r. r.verdict) e,
    )

-- a section that is walked to its end is not too long
walked_short : (s : List ℕ) (at : ℕ) (told : List Attribute) → Walked s at told fine → length s ≤ list_limit
walked_short s _ _ (none_left at a) = (Laws.walk_end s at (asked_is s at _ a)).0
walked_short s _ _ (listed at x rest v a w) = (Laws.walk_next s at x (asked_is s at _ a)).short

pub walked_cut : (s : List ℕ) (told : List Attribute) → Walked s 0 told fine → (items : List (List ℕ)) × Cut s items × (told ≡ items_from 0 items) × (length s ≤ list_limit)
walked_cut s told w =
    let short = walked_short s 0 told w in
    let r = walked_reading s 0 told fine w short in
    let c = Cuttings.read_cut attribute_of WellFormed attribute_front decides tt s (sym r.1) in
    (c.0, c.1, r.0 ∙ ap (λ x. Laws.standing_from 0 x.rows) (Cuttings.cut_read attribute_of WellFormed attribute_front decides tt s c.0 c.1) ∙ Laws.standing_items 0 c.0 c.1.each, short)

pub cut_walked : (s : List ℕ) (items : List (List ℕ)) → Cut s items → length s ≤ list_limit → (told : List Attribute) (v : Verdict) → Walked s 0 told v → (v ≡ fine) × (told ≡ items_from 0 items)
cut_walked s items c short told v w =
    let r = walked_reading s 0 told v w short in
    let e = Cuttings.cut_read attribute_of WellFormed attribute_front decides tt s items c in
    (r.1 ∙ ap (λ x. x.verdict) e, r.0 ∙ ap (λ x. Laws.standing_from 0 x.rows) e ∙ Laws.standing_items 0 items c.each)

-- a section that can be cut has such a walk, for whoever calls on it: from the place of each item on, through those after it
module _ (κs : _) (given : _) (answer : _) (exit : _) (call : attribute_at_call.Learnt κs given answer exit) (short : length (section given) ≤ list_limit) where
  asked : (at : ℕ) (x : Found) → attribute_at (section given) at ≡ x → Asked (section given) at x
  asked at x e = record { κs = κs; given = (given.0, (at, given.1.1)); exit = exit; call = sym e; of_section = refl; of_place = refl }

  walk_from : (before items : List (List ℕ)) → Cut (section given) (before ++ items) → Walked (section given) (length (joined before)) (items_from (length (joined before)) items) fine
  unfolding items_from item_at
  walk_from before [] c =
      let all : length (section given) ≤ length (joined before) = omega (arith, ap length (sym c.whole ∙ ap joined (append-nil before))) in
      none_left _ (asked _ _ (sym (AttributeLaws.none_left (section given) short _ all)))
  walk_from before (item ∷ items) c =
      let more : before ++ (item ∷ items) ≡ (before ++ (item ∷ [])) ++ items = sym (append_assoc before (item ∷ []) items) in
      let next : length (joined (before ++ (item ∷ []))) ≡ length (joined before) + length item = Laws.joined_next before item in
      listed _ _ _ _ (asked _ _ (Laws.item_at_lem (section given) before item items c short))
      (subst (λ (n : ℕ). Walked (section given) n (items_from n items) fine) next (walk_from (before ++ (item ∷ [])) items (subst (Cut (section given)) more c)))

  pub cut_has_walk : (items : List (List ℕ)) → Cut (section given) items → Walked (section given) 0 (items_from 0 items) fine
  unfolding joined
  cut_has_walk items c = walk_from [] items c

-- each call gets on, so that a walk ends
pub gets_on : (s : List ℕ) (at : ℕ) (x : Attribute) → Asked s at (Ok (Some x)) → (at < x.next) × (x.next ≤ length s)
gets_on s at x a = (Laws.walk_next s at x (asked_is s at _ a)).on

-- ---- 2. There is one cutting.

pub one_cutting : (s : List ℕ) (items items' : List (List ℕ)) → Cut s items → Cut s items' → items ≡ items'
one_cutting s = Cuttings.one_cutting attribute_of WellFormed attribute_front decides tt s

-- ---- 3. The search answers the first item of the type, and absent exactly if none has it, where the section can be cut and MP_REACH_NLRI and
-- MP_UNREACH_NLRI are there once at most each. Else it is refused: by 1 over the limit; by 15 where items at the front have a second of the two; by 2
-- where they have not, and the section cannot be cut.

-- what each answer says of a section and a type
pub data Told (s : List ℕ) (wanted : ℕ) : Found → Type 0 where
  over_long : list_limit < length s → Told s wanted (Err TooLong)
  second : length s ≤ list_limit → (items : List (List ℕ)) → Front s items → (Once items → ⊥) → Told s wanted (Err RepeatedMpNlri)
  cut : length s ≤ list_limit → ((items : List (List ℕ)) → Front s items → Once items) → ((items : List (List ℕ)) → Cut s items → ⊥) → Told s wanted (Err Truncated)
  absent : length s ≤ list_limit → (items : List (List ℕ)) → Cut s items → Once items → Each (Other wanted) items → Told s wanted (Ok None)
  first : length s ≤ list_limit → (before : List (List ℕ)) (item : List ℕ) (after : List (List ℕ)) → Cut s (before ++ (item ∷ after)) → Once (before ++ (item ∷ after))
      → Each (Other wanted) before → kind_of item ≡ wanted → Told s wanted (Ok (Some (item_at (length (joined before)) item)))

-- of a section that can be cut
good_told : (s : List ℕ) (wanted : ℕ) → length s ≤ list_limit → (items : List (List ℕ)) → Cut s items → Once items → Told s wanted (Ok (first_of wanted 0 (map attribute_front items)))
good_told s wanted short items c h =
    Laws.split wanted (Told s wanted (Ok (first_of wanted 0 (map attribute_front items)))) items
    (λ others. subst (λ (x : Option Attribute). Told s wanted (Ok x)) (sym (Laws.first_none wanted 0 items others)) (absent short items c h others))
    (λ before item after e others is.
    let c' = subst (Cut s) e c in
    let found : first_of wanted 0 (map attribute_front items) ≡ Some (item_at (length (joined before)) item) =
    ap (λ (l : List (List ℕ)). first_of wanted 0 (map attribute_front l)) e ∙ Laws.first_item wanted 0 before item after c'.each others is ∙ ap (λ (n : ℕ). Some (item_at n item)) (zero-add (length (joined before))) in
    subst (λ (x : Option Attribute). Told s wanted (Ok x)) (sym found) (first short before item after c' (subst Once e h) others is))

find_told : (s : List ℕ) (wanted : ℕ) → Told s wanted (find_answer s wanted)
find_told s wanted =
    elim (dec_le (length s) list_limit) [
      | yes short ↦ Laws.find_cases s short wanted (Told s wanted) (second short) (λ never fine. cut short fine never) (good_told s wanted short)
      | no long ↦ (let over : list_limit < length s = lt_of_not-le long in subst (Told s wanted) (find_long s wanted over) (over_long over))
    ]

told_find : (s : List ℕ) (wanted : ℕ) (answer : Found) → Told s wanted answer → find_answer s wanted ≡ answer
told_find s wanted answer (over_long over) = sym (find_long s wanted over)
told_find s wanted answer (second short items f twice) = Laws.second_found s short wanted items f twice
told_find s wanted answer (cut short fine never) =
    Laws.find_cases s short wanted (λ (x : Found). x ≡ Err Truncated) (λ items f twice. absurd (twice (fine items f))) (λ _ _. refl) (λ items c _. absurd (never items c))
told_find s wanted answer (absent short items c h others) = Laws.found_is s short wanted items c h ∙ ap Ok (Laws.first_none wanted 0 items others)
told_find s wanted answer (first short before item after c h others is) =
    Laws.found_is s short wanted (before ++ (item ∷ after)) c h ∙ ap Ok (Laws.first_item wanted 0 before item after c.each others is ∙ ap (λ (n : ℕ). Some (item_at n item)) (zero-add (length (joined before))))

module _ (κs : _) (given : _) (answer : _) (exit : _) (call : find_attribute.Learnt κs given answer exit) where
  -- the answer is one of these exactly if that is so
  pub answer_told : Told (section given) (kind given) answer
  answer_told = subst (Told (section given) (kind given)) (sym call) (find_told (section given) (kind given))

  pub told_answer : (x : Found) → Told (section given) (kind given) x → answer ≡ x
  told_answer x t = call ∙ told_find (section given) (kind given) x t

-- ---- 4. The value that is handed back is that of the item, in the caller's own bytes.

-- of an item of a section: the part where its value stands, and what that holds
abbrev pub ItsValue : Bor (List ℕ) → List (List ℕ) → List ℕ → Bor (List ℕ) → Type 0
ItsValue s before item r = PartOf s (value_at (Ok (Some (item_at (length (joined before)) item)))) r × (r.now ≡ value_of item)

its_value : (s : Bor (List ℕ)) (answer : Found) (r : Bor (List ℕ)) (before : List (List ℕ)) (item : List ℕ) (after : List (List ℕ))
    → Cut s.now (before ++ (item ∷ after)) → answer ≡ Ok (Some (item_at (length (joined before)) item)) → PartOf s (value_at answer) r → ItsValue s before item r
its_value s answer r before item after c e p =
    let q : PartOf s (value_at (Ok (Some (item_at (length (joined before)) item)))) r = subst (λ (x : Found). PartOf s (value_at x) r) e p in
    (q, q.holds ∙ Laws.item_value s.now before item after c)

-- at the place of an item
module _ (κs : _) (given : _) (value : _) (exit : _) (call : value_at_call.Learnt κs given value exit) where
  pub value_there : (before : List (List ℕ)) (item : List ℕ) (after : List (List ℕ)) → Cut (section given) (before ++ (item ∷ after)) → length (section given) ≤ list_limit
      → place given ≡ length (joined before) → ItsValue given.0 before item value
  value_there before item after c short e =
      its_value given.0 (attribute_at (section given) (place given)) value before item after c (ap (attribute_at (section given)) e ∙ Laws.item_at_lem (section given) before item after c short) call

  -- whatever the call for the attribute answers, its value: nothing where there is none
  pub value_as_told : (answer : Found) → Asked (section given) (place given) answer → PartOf given.0 (value_at answer) value
  value_as_told answer a = subst (λ (x : Found). PartOf given.0 (value_at x) value) (asked_is (section given) (place given) answer a) call

-- of the first item of a type
module _ (κs : _) (given : _) (value : _) (exit : _) (call : find_value.Learnt κs given value exit) where
  pub value_found : (before : List (List ℕ)) (item : List ℕ) (after : List (List ℕ)) → Cut (section given) (before ++ (item ∷ after)) → Once (before ++ (item ∷ after))
      → length (section given) ≤ list_limit → Each (Other (kind given)) before → kind_of item ≡ kind given → ItsValue given.0 before item value
  value_found before item after c h short others is =
      its_value given.0 (find_answer (section given) (kind given)) value before item after c (told_find (section given) (kind given) _ (first short before item after c h others is)) call

  pub value_as_found : (answer : Found) → Told (section given) (kind given) answer → PartOf given.0 (value_at answer) value
  value_as_found answer t = subst (λ (x : Found). PartOf given.0 (value_at x) value) (told_find (section given) (kind given) answer t) call

-- ---- 5. The calls for C tell the same answers, and what the header's functions take from the fields of a word is right: there is an attribute exactly
-- where its value does not start at 0, and the next stands where its value ends.

abbrev pub InFields : Found → ℕ → Type 0
InFields answer word =
    (word ≡ word_of (attribute_fields answer)) × (value_in 0 (attribute_meaning answer) ≡ flag (ltb 0 (attribute_fields answer).a))
    × (value_in 5 (attribute_meaning answer) ≡ (attribute_fields answer).a + (attribute_fields answer).b)

module _ (κs : _) (given : _) (word : _) (exit : _) (call : c_attribute_at.Learnt κs given word exit) where
  pub c_attribute : (answer : Found) → Asked (section given) (place given) answer → InFields answer word
  c_attribute answer a =
      let f = attribute_by_fields (section given) (place given) in
      subst (λ (x : Found). InFields x word) (asked_is (section given) (place given) answer a) (call, f.found, f.next)

module _ (κs : _) (given : _) (word : _) (exit : _) (call : c_find_attribute.Learnt κs given word exit) where
  pub c_found : (answer : Found) → Told (section given) (kind given) answer → InFields answer word
  c_found answer t =
      let f = find_by_fields (section given) (kind given) in
      subst (λ (x : Found). InFields x word) (told_find (section given) (kind given) answer t) (call, f.found, f.next)
