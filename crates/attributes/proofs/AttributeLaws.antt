-- Laws of one attribute, and of the attribute at a place of a section.
-- Assumes nothing.
use Prim.Native.Nat.{ℕ, ◌+◌, ◌-◌, ◌≤◌, ◌<◌}
use mathlib.Core.Path.{◌≡◌, refl, sym, ap, ap₂, subst, ◌∙◌}
use mathlib.Core.List.{List, [], ◌∷◌}
use mathlib.Core.Bool.{true, false}
use native.Mathlib.Omega.{arith}
use borrow.Author.Tests.{le-leb, lt-leb, eq-eqb, ne_eqb}
use lib.ListN.{length, get_or, drop, length-drop}
use lib.Dec.{eqb}
use lib.Seq.{drop-drop}
use denote.Ref.{Bor}
use Rattle.wire.specs.Extent.{Extent, clipped, PartOf}
use Rattle.wire.specs.Number.{be, be_at}
use Rattle.std.specs.Prelude.{Option, Some, None, Ok, Err}
use Rattle.wire.specs.Refusal.{list_limit}
use Rattle.wire.specs.declared.refusal.Refusal.{Refusal}
use Rattle.wire.specs.declared.refusal.Refusal.TheVariants.{Truncated, TooLong}
use Rattle.wire.specs.Walk.{Step, took, stop, read_all}
use Rattle.wire.proofs.ChoiceLaws.{pick_leb, pick_any}
use Rattle.wire.proofs.ExtentLaws.{clipped_fits}
use Rattle.wire.proofs.NumberLaws.{padded_cells}
use Rattle.wire.proofs.WalkLaws.{Sound, all_ind}
use Rattle.attributes.specs.Attribute.{is_extended, length_size, head_size, Head, size_of, attribute_front, NoState, attribute_of}
use Rattle.attributes.specs.Promises.{Found, value_at, standing, found_at, attribute_at, first_of}
use Rattle.attributes.specs.Private.{whole_if, front_of, Inside}
use Rattle.attributes.specs.declared.Attribute.{Attribute}

-- ---- the octets before the value

pub long_head : (flags : ℕ) → is_extended flags ≡ true → head_size flags ≡ 4
unfolding head_size length_size
long_head flags e = rw e

pub short_head : (flags : ℕ) → is_extended flags ≡ false → head_size flags ≡ 3
unfolding head_size length_size
short_head flags e = rw e

pub head_bounds : (flags : ℕ) → (3 ≤ head_size flags) × (head_size flags ≤ 4)
unfolding head_size length_size
head_bounds flags = pick_any (λ (n : ℕ). (3 ≤ 2 + n) × (2 + n ≤ 4)) (is_extended flags) 2 1 (omega arith, omega arith) (omega arith, omega arith)

-- ---- what the step finds

module _ (s : List ℕ) where
  -- all of the attribute at the front, or not
  step_cases : (P : Step NoState Head → Type 0) (st : NoState)
      → (size_of (attribute_front s) ≤ length s → P (took (size_of (attribute_front s)) (attribute_front s) tt)) → (length s < size_of (attribute_front s) → P (stop Truncated))
      → P (attribute_of st s)
  unfolding attribute_of
  step_cases P st f g = pick_leb P (size_of (attribute_front s)) (length s) _ _ f g

  -- one that is taken
  pub record Taken (used : ℕ) (a : Head) : Type 0 where
    pub is : attribute_front s ≡ a
    pub size : size_of a ≡ used
    pub room : used ≤ length s

  pub attribute_taken : (st st' : NoState) (used : ℕ) (a : Head) → attribute_of st s ≡ took used a st' → Taken used a
  attribute_taken st st' used a =
      step_cases (λ (x : Step NoState Head). x ≡ took used a st' → Taken used a) st
      (λ h e.
      let same : attribute_front s ≡ a = cc in
      let size : size_of (attribute_front s) ≡ used = cc in
      record { is = same; size = ap size_of (sym same) ∙ size; room = omega (arith, size) })
      (λ h e. let z : ◌≡◌ {A = ℕ} 0 1 = cc in absurd (omega (arith, z)))

  pub taken_attribute : size_of (attribute_front s) ≤ length s → attribute_of tt s ≡ took (size_of (attribute_front s)) (attribute_front s) tt
  unfolding attribute_of
  taken_attribute h = rw (le-leb (size_of (attribute_front s)) (length s) h)

  pub attribute_stops : (st : NoState) (r : Refusal) → attribute_of st s ≡ stop r → r ≡ Truncated
  attribute_stops st r =
      step_cases (λ (x : Step NoState Head). x ≡ stop r → r ≡ Truncated) st
      (λ h e. let z : ◌≡◌ {A = ℕ} 0 1 = cc in absurd (omega (arith, z)))
      (λ h e. cc)

  -- ---- what stands at the front of bytes, as code reads it

  module _ (place : ℕ) where
    pub head_cut : length s < head_size (get_or s 0 0) → None ≡ front_of place (attribute_of tt s)
    unfolding attribute_front
    head_cut lt = step_cases (λ (x : Step NoState Head). None ≡ front_of place x) tt (λ h. absurd (omega (arith, h, lt))) (λ h. refl)

    whole_front : (head size : ℕ) → head_size (get_or s 0 0) ≡ head → (attribute_front s).size ≡ size → head ≤ length s
        → whole_if (get_or s 0 0) (get_or s 1 0) (place + head) size (length s - head) ≡ front_of place (attribute_of tt s)
    unfolding attribute_front whole_if standing
    whole_front head size h m le =
        step_cases (λ (x : Step NoState Head). whole_if (get_or s 0 0) (get_or s 1 0) (place + head) size (length s - head) ≡ front_of place x) tt
        (λ room.
        let fits : size ≤ length s - head = omega (arith, room, h, m) in
        let next : place + head + size ≡ place + (head_size (get_or s 0 0) + (attribute_front s).size) = omega (arith, h, m) in
        rw (le-leb size (length s - head) fits, next, ← h, ← m) refl)
        (λ cut.
        let over : length s - head < size = omega (arith, cut, h, m, le) in
        rw (lt-leb size (length s - head) over))

    pub long_front : is_extended (get_or s 0 0) ≡ true → 4 ≤ length s → whole_if (get_or s 0 0) (get_or s 1 0) (place + 4) (be_at s 2 2) (length s - 4) ≡ front_of place (attribute_of tt s)
    unfolding attribute_front head_size length_size
    long_front e le = whole_front 4 (be_at s 2 2) (long_head (get_or s 0 0) e) (rw e) le

    pub short_front : is_extended (get_or s 0 0) ≡ false → 3 ≤ length s → whole_if (get_or s 0 0) (get_or s 1 0) (place + 3) (get_or s 2 0) (length s - 3) ≡ front_of place (attribute_of tt s)
    unfolding attribute_front head_size length_size be_at
    short_front e le =
        let one : be (get_or s 2 0 ∷ []) ≡ get_or s 2 0 = omega arith in
        whole_front 3 (get_or s 2 0) (short_head (get_or s 0 0) e) (rw e (ap be (padded_cells s 2 1) ∙ one)) le

    -- the step behind it
    pub front_whole : (a : Attribute) → front_of place (attribute_of tt s) ≡ Some a
        → (attribute_of tt s ≡ took (size_of (attribute_front s)) (attribute_front s) tt) × (standing place (attribute_front s) ≡ a)
    front_whole a =
        step_cases
        (λ (x : Step NoState Head). front_of place x ≡ Some a → (x ≡ took (size_of (attribute_front s)) (attribute_front s) tt) × (standing place (attribute_front s) ≡ a))
        tt
        (λ h e. (refl, cc))
        (λ h e. let z : ◌≡◌ {A = ℕ} 0 1 = cc in absurd (omega (arith, z)))

    pub front_cut : front_of place (attribute_of tt s) ≡ None → attribute_of tt s ≡ stop Truncated
    front_cut =
        step_cases (λ (x : Step NoState Head). front_of place x ≡ None → x ≡ stop Truncated) tt
        (λ h e. let z : ◌≡◌ {A = ℕ} 0 1 = cc in absurd (omega (arith, z)))
        (λ h e. refl)

pub attribute_sound : Sound attribute_of
attribute_sound = record {
  takes = λ st st' s used a e. (let t = attribute_taken s st st' used a e in (omega (arith, t.size, head_bounds a.flags), t.room));
}

-- ---- the first of a type

module _ (kind place : ℕ) (a : Head) (rows : List Head) where
  pub first_here : a.kind ≡ kind → first_of kind place (a ∷ rows) ≡ Some (standing place a)
  unfolding first_of
  first_here e = rw (eq-eqb a.kind kind e)

  pub first_later : (a.kind ≡ kind → ⊥) → first_of kind place (a ∷ rows) ≡ first_of kind (place + size_of a) rows
  unfolding first_of
  first_later e = rw (ne_eqb a.kind kind e)

-- ---- the attribute at a place

module _ (s : List ℕ) where
  pub over_limit : (place : ℕ) → list_limit < length s → Err TooLong ≡ attribute_at s place
  unfolding attribute_at
  over_limit place h = rw (lt-leb (length s) list_limit h)

  module _ (short : length s ≤ list_limit) (place : ℕ) where
    pub none_left : length s ≤ place → Ok None ≡ attribute_at s place
    unfolding attribute_at
    none_left h = rw (le-leb (length s) list_limit short, le-leb (length s) place h)

    pub at_place : place < length s → attribute_at s place ≡ found_at place (attribute_of tt (drop place s))
    unfolding attribute_at
    at_place h = rw (le-leb (length s) list_limit short, lt-leb (length s) place h)

    pub cut_at : place < length s → attribute_of tt (drop place s) ≡ stop Truncated → Err Truncated ≡ attribute_at s place
    cut_at h e = sym (at_place h ∙ ap (found_at place) e)

    pub taken_at : (used : ℕ) (a : Head) → place < length s → attribute_of tt (drop place s) ≡ took used a tt → Ok (Some (standing place a)) ≡ attribute_at s place
    taken_at used a h e = sym (at_place h ∙ ap (found_at place) e)

  -- by cases: too long, none left, taken or cut
  pub at_cases : (place : ℕ) (P : Found → Type 0) → (list_limit < length s → P (Err TooLong)) → (length s ≤ list_limit → length s ≤ place → P (Ok None))
      → ((used : ℕ) (a : Head) → length s ≤ list_limit → place < length s → attribute_of tt (drop place s) ≡ took used a tt → P (Ok (Some (standing place a))))
      → (length s ≤ list_limit → place < length s → attribute_of tt (drop place s) ≡ stop Truncated → P (Err Truncated))
      → P (attribute_at s place)
  unfolding attribute_at
  at_cases place P long end there cut =
      pick_leb P (length s) list_limit _ _
      (λ short. pick_leb P (length s) place _ _
      (λ le. end short le)
      (λ lt. step_cases (drop place s) (λ (x : Step NoState Head). attribute_of tt (drop place s) ≡ x → P (found_at place x)) tt
      (λ room e. there _ _ short lt e)
      (λ _ e. cut short lt e)
      refl))
      long

  -- what is found lies in the section
  pub attribute_inside : (place : ℕ) → Inside (attribute_at s place) (length s)
  unfolding standing
  attribute_inside place =
      at_cases place (λ (x : Found). Inside x (length s))
      (λ _. omega arith)
      (λ _ _. omega arith)
      (λ used a short lt e.
      let t = attribute_taken (drop place s) tt tt used a e in
      omega (arith, t.size, t.room, length-drop place s))
      (λ _ _ _. omega arith)

  -- the first of a type is the attribute at some place: at the end where there is none
  pub first_at : (kind : ℕ) → length s ≤ list_limit → (place : ℕ) × (Ok (first_of kind 0 (read_all attribute_of tt s).rows) ≡ attribute_at s place)
  unfolding first_of
  first_at kind short =
      all_ind attribute_of attribute_sound
      (λ _ t r. (place : ℕ) → drop place s ≡ t → (p : ℕ) × (Ok (first_of kind place r.rows) ≡ attribute_at s p))
      (λ _ place _. (length s, none_left short (length s) (omega arith)))
      (λ _ t r pos e place _. (length s, none_left short (length s) (omega arith)))
      (λ st st' t used a pos e again place is.
      let taken = attribute_taken t st st' used a e in
      let there : place < length s = omega (arith, ap length is, length-drop place s) in
      pick_any (λ (x : Option Attribute). (p : ℕ) × (Ok x ≡ attribute_at s p)) (eqb a.kind kind) _ _
      (place, taken_at short place used a there (ap (attribute_of tt) is ∙ e))
      (again (place + size_of a) (sym (drop-drop (size_of a) place s) ∙ ap₂ drop taken.size is)))
      tt s 0 refl

-- ---- the value of an answer whose value lies within n places, as a part of them
pub value_told : (section r : Bor (List ℕ)) (found told : Found) (n : ℕ) → found ≡ told → Inside found n → PartOf section (clipped (value_at told) n) r → PartOf section (value_at found) r
value_told section r found told n e inside =
    subst (λ (x : Extent). PartOf section x r) (ap (λ (y : Found). clipped (value_at y) n) (sym e) ∙ clipped_fits (value_at found) n inside)

pub value_by : (section r : Bor (List ℕ)) (found answer : Found) → found ≡ answer → PartOf section (value_at found) r → PartOf section (value_at answer) r
value_by section r found answer e = subst (λ (x : Found). PartOf section (value_at x) r) e
