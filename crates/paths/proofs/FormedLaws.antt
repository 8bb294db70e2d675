-- The step of a path decides what a well-formed segment is, over any rule, any idea of a segment that it is for, and any width; and a
-- segment's pair and numbers are those of its bytes.
-- Assumes nothing.
use Prim.Native.Nat.{ℕ, zero, suc, ◌+◌, ◌*◌, ◌≤◌}
use mathlib.Core.Path.{◌≡◌, refl, sym, ap, ap₂, subst, ◌∙◌}
use mathlib.Core.List.{List, [], ◌∷◌, ◌++◌, map}
use native.Mathlib.Omega.{arith}
use borrow.Author.Tests.{le-leb}
use lib.ListN.{length, get_or, take, drop, length-append, length-drop}
use lib.Seq.{take-append-le, drop-append-le, length-take-le}
use lib.Dec.{leb}
use Rattle.wire.specs.Choice.{pick}
use Rattle.std.specs.Prelude.{Err}
use Rattle.std.proofs.lemmas.Grind.{common_steps}
use Rattle.wire.specs.Verdict.{fine}
use Rattle.wire.specs.declared.refusal.Refusal.TheVariants.{EmptySegment}
use Rattle.wire.proofs.AnswerLaws.{either_none, either_second}
use Rattle.wire.specs.Number.{be, be_at}
use Rattle.wire.proofs.NumberLaws.{padded_take}
use Rattle.wire.proofs.Parts.{take_two_more}
use Rattle.wire.specs.Walk.{took, flat}
use Rattle.wire.specs.Cutting.{Each, none, one}
use Rattle.wire.proofs.CuttingLaws.{Decides}
use Rattle.asns.specs.Asn.{span}
use Rattle.asns.proofs.AsnLaws.{span_is}
use Rattle.paths.specs.Segment.{Segment, numbers_of, Rule, type_fault, known_type, non_empty, rule_of, NoState, segment_at, segment_of, pair_of, asns_of}
use Rattle.paths.specs.WellFormed.{Known, NonEmpty, Allowed, WellFormed, numbers_in, head_of, as_numbers}
use Rattle.paths.specs.declared.PathRule.{PathRule}
use Rattle.paths.specs.declared.PathRule.TheVariants.{Crate, Strict}
use Rattle.paths.proofs.SegmentLaws.{length_numbers, type_known, known_type_lem, Taken, segment_taken, segment_sound, taken_segment}

-- ---- a rule, and the idea of a segment that it is for

-- it finds no fault exactly where the idea allows type and count
pub record RuleFor (rule : Rule) (allowed : ℕ → ℕ → Type 0) : Type 0 where
  pub sound : (kind count : ℕ) → rule kind count ≡ fine → allowed kind count
  pub whole : (kind count : ℕ) → allowed kind count → rule kind count ≡ fine

-- the crate's rule finds no fault exactly where the type is one of the RFCs'
known : RuleFor known_type Known
known = record { sound = λ kind count e. type_known kind e; whole = λ kind count h. known_type_lem kind h.0 h.1 }

-- and the strict one exactly where there is a number too
some_number : (count : ℕ) → pick (leb 1 count) fine (Err EmptySegment) ≡ fine → 1 ≤ count
some_number count e = grind (arith, common_steps)

non_empty_lem : RuleFor non_empty NonEmpty
non_empty_lem = record {
  sound = λ kind count e. let f = either_none (type_fault kind) _ e in (type_known kind f.0, some_number count f.1);
  whole = λ kind count h. either_second (type_fault kind) _ (known_type_lem kind h.0.0 h.0.1) ∙ rw (le-leb 1 count h.1);
}

pub ruled : (rule : PathRule) → RuleFor (rule_of rule) (Allowed rule)
ruled Crate = known
ruled Strict = non_empty_lem

-- what a rule allows, the crate's does
pub allowed_known : (rule : PathRule) (kind count : ℕ) → Allowed rule kind count → Known kind count
allowed_known Crate kind count a = a
allowed_known Strict kind count a = a.0

pub rule_known : (rule : PathRule) (kind count : ℕ) → rule_of rule kind count ≡ fine → known_type kind count ≡ fine
rule_known rule kind count e = known.whole kind count (allowed_known rule kind count ((ruled rule).sound kind count e))

-- a well-formed segment by one idea of types and counts is one by a wider
pub wider_formed : {allowed wider : ℕ → ℕ → Type 0} → ((kind count : ℕ) → allowed kind count → wider kind count) → (w : ℕ) (item : List ℕ) → WellFormed allowed w item → WellFormed wider w item
wider_formed f w item g = record { kind = g.kind; count = g.count; body = g.body; parts = g.parts; meant = f g.kind g.count g.meant; long = g.long }

-- ---- numbers

module _ (w : ℕ) where
  -- those that stand at the front, whatever follows
  pub numbers_front : (n : ℕ) (s t : List ℕ) → span w n ≤ length s → numbers_of w n (s ++ t) ≡ numbers_of w n s
  unfolding span numbers_of be_at
  numbers_front zero s t h = refl
  numbers_front (suc n) s t h =
      let le : w ≤ length s = omega arith in
      let more : w ≤ length (s ++ t) = omega (arith, length-append s t) in
      ap₂ ◌∷◌ (ap be (padded_take w (s ++ t) more ∙ take-append-le w s t le ∙ sym (padded_take w s le)))
      (ap (numbers_of w n) (drop-append-le w s t le) ∙ numbers_front n (drop w s) t (omega (arith, length-drop w s)))

  -- as the RFC has them
  numbers_in_lem : (n : ℕ) (s : List ℕ) → span w n ≤ length s → numbers_of w n s ≡ numbers_in w n s
  unfolding span numbers_of numbers_in be_at
  numbers_in_lem zero s h = refl
  numbers_in_lem (suc n) s h = ap₂ ◌∷◌ (ap be (padded_take w s (omega arith))) (numbers_in_lem n (drop w s) (omega (arith, length-drop w s)))

-- ---- one segment

module _ (rule : Rule) (allowed : ℕ → ℕ → Type 0) (for : RuleFor rule allowed) (w : ℕ) where
  -- a well-formed one is taken whole, whatever follows
  whole_taken : (kind count : ℕ) (body rest : List ℕ) → allowed kind count → length body ≡ count * w
      → segment_of rule w tt ((kind ∷ count ∷ body) ++ rest) ≡ took (length (kind ∷ count ∷ body)) (segment_at w (kind ∷ count ∷ body)) tt
  unfolding segment_at
  whole_taken kind count body rest a e =
      let size : span w count ≡ length body = span_is w count ∙ sym e in
      let used : 2 + span w count ≡ length (kind ∷ count ∷ body) = omega (arith, size) in
      taken_segment rule w (kind ∷ count ∷ (body ++ rest)) (omega arith) (omega (arith, size, length-append body rest)) (for.whole kind count a)
      ∙ ap₂ (λ (u : ℕ) (l : List ℕ). took u (record { kind = kind; asns = l }) tt) used (numbers_front w count body rest (omega (arith, size)))

  item_taken : (st : NoState) (item rest : List ℕ) → WellFormed allowed w item
      → (st' : NoState) × (segment_of rule w st (item ++ rest) ≡ took (length item) (segment_at w item) st')
  item_taken tt item rest f = (
    tt,
    subst (λ (l : List ℕ). segment_of rule w tt (l ++ rest) ≡ took (length l) (segment_at w l) tt) (sym f.parts) (whole_taken f.kind f.count f.body rest f.meant f.long),
  )

  -- and what is taken is well formed
  taken_formed : (s : List ℕ) (used : ℕ) (g : Segment) → Taken rule w s used g → WellFormed allowed w (take used s)
  taken_formed s used g t =
      let c : ℕ = get_or s 1 0 in
      let room : span w c ≤ length (drop 2 s) = omega (arith, t.size, t.room, length-drop 2 s) in
      record {
        kind = get_or s 0 0;
        count = c;
        body = take (span w c) (drop 2 s);
        parts = ap (λ (u : ℕ). take u s) t.size ∙ take_two_more s (span w c) t.there;
        meant = for.sound (get_or s 0 0) c t.good;
        long = length-take-le (span w c) (drop 2 s) room ∙ span_is w c;
      }

  pub decides : Decides (segment_of rule w) (WellFormed allowed w) (segment_at w)
  decides = record {
    sound = segment_sound rule w;
    taken = item_taken;
    formed = λ st st' s used g e. taken_formed s used g (segment_taken rule w st st' s used g e);
  }

  -- ---- what a segment is lent as, from its bytes

  item_pair : (item : List ℕ) → pair_of (segment_at w item) ≡ head_of item
  unfolding segment_at
  item_pair item = ap (λ (k : ℕ). get_or item 0 0 ∷ k ∷ []) (length_numbers w (get_or item 1 0) (drop 2 item))

  item_numbers : (item : List ℕ) → WellFormed allowed w item → asns_of (segment_at w item) ≡ as_numbers w item
  unfolding segment_at
  item_numbers item f =
      let count : get_or item 1 0 ≡ f.count = ap (λ (l : List ℕ). get_or l 1 0) f.parts in
      let size : span w (get_or item 1 0) ≡ length f.body = ap (span w) count ∙ span_is w f.count ∙ sym f.long in
      numbers_in_lem w (get_or item 1 0) (drop 2 item) (omega (arith, size, ap (λ (l : List ℕ). length (drop 2 l)) f.parts))

  -- the segments of items: as many, and their pairs and numbers one after another
  pub items_pairs : (items : List (List ℕ)) → flat pair_of (map (segment_at w) items) ≡ flat head_of items
  unfolding flat
  items_pairs [] = refl
  items_pairs (item ∷ items) = ap₂ ◌++◌ (item_pair item) (items_pairs items)

  pub items_numbers : (items : List (List ℕ)) → Each (WellFormed allowed w) items → flat asns_of (map (segment_at w) items) ≡ flat (as_numbers w) items
  unfolding flat
  items_numbers [] none = refl
  items_numbers (item ∷ items) (one f fs) = ap₂ ◌++◌ (item_numbers item f) (items_numbers items fs)
