-- Laws of writing a path: whole pairs, numbers that fit, and the step over the pairs, over any rule and any width.
-- Assumes nothing.
use Prim.Native.Nat.{ℕ, zero, suc, ◌+◌, ◌-◌, ◌^◌, ◌≤◌, ◌<◌}
use mathlib.Core.Path.{◌≡◌, refl, sym, ap, ap₂, ◌∙◌}
use mathlib.Core.List.{List, [], ◌∷◌, ◌++◌, append_assoc}
use mathlib.Core.Bool.{Bool, true, false}
use native.Mathlib.Nat.{not-suc-le-zero, lt_of_not-le}
use native.Mathlib.Numerals.{add-one, sub-one}
use native.Mathlib.Omega.{arith}
use native.Mathlib.Decide.{dec_le}
use borrow.Author.Tests.{le-leb, lt-leb, leb-true, lt-ltb, ltb-true}
use lib.ListN.{length, get_or, take, drop, length-append, length-drop, drop_of_length-le, take-append-drop}
use lib.Seq.{drop-cons, drop-drop, get_or-drop, take-take}
use lib.Dec.{leb, ltb, eqb}
use Rattle.wire.specs.Choice.{pick}
use Rattle.wire.proofs.ChoiceLaws.{pick_leb}
use Rattle.wire.specs.Number.{to_be}
use Rattle.wire.proofs.NumberLaws.{length_to_be}
use Rattle.std.proofs.lemmas.Grind.{common_steps}
use Rattle.std.specs.Prelude.{Ok, Err}
use Rattle.wire.specs.Verdict.{Verdict, fine, answer_by}
use Rattle.wire.specs.declared.refusal.Refusal.{Refusal}
use Rattle.wire.specs.declared.refusal.Refusal.TheVariants.{LongSegment, WideNumber}
use Rattle.wire.specs.Walk.{Step, took, stop, flat}
use Rattle.wire.proofs.WalkLaws.{Sound}
use Rattle.asns.specs.Asn.{span}
use Rattle.wire.proofs.AnswerLaws.{either_none, either_first}
use Rattle.paths.specs.Segment.{Segment, Rule, pair_of, asns_of}
use Rattle.asns.proofs.AsnLaws.{span_add}
use Rattle.path_writer.specs.Write.{segment_bytes, adds_up, all_fit, most_numbers, write_fault, lent_segment, lent_of, path_bytes}

-- ---- what a test says

pub holds : (t : Bool) (x : Bool) → pick t x false ≡ true → (t ≡ true) × (x ≡ true)
holds true x e = (refl, e)
holds false x e = cc

-- ---- the pairs use up the numbers

pub adds_pair : (ps : List ℕ) (n : ℕ) → 2 ≤ length ps → adds_up ps n ≡ pick (leb (get_or ps 1 0) n) (adds_up (drop 2 ps) (n - get_or ps 1 0)) false
unfolding adds_up
adds_pair [] n h = absurd (not-suc-le-zero h)
adds_pair (k ∷ []) n h = absurd (omega arith)
adds_pair (k ∷ c ∷ ps) n h = refl

pub adds_odd : (ps : List ℕ) (n : ℕ) → 0 < length ps → length ps < 2 → adds_up ps n ≡ false
unfolding adds_up
adds_odd [] n h k = absurd (not-suc-le-zero h)
adds_odd (x ∷ []) n h k = refl
adds_odd (x ∷ c ∷ ps) n h k = absurd (omega arith)

module _ (pairs : List ℕ) (at n : ℕ) where
  pub adds_end : length pairs ≤ at → adds_up (drop at pairs) n ≡ eqb n 0
  unfolding adds_up
  adds_end h = rw (drop_of_length-le pairs h)

  pub adds_short : at < length pairs → length pairs - at < 2 → adds_up (drop at pairs) n ≡ false
  adds_short h k = adds_odd (drop at pairs) n (omega (arith, length-drop at pairs)) (omega (arith, length-drop at pairs))

  module _ (there : at + 2 ≤ length pairs) where
    pub adds_here : adds_up (drop at pairs) n ≡ pick (leb (get_or pairs (at + 1) 0) n) (adds_up (drop (at + 2) pairs) (n - get_or pairs (at + 1) 0)) false
    adds_here =
        adds_pair (drop at pairs) n (omega (arith, length-drop at pairs))
        ∙ ap₂ (λ (c : ℕ) (l : List ℕ). pick (leb c n) (adds_up l (n - c)) false) (get_or-drop at pairs 1 0) (drop-drop 2 at pairs)

    pub adds_over : n < get_or pairs (at + 1) 0 → adds_up (drop at pairs) n ≡ false
    adds_over h = adds_here ∙ rw (lt-leb (get_or pairs (at + 1) 0) n h) refl

    pub adds_on : get_or pairs (at + 1) 0 ≤ n → adds_up (drop at pairs) n ≡ adds_up (drop (at + 2) pairs) (n - get_or pairs (at + 1) 0)
    adds_on h = adds_here ∙ rw (le-leb (get_or pairs (at + 1) 0) n h) refl

-- a lent path as a loop passes it: from place `at` of the pairs on, they use up the numbers from place `from` on
pub record Lending (pairs numbers : List ℕ) (at from : ℕ) : Type 0 where
  pub inside : from ≤ length numbers
  pub sums : adds_up (drop at pairs) (length numbers - from) ≡ true

module _ (pairs numbers : List ℕ) where
  pub lending_start : adds_up pairs (length numbers) ≡ true → Lending pairs numbers 0 0
  lending_start e = record { inside = omega arith; sums = let z : length numbers - 0 ≡ length numbers = omega arith in rw z e }

  module _ (at from : ℕ) (h : Lending pairs numbers at from) (lt : at < length pairs) where
    never_odd : length pairs < at + 2 → ⊥
    never_odd k = let z : ◌≡◌ {A = ℕ} 0 1 = cc (h.sums, adds_short pairs at (length numbers - from) lt (omega arith)) in omega (arith, z)

    pub lending_there : at + 2 ≤ length pairs
    lending_there =
        elim (dec_le (at + 2) (length pairs)) [
          | yes k ↦ k
          | no k ↦ absurd (never_odd (lt_of_not-le k))
        ]

    pub lending_next : (from + get_or pairs (at + 1) 0 ≤ length numbers) × Lending pairs numbers (at + 2) (from + get_or pairs (at + 1) 0)
    lending_next =
        let c : ℕ = get_or pairs (at + 1) 0 in
        let both = holds (leb c (length numbers - from)) (adds_up (drop (at + 2) pairs) (length numbers - from - c)) (sym (adds_here pairs at (length numbers - from) lending_there) ∙ h.sums) in
        let le : c ≤ length numbers - from = leb-true c (length numbers - from) both.0 in
        let fits : from + c ≤ length numbers = omega (arith, h.inside) in
        let e : length numbers - from - c ≡ length numbers - (from + c) = omega arith in
        (fits, record { inside = fits; sums = rw e at both.1 })

-- ---- numbers that fit

-- the first of a run of numbers at a place
pub take_next : (ns : List ℕ) (at left : ℕ) → 0 < left → at < length ns → take left (drop at ns) ≡ get_or ns at 0 ∷ take (left - 1) (drop (at + 1) ns)
take_next ns at zero pos h = absurd (not-suc-le-zero pos)
take_next ns at (suc left) pos h = rw (sub-one (suc left), add-one at, drop-cons ns at 0)

pub fit_here : (w : ℕ) (v : ℕ) (vs : List ℕ) → all_fit w (v ∷ vs) ≡ true → (v < 256 ^ w) × (all_fit w vs ≡ true)
unfolding all_fit
fit_here w v vs e = let b = holds (ltb v (256 ^ w)) (all_fit w vs) e in (ltb-true v (256 ^ w) b.0, b.1)

pub fit_cons : (w : ℕ) (v : ℕ) (vs : List ℕ) → v < 256 ^ w → all_fit w vs ≡ true → all_fit w (v ∷ vs) ≡ true
unfolding all_fit
fit_cons w v vs h e = rw (lt-ltb v (256 ^ w) h) e

pub fit_append : (w : ℕ) (a b : List ℕ) → all_fit w a ≡ true → all_fit w b ≡ true → all_fit w (a ++ b) ≡ true
fit_append w [] b f g = g
fit_append w (v ∷ a) b f g = let h = fit_here w v a f in fit_cons w v (a ++ b) h.0 (fit_append w a b h.1 g)

-- and so each of some of them
fit_drop : (w m : ℕ) (vs : List ℕ) → all_fit w vs ≡ true → all_fit w (drop m vs) ≡ true
fit_drop w zero vs h = h
fit_drop w (suc m) [] h = h
fit_drop w (suc m) (v ∷ vs) h = fit_drop w m vs (fit_here w v vs h).1

fit_take : (w n : ℕ) (vs : List ℕ) → all_fit w vs ≡ true → all_fit w (take n vs) ≡ true
unfolding all_fit
fit_take w zero vs h = refl
fit_take w (suc n) [] h = refl
fit_take w (suc n) (v ∷ vs) h = let f = fit_here w v vs h in fit_cons w v (take n vs) f.0 (fit_take w n vs f.1)

pub fit_part : (w n m : ℕ) (vs : List ℕ) → all_fit w vs ≡ true → all_fit w (take n (drop m vs)) ≡ true
fit_part w n m vs h = fit_take w n (drop m vs) (fit_drop w m vs h)

-- ---- sizes

pub bytes_length : (w : ℕ) (ns : List ℕ) → length (flat (to_be w) ns) ≡ span w (length ns)
unfolding flat span
bytes_length w [] = refl
bytes_length w (n ∷ ns) = omega (arith, bytes_length w ns, length-append (to_be w n) (flat (to_be w) ns), length_to_be w n)

pub segment_length : (w : ℕ) (g : Segment) → length (segment_bytes w g) ≡ 2 + span w (length g.asns)
unfolding segment_bytes
segment_length w g = omega (arith, bytes_length w g.asns)

pub path_length : (w : ℕ) (rows : List Segment) → length (path_bytes w rows) ≡ length (flat pair_of rows) + span w (length (flat asns_of rows))
unfolding path_bytes flat span
path_length w [] = refl
path_length w (g ∷ rows) =
    let ih : length (flat (segment_bytes w) rows) ≡ length (flat pair_of rows) + span w (length (flat asns_of rows)) = path_length w rows in
    let both : span w (length (asns_of g ++ flat asns_of rows)) ≡ span w (length (asns_of g)) + span w (length (flat asns_of rows)) =
    ap (span w) (length-append (asns_of g) (flat asns_of rows)) ∙ span_add w (length (asns_of g)) (length (flat asns_of rows)) in
    omega (arith, ih, both, segment_length w g, length-append (segment_bytes w g) (flat (segment_bytes w) rows))

-- ---- what stands against a segment

module _ (rule : Rule) (w k c : ℕ) (ns : List ℕ) where
  pub fault_none : write_fault rule w k c ns ≡ fine → (rule k c ≡ fine) × (c ≤ most_numbers) × (all_fit w ns ≡ true)
  unfolding write_fault
  fault_none e = let f = either_none (rule k c) _ e in let b = numbers_fine f.1 in (f.0, b.0, b.1)
    where
      numbers_fine : pick (leb c most_numbers) (pick (all_fit w ns) fine (Err WideNumber)) (Err LongSegment) ≡ fine → (c ≤ most_numbers) × (all_fit w ns ≡ true)
      numbers_fine f = grind (arith, common_steps)

  pub none_fault : rule k c ≡ fine → c ≤ most_numbers → all_fit w ns ≡ true → write_fault rule w k c ns ≡ fine
  unfolding write_fault
  none_fault r h e = rw (r, le-leb c most_numbers h, e)

  -- what the rule has against it comes first
  pub fault_rule : (r : Refusal) → rule k c ≡ Err r → write_fault rule w k c ns ≡ Err r
  unfolding write_fault
  fault_rule r e = either_first (rule k c) _ r e

  -- then a count over 255, and then a number that the width does not hold
  pub fault_long : rule k c ≡ fine → most_numbers < c → write_fault rule w k c ns ≡ Err LongSegment
  unfolding write_fault
  fault_long r h = rw (r, lt-leb c most_numbers h)

  pub fault_wide : rule k c ≡ fine → c ≤ most_numbers → all_fit w ns ≡ false → write_fault rule w k c ns ≡ Err WideNumber
  unfolding write_fault
  fault_wide r h e = rw (r, le-leb c most_numbers h, e)

-- ---- the step over pairs

pub record Lent (rule : Rule) (w : ℕ) (numbers pairs : List ℕ) (used : ℕ) (g : Segment) (left : List ℕ) : Type 0 where
  pub there : 2 ≤ length pairs
  pub size : used ≡ 2
  pub good : write_fault rule w (get_or pairs 0 0) (get_or pairs 1 0) (take (get_or pairs 1 0) numbers) ≡ fine
  pub is : g ≡ lent_segment numbers pairs
  pub after : left ≡ drop (get_or pairs 1 0) numbers

module _ (rule : Rule) (w : ℕ) where
  Said : List ℕ → List ℕ → Step (List ℕ) Segment → Type 0
  Said numbers pairs (took used g left) = Lent rule w numbers pairs used g left
  Said numbers pairs (stop r) = Unit

  module _ (numbers pairs : List ℕ) where
    fault : Verdict
    fault = write_fault rule w (get_or pairs 0 0) (get_or pairs 1 0) (take (get_or pairs 1 0) numbers)

    said_judged : (v : Verdict) → 2 ≤ length pairs → fault ≡ v → Said numbers pairs (answer_by v (took 2 (lent_segment numbers pairs) (drop (get_or pairs 1 0) numbers)) stop)
    unfolding Said fault
    said_judged (Ok tt) h e = record { there = h; size = refl; good = e; is = refl; after = refl }
    said_judged (Err r) h e = tt

    said : Said numbers pairs (lent_of rule w numbers pairs)
    unfolding lent_of Said fault
    said = pick_leb (Said numbers pairs) 2 (length pairs) _ _ (λ h. said_judged _ h refl) (λ _. tt)

    pub lent_took : (left : List ℕ) (used : ℕ) (g : Segment) → lent_of rule w numbers pairs ≡ took used g left → Lent rule w numbers pairs used g left
    unfolding Said
    lent_took left used g e = rw e at said

    pub took_lent : 2 ≤ length pairs → write_fault rule w (get_or pairs 0 0) (get_or pairs 1 0) (take (get_or pairs 1 0) numbers) ≡ fine
        → lent_of rule w numbers pairs ≡ took 2 (lent_segment numbers pairs) (drop (get_or pairs 1 0) numbers)
    unfolding lent_of
    took_lent h e = rw (le-leb 2 (length pairs) h, e)

    pub stop_lent : (r : Refusal) → 2 ≤ length pairs → write_fault rule w (get_or pairs 0 0) (get_or pairs 1 0) (take (get_or pairs 1 0) numbers) ≡ Err r → lent_of rule w numbers pairs ≡ stop r
    unfolding lent_of
    stop_lent r h e = rw (le-leb 2 (length pairs) h, e)

  pub lent_sound : Sound (lent_of rule w)
  lent_sound = record { takes = λ st st' s used g e. let t = lent_took st s st' used g e in (omega (arith, t.size), omega (arith, t.size, t.there)) }

-- ---- the bytes of some numbers begin those of more

flat_parts : (w : ℕ) (a b : List ℕ) → flat (to_be w) (a ++ b) ≡ flat (to_be w) a ++ flat (to_be w) b
unfolding flat
flat_parts w [] b = refl
flat_parts w (v ∷ a) b = ap (λ (l : List ℕ). to_be w v ++ l) (flat_parts w a b) ∙ sym (append_assoc (to_be w v) (flat (to_be w) a) (flat (to_be w) b))

pub more_bytes : (w n m : ℕ) (ns : List ℕ) → n ≤ m → flat (to_be w) (take m ns) ≡ flat (to_be w) (take n ns) ++ flat (to_be w) (drop n (take m ns))
more_bytes w n m ns le =
    ap (flat (to_be w)) (sym (take-append-drop n (take m ns)) ∙ ap (λ (l : List ℕ). l ++ drop n (take m ns)) (take-take n m ns le)) ∙ flat_parts w (take n ns) (drop n (take m ns))
