-- Laws of one segment and of a path, over any rule and any width.
-- Assumes nothing.
use Prim.Native.Nat.{ℕ, zero, suc, ◌+◌, ◌-◌, ◌*◌, ◌≤◌, ◌<◌}
use mathlib.Core.Path.{◌≡◌, refl, sym, ap, ap₂, ◌∙◌}
use mathlib.Core.List.{List, [], ◌∷◌, ◌++◌}
use native.Mathlib.Nat.{not-suc-le-zero, zero-add, add-zero}
use native.Mathlib.Numerals.{sub-one}
use native.Mathlib.Omega.{arith}
use borrow.Author.Tests.{le-leb, lt-leb}
use lib.ListN.{length, get_or, drop}
use lib.Seq.{drop-drop}
use Rattle.wire.proofs.ChoiceLaws.{pick_leb}
use Rattle.std.proofs.lemmas.Grind.{common_steps}
use Rattle.std.specs.Prelude.{Ok, Err}
use Rattle.asns.proofs.AsnLaws.{span_many}
use Rattle.wire.specs.declared.refusal.Refusal.{Refusal}
use Rattle.wire.specs.declared.refusal.Refusal.TheVariants.{Truncated}
use Rattle.wire.proofs.AnswerLaws.{either_first}
use Rattle.wire.specs.Verdict.{Verdict, fine, answer_by}
use Rattle.wire.specs.Number.{be_at}
use Rattle.wire.specs.Walk.{Step, took, stop}
use Rattle.wire.proofs.WalkLaws.{Sound}
use Rattle.wire.proofs.Turn.{Light}
use Rattle.paths.specs.Promises.{count_in}
use Rattle.asns.specs.Asn.{span}
use Rattle.paths.specs.declared.PathRule.{PathRule}
use Rattle.paths.specs.declared.PathRule.TheVariants.{Crate, Strict}
use Rattle.paths.specs.Segment.{Segment, numbers_of, Rule, rule_of, type_fault, NoState, segment_at, segment_of, asns_of}

-- ---- numbers

pub length_numbers : (w n : ℕ) (s : List ℕ) → length (numbers_of w n s) ≡ n
unfolding numbers_of
length_numbers w zero s = refl
length_numbers w (suc n) s = ap suc (length_numbers w n (drop w s))

-- the first of those that stand at a place, as a loop reads them
pub numbers_next : (w n at : ℕ) (s : List ℕ) → 0 < n → numbers_of w n (drop at s) ≡ be_at s at w ∷ numbers_of w (n - 1) (drop (at + w) s)
unfolding numbers_of be_at
numbers_next w zero at s h = absurd (not-suc-le-zero h)
numbers_next w (suc n) at s h = rw (sub-one (suc n), drop-drop w at s)

-- four, one by one
pub numbers_four : (w : ℕ) (s : List ℕ) → numbers_of w 4 s ≡ be_at s 0 w ∷ be_at s w w ∷ be_at s (2 * w) w ∷ be_at s (3 * w) w ∷ []
unfolding numbers_of be_at
numbers_four w s =
    let two : w + w ≡ 2 * w = omega arith in
    let three : 2 * w + w ≡ 3 * w = omega arith in
    simp (drop-drop, add-zero, two, three)

-- some, and those after them
pub numbers_add : (w m n : ℕ) (s : List ℕ) → numbers_of w (m + n) s ≡ numbers_of w m s ++ numbers_of w n (drop (span w m) s)
unfolding numbers_of span
numbers_add w zero n s = rw (zero-add n)
numbers_add w (suc m) n s =
    let e : suc m + n ≡ suc (m + n) = omega arith in
    rw e (ap (λ (l : List ℕ). be_at s 0 w ∷ l) (numbers_add w m n (drop w s) ∙ ap (λ (l : List ℕ). numbers_of w m (drop w s) ++ numbers_of w n l) (drop-drop (span w m) w s)))

-- ---- types

pub type_known : (kind : ℕ) → type_fault kind ≡ fine → (1 ≤ kind) × (kind ≤ 4)
unfolding type_fault
type_known kind e = grind (arith, common_steps)

pub known_type_lem : (kind : ℕ) → 1 ≤ kind → kind ≤ 4 → type_fault kind ≡ fine
unfolding type_fault
known_type_lem kind h k = rw (le-leb 1 kind h, le-leb kind 4 k)

-- under either rule, what is wrong with the type comes first
pub rule_type : (rule : PathRule) (kind count : ℕ) (r : Refusal) → type_fault kind ≡ Err r → rule_of rule kind count ≡ Err r
rule_type Crate kind count r e = e
rule_type Strict kind count r e = either_first (type_fault kind) _ r e

-- ---- a segment that is taken

pub record Taken (rule : Rule) (w : ℕ) (s : List ℕ) (used : ℕ) (g : Segment) : Type 0 where
  pub there : 2 ≤ length s
  pub size : used ≡ 2 + span w (get_or s 1 0)
  pub room : used ≤ length s
  pub good : rule (get_or s 0 0) (get_or s 1 0) ≡ fine
  pub is : g ≡ segment_at w s

module _ (rule : Rule) (w : ℕ) where
  -- what a step says of what it takes
  Said : List ℕ → Step NoState Segment → Type 0
  Said s (took used g st) = Taken rule w s used g
  Said s (stop r) = Unit

  said_judged : (s : List ℕ) (v : Verdict) → 2 ≤ length s → 2 + span w (get_or s 1 0) ≤ length s → rule (get_or s 0 0) (get_or s 1 0) ≡ v
      → Said s (answer_by v (took (2 + span w (get_or s 1 0)) (segment_at w s) tt) stop)
  unfolding Said
  said_judged s (Ok tt) h k e = record { there = h; size = refl; room = k; good = e; is = refl }
  said_judged s (Err r) h k e = tt

  said : (st : NoState) (s : List ℕ) → Said s (segment_of rule w st s)
  unfolding segment_of Said
  said st s =
      pick_leb (Said s) 2 (length s) _ _
      (λ h. pick_leb (Said s) (2 + span w (get_or s 1 0)) (length s) _ _ (λ k. said_judged s _ h k refl) (λ _. tt))
      (λ _. tt)

  pub segment_taken : (st st' : NoState) (s : List ℕ) (used : ℕ) (g : Segment) → segment_of rule w st s ≡ took used g st' → Taken rule w s used g
  unfolding Said
  segment_taken st st' s used g e = rw e at (said st s)

  pub segment_sound : Sound (segment_of rule w)
  segment_sound = record { takes = λ st st' s used g e. let t = segment_taken st st' s used g e in (omega (arith, t.size), t.room) }

  -- what is not all there is refused for that
  pub short_segment : (s : List ℕ) → 2 ≤ length s → length s < 2 + span w (get_or s 1 0) → segment_of rule w tt s ≡ stop Truncated
  unfolding segment_of
  short_segment s there cut = rw (le-leb 2 (length s) there, lt-leb (2 + span w (get_or s 1 0)) (length s) cut)

  module _ (s : List ℕ) (there : 2 ≤ length s) (room : 2 + span w (get_or s 1 0) ≤ length s) where
    -- what is there, and has no fault, is taken
    pub taken_segment : rule (get_or s 0 0) (get_or s 1 0) ≡ fine → segment_of rule w tt s ≡ took (2 + span w (get_or s 1 0)) (segment_at w s) tt
    unfolding segment_of
    taken_segment e = rw (le-leb 2 (length s) there, le-leb (2 + span w (get_or s 1 0)) (length s) room, e)

    -- what is there, and has a fault, is refused for it
    pub fault_segment : (r : Refusal) → rule (get_or s 0 0) (get_or s 1 0) ≡ Err r → segment_of rule w tt s ≡ stop r
    unfolding segment_of
    fault_segment r e = rw (le-leb 2 (length s) there, le-leb (2 + span w (get_or s 1 0)) (length s) room, e)

  -- ---- the step behind a count

  behind : (s : List ℕ) (x : Step NoState Segment) (n : ℕ) → Said s x → count_in x ≡ Ok n
      → (x ≡ took (2 + span w n) (segment_at w s) tt) × (get_or s 1 0 ≡ n)
  unfolding Said segment_at
  behind s (took used g tt) n t e =
      let len : length g.asns ≡ n = cc in
      let k : get_or s 1 0 ≡ n = sym (length_numbers w (get_or s 1 0) (drop 2 s)) ∙ ap (λ (h : Segment). length h.asns) (sym t.is) ∙ len in
      (ap₂ (λ (u : ℕ) (h : Segment). took u h tt) (t.size ∙ ap (λ (j : ℕ). 2 + span w j) k) t.is, k)
  behind s (stop r) n t e = cc

  pub counted_taken : (s : List ℕ) (n : ℕ) → count_in (segment_of rule w tt s) ≡ Ok n
      → (segment_of rule w tt s ≡ took (2 + span w n) (segment_at w s) tt) × (get_or s 1 0 ≡ n)
  counted_taken s n e = behind s (segment_of rule w tt s) n (said tt s) e

  refused_behind : (x : Step NoState Segment) (r : Refusal) → count_in x ≡ Err r → x ≡ stop r
  refused_behind (took used g st) r e = cc
  refused_behind (stop q) r e = cc

  pub counted_refused : (s : List ℕ) (r : Refusal) → count_in (segment_of rule w tt s) ≡ Err r → segment_of rule w tt s ≡ stop r
  counted_refused s r e = refused_behind (segment_of rule w tt s) r e

  -- ---- what a loop counts is no more than the bytes passed

  pub light_segments : Light (segment_of rule w) (λ _. 1) 1
  light_segments st st' s used g e = omega (arith, (segment_taken st st' s used g e).size)

  pub light_numbers : 0 < w → Light (segment_of rule w) (λ g. length (asns_of g)) 1
  unfolding segment_at
  light_numbers pos st st' s used g e =
      let t = segment_taken st st' s used g e in
      let n : length (asns_of g) ≡ get_or s 1 0 = ap (λ (h : Segment). length (asns_of h)) t.is ∙ length_numbers w (get_or s 1 0) (drop 2 s) in
      omega (arith, t.size, span_many w (get_or s 1 0) pos)
