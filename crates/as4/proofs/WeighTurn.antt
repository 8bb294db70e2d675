-- The loop that weighs a path: what holds at its head, and what a turn makes of it, over any weight of a segment's type and count.
-- Assumes nothing.
use Prim.Native.Nat.{ℕ, ◌+◌, ◌-◌, ◌≤◌, ◌<◌}
use mathlib.Core.Path.{◌≡◌, sym, ap, ap₂, subst, ◌∙◌}
use mathlib.Core.List.{List}
use native.Mathlib.Omega.{arith}
use lib.ListN.{length, get_or, take, drop}
use Rattle.wire.specs.Refusal.{list_limit}
use Rattle.wire.specs.Walk.{tally, flat}
use Rattle.std.specs.Prelude.{Result, Ok, Err}
use Rattle.wire.specs.Verdict.{fine}
use Rattle.wire.specs.declared.refusal.Refusal.{Refusal}
use Rattle.wire.proofs.Turn.{Light, Counted, count_start, count_step, count_stop, count_done, tally_few, rest}
use Rattle.asns.specs.Asn.{span}
use Rattle.asns.proofs.AsnLaws.{span_many}
use Rattle.paths.specs.Segment.{Segment, known_type, segment_at, segment_of, path_of, asns_of}
use Rattle.paths.specs.Promises.{count_in}
use Rattle.paths.proofs.SegmentLaws.{segment_sound, segment_taken, counted_taken, counted_refused, length_numbers}
use Rattle.paths.proofs.PathTurn.{kind_is}
use Rattle.as4.specs.Merge.{kept}
use Rattle.as4.specs.Private.{kept_count, route_count, weight_of, weighed}
use Rattle.as4.specs.declared.Weight.{Weight}
use Rattle.as4.proofs.SegmentLaws.{count_most, route_most, route_tally, kept_segments, kept_numbers}
use Rattle.as4.proofs.PromiseLaws.{fault_short, weighed_good, weighed_bad}

-- a segment by its type and how many numbers it has
abbrev pub weight_by : (ℕ → ℕ → ℕ) → Segment → ℕ
weight_by f g = f g.kind (length (asns_of g))

-- at the head: what stands before `at` weighs c
abbrev pub WeighedTo : (ℕ → ℕ → ℕ) → ℕ → List ℕ → ℕ → ℕ → Type 0
WeighedTo f w s at c = Counted (segment_of known_type w) (weight_by f) 1 tt s tt at c

module _ (f : ℕ → ℕ → ℕ) (small : (kind n : ℕ) → f kind n ≤ 1 + n) (w : ℕ) (pos : 0 < w) where
  light : Light (segment_of known_type w) (weight_by f) 1
  unfolding segment_at
  light st st' s used g e =
      let t = segment_taken known_type w st st' s used g e in
      let n : length (asns_of g) ≡ get_or s 1 0 = ap (λ (h : Segment). length (asns_of h)) t.is ∙ length_numbers w (get_or s 1 0) (drop 2 s) in
      omega (arith, t.size, span_many w (get_or s 1 0) pos, small g.kind (length (asns_of g)))

  -- all of it weighs no more than its bytes
  weight_few : (s : List ℕ) → tally (weight_by f) (path_of known_type w s).rows ≤ length s
  unfolding path_of
  weight_few s = tally_few (segment_of known_type w) (segment_sound known_type w) (weight_by f) light tt s

  module _ (s : List ℕ) where
    pub weigh_start : WeighedTo f w s 0 0
    weigh_start = count_start (segment_of known_type w) (segment_sound known_type w) (weight_by f) 1 light tt s

    module _ (at c : ℕ) (h : WeighedTo f w s at c) where
      pub weigh_next : (k : ℕ) → count_in (segment_of known_type w tt (drop at s)) ≡ Ok k → WeighedTo f w s (at + (2 + span w k)) (c + f (get_or s at 0) k)
      unfolding segment_at
      weigh_next k e =
          let t = counted_taken known_type w (drop at s) k e in
          let len : length (asns_of (segment_at w (drop at s))) ≡ k = length_numbers w (get_or (drop at s) 1 0) (drop 2 (drop at s)) ∙ t.1 in
          subst (λ (x : ℕ). WeighedTo f w s (at + (2 + span w k)) (c + x)) (ap₂ f (kind_is w s at) len)
          (count_step (segment_of known_type w) (segment_sound known_type w) (weight_by f) 1 light tt s tt at c h tt _ _ t.0)

      pub weigh_stop : (r : Refusal) → at < length s → count_in (segment_of known_type w tt (drop at s)) ≡ Err r → (path_of known_type w s).verdict ≡ Err r
      unfolding path_of
      weigh_stop r lt e = count_stop (segment_of known_type w) (segment_sound known_type w) (weight_by f) 1 light tt s tt at c h r lt (counted_refused known_type w (drop at s) r e)

      pub weigh_done : length s ≤ at → ((path_of known_type w s).verdict ≡ fine) × (tally (weight_by f) (path_of known_type w s).rows ≡ c)
      unfolding path_of
      weigh_done le = count_done (segment_of known_type w) (segment_sound known_type w) (weight_by f) 1 light tt s tt at c h le

-- ---- the three weights together

-- of a segment: one where it is kept, and its numbers
abbrev kept_one : ℕ → ℕ → ℕ
kept_one kind n = kept_count kind 1

abbrev kept_all : ℕ → ℕ → ℕ
kept_all kind n = kept_count kind n

kept_one_small : (kind n : ℕ) → kept_one kind n ≤ 1 + n
kept_one_small kind n = omega (arith, count_most kind 1)

kept_all_small : (kind n : ℕ) → kept_all kind n ≤ 1 + n
kept_all_small kind n = omega (arith, count_most kind n)

pub record Weighing (w : ℕ) (s : List ℕ) (at : ℕ) (weight : Weight) : Type 0 where
  pub counted : WeighedTo route_count w s at weight.route_len
  pub segments : WeighedTo kept_one w s at weight.segments
  pub numbers : WeighedTo kept_all w s at weight.numbers

-- what is kept of a path has no more segments, and no more numbers, than bytes
pub kept_few : (w : ℕ) → 0 < w → (s : List ℕ) → (length (kept (path_of known_type w s).rows) ≤ length s) × (length (flat asns_of (kept (path_of known_type w s).rows)) ≤ length s)
kept_few w pos s =
    let rows = (path_of known_type w s).rows in
    (omega (arith, weight_few kept_one kept_one_small w pos s, kept_segments rows), omega (arith, weight_few kept_all kept_all_small w pos s, kept_numbers rows))

module _ {w : ℕ} (pos : 0 < w) {s : List ℕ} where
  pub weighing_start : Weighing w s 0 (record { route_len = 0; segments = 0; numbers = 0 })
  weighing_start = record {
    counted = weigh_start route_count route_most w pos s;
    segments = weigh_start kept_one kept_one_small w pos s;
    numbers = weigh_start kept_all kept_all_small w pos s;
  }

  module _ {at : ℕ} {weight : Weight} (h : Weighing w s at weight) where
    -- what a call on the part from `at` on says of the step there
    here : (x : Result ℕ Refusal) → x ≡ count_in (segment_of known_type w tt (take (length s - at) (drop at s))) → count_in (segment_of known_type w tt (drop at s)) ≡ x
    here x e = sym (rw rest at e)

    -- after a segment of k numbers; no count is over that of the bytes
    pub weighing_next : (k : ℕ) → Ok k ≡ count_in (segment_of known_type w tt (take (length s - at) (drop at s)))
        → let next : Weight = record { route_len = weight.route_len + route_count (get_or s at 0) k; segments = weight.segments + kept_count (get_or s at 0) 1; numbers = weight.numbers + kept_count (get_or s at 0) k } in
        Weighing w s (at + (2 + span w k)) next × (at + (2 + span w k) ≤ length s) × (next.route_len ≤ length s) × (next.segments ≤ length s) × (next.numbers ≤ length s)
    weighing_next k e =
        let counted = weigh_next route_count route_most w pos s at weight.route_len h.counted k (here _ e) in
        let segments = weigh_next kept_one kept_one_small w pos s at weight.segments h.segments k (here _ e) in
        let numbers = weigh_next kept_all kept_all_small w pos s at weight.numbers h.numbers k (here _ e) in (
          record { counted = counted; segments = segments; numbers = numbers },
          counted.within,
          omega (arith, counted.few, counted.within),
          omega (arith, segments.few, segments.within),
          omega (arith, numbers.few, numbers.within),
        )

    pub weighing_stop : (r : Refusal) → length s ≤ list_limit → at < length s → Err r ≡ count_in (segment_of known_type w tt (take (length s - at) (drop at s)))
        → ◌≡◌ {A = Result Weight Refusal} (Err r) (weighed s (path_of known_type w s))
    weighing_stop r short lt e =
        sym (weighed_bad s (path_of known_type w s) r (fault_short s (path_of known_type w s) short ∙ weigh_stop route_count route_most w pos s at weight.route_len h.counted r lt (here _ e)))

    pub weighing_done : length s ≤ list_limit → length s ≤ at → Ok weight ≡ weighed s (path_of known_type w s)
    weighing_done short le =
        let r = path_of known_type w s in
        let counted = weigh_done route_count route_most w pos s at weight.route_len h.counted le in
        let segments = weigh_done kept_one kept_one_small w pos s at weight.segments h.segments le in
        let numbers = weigh_done kept_all kept_all_small w pos s at weight.numbers h.numbers le in
        let same : weight_of r.rows ≡ weight =
        rw (sym (route_tally r.rows) ∙ counted.1, sym (kept_segments r.rows) ∙ segments.1, sym (kept_numbers r.rows) ∙ numbers.1) in
        sym (weighed_good s r (fault_short s r short ∙ counted.0) ∙ ap Ok same)
