-- The loop over the leading segments of AS_PATH: what holds at its head, and what a turn makes of it.
-- Assumes nothing.
use Prim.Native.Nat.{ℕ, ◌+◌, ◌-◌, ◌≤◌, ◌<◌}
use mathlib.Core.Path.{◌≡◌, refl, sym, ap, ap₂, ◌∙◌}
use mathlib.Core.List.{List, [], ◌∷◌, ◌++◌, append_assoc}
use mathlib.Core.Bool.{true, false}
use mathlib.Core.Logic.{◌⊎◌, ⊎_elim, inl, inr}
use borrow.Author.Tests.{lt-ltb, ltb-true, ltb-false}
use native.Mathlib.Decide.{dec_le}
use native.Mathlib.Nat.{lt_of_not-le}
use native.Mathlib.Omega.{arith}
use lib.ListN.{length, get_or, take, drop, length-append}
use lib.Seq.{take_at, get_or-drop}
use lib.Dec.{leb, ltb}
use Rattle.std.proofs.lemmas.Bool.{or_cases, or_parts}
use Rattle.wire.specs.Walk.{took, Reading, more, flat}
use Rattle.wire.specs.Verdict.{fine}
use Rattle.wire.proofs.ChoiceLaws.{and_true}
use Rattle.wire.proofs.CuttingLaws.{read_more}
use Rattle.wire.proofs.Turn.{turn_next, turn_end, turn_fits}
use Rattle.wire.proofs.WalkLaws.{all_nil}
use Rattle.asns.specs.Asn.{span}
use Rattle.asns.proofs.AsnLaws.{span_is, span_many}
use Rattle.paths.specs.Segment.{Segment, numbers_of, known_type, segment_at, segment_of, path_of, asns_of}
use Rattle.paths.specs.WellFormed.{Known, WellFormed}
use Rattle.paths.specs.declared.PathRule.TheVariants.{Crate}
use Rattle.paths.proofs.SegmentLaws.{segment_sound, numbers_add, length_numbers}
use Rattle.paths.proofs.FormedLaws.{ruled, decides}
use Rattle.paths.proofs.PathTurn.{kind_is, asns_length, good_taken}
use Rattle.as4.specs.Merge.{confed_sequence, is_confed, route_len, leading, split}
use Rattle.as4.specs.Promises.{old_path}
use Rattle.as4.specs.declared.Leading.{Leading}
use Rattle.as4.specs.Private.{route_count, goes_on, split_at, Leads}
use Rattle.as4.proofs.FrontLaws.{split_some}
use Rattle.as4.proofs.SegmentLaws.{route_is, flat_join, flat_one}
use Rattle.as4.proofs.MergeLaws.{lead_whole, lead_split, lead_ends}

-- at the head: what stands before `lead.end` is taken whole, and `left` is still to be made up
pub record LedTo (s : List ℕ) (need left : ℕ) (lead : Leading) : Type 0 where
  pub whole : lead.split ≡ 0
  pub within : lead.end ≤ length s
  pub read : (old_path (take lead.end s)).verdict ≡ fine
  pub good : (old_path (drop lead.end s)).verdict ≡ fine
  pub rows : leading need (old_path s).rows ≡ (old_path (take lead.end s)).rows ++ leading left (old_path (drop lead.end s)).rows
  pub segments : length (old_path (take lead.end s)).rows ≡ lead.segments
  pub numbers : length (flat asns_of (old_path (take lead.end s)).rows) ≡ lead.numbers
  pub few : (lead.segments ≤ lead.end) × (lead.numbers ≤ lead.end)

-- the segment at a place
abbrev here : List ℕ → ℕ → Segment
here s at = segment_at 2 (drop at s)

-- split: its first n numbers
fewer_numbers : (n k : ℕ) (t : List ℕ) → n ≤ k → take n (numbers_of 2 k t) ≡ numbers_of 2 n t
fewer_numbers n k t le =
    let sum : k ≡ n + (k - n) = omega arith in
    ap (λ (j : ℕ). take n (numbers_of 2 j t)) sum ∙ ap (take n) (numbers_add 2 n (k - n) t) ∙ take_at (numbers_of 2 n t) _ n (length_numbers 2 n t)

split_is : (s : List ℕ) (at n : ℕ) → 0 < n → n ≤ get_or s (at + 1) 0 → split_at s at n ≡ split n (here s at) ∷ []
unfolding segment_at
split_is s at n pos le =
    let t : List ℕ = drop at s in
    split_some s at n pos ∙ ap (λ (l : List ℕ). record { kind = get_or t 0 0; asns = l } ∷ []) (sym (fewer_numbers n (get_or t 1 0) (drop 2 t) (omega (arith, le, get_or-drop at s 1 0))))

-- nothing is left
ended : (n : ℕ) {r : Reading Segment} → r ≡ record { rows = []; verdict = fine } → leading n r.rows ≡ []
unfolding leading
ended n e = ap (λ (x : Reading Segment). leading n x.rows) e

module _ {s : List ℕ} {need : ℕ} where
  pub led_start : (old_path s).verdict ≡ fine → LedTo s need need (record { end = 0; split = 0; segments = 0; numbers = 0 })
  unfolding path_of flat
  led_start good =
      let none : old_path [] ≡ record { rows = []; verdict = fine } = all_nil (segment_of known_type 2) tt in
      record {
        whole = refl;
        within = omega arith;
        read = ap (λ (r : Reading Segment). r.verdict) none;
        good = good;
        rows = ap (λ (r : Reading Segment). r.rows ++ leading need (old_path s).rows) (sym none);
        segments = ap (λ (r : Reading Segment). length r.rows) none;
        numbers = ap (λ (r : Reading Segment). length (flat asns_of r.rows)) none;
        few = (omega arith, omega arith);
      }

  module _ {left : ℕ} {lead : Leading} (h : LedTo s need left lead) where
    -- a segment that stands there is the next of the path
    module _ (lt : lead.end < length s) where
      taken : segment_of known_type 2 tt (drop lead.end s) ≡ took (2 + span 2 (get_or s (lead.end + 1) 0)) (here s lead.end) tt
      taken = good_taken 2 s lead.end known_type h.good lt

      next : old_path (drop lead.end s) ≡ more (here s lead.end) (old_path (drop (lead.end + (2 + span 2 (get_or s (lead.end + 1) 0))) s))
      unfolding path_of
      next = turn_next (segment_of known_type 2) (segment_sound known_type 2) s tt lead.end tt _ _ taken

    -- the loop ends: at the end, or at a segment that is not to be taken
    nothing : goes_on s lead.end left ≡ false → leading left (old_path (drop lead.end s)).rows ≡ []
    unfolding path_of
    nothing e =
        elim (dec_le (length s) lead.end) [
          | yes le ↦ ended left (turn_end (segment_of known_type 2) (segment_sound known_type 2) s tt lead.end le)
          | no gt ↦
              (let lt : lead.end < length s = lt_of_not-le gt in
              let stays : (ltb 0 left ≡ false) × (leb confed_sequence (get_or s lead.end 0) ≡ false) = or_parts _ _ (rw (lt-ltb lead.end (length s) lt) at e) in
              let none : left ≡ 0 = omega (arith, ltb-false 0 left stays.0) in
              ap₂ (λ (k : ℕ) (r : Reading Segment). leading k r.rows) none (next lt) ∙ lead_ends (here s lead.end) _ (ap (leb confed_sequence) (kind_is 2 s lead.end) ∙ stays.1))
        ]

    pub led_ends : goes_on s lead.end left ≡ false → Leads s need lead
    unfolding split_at
    led_ends e = record {
      front = record { good = h.read; segments = h.segments; numbers = h.numbers; within = h.within; there = λ pos. absurd (omega (arith, pos, h.whole)); few = omega (arith, h.whole); small = h.few };
      rows = h.rows ∙ ap (λ (l : List Segment). (old_path (take lead.end s)).rows ++ l) (nothing e ∙ sym (ap (split_at s lead.end) h.whole));
    }

    module _ (on : goes_on s lead.end left ≡ true) where
      -- a segment stands there, and is to be taken
      there : (lead.end < length s) × (is_confed (here s lead.end) ≡ true ⊎ 0 < left)
      there =
          let both = and_true _ _ on in (
            ltb-true lead.end (length s) both.0,
            ⊎_elim (λ (pos : ltb 0 left ≡ true). inr (ltb-true 0 left pos))
                (λ (confed : leb confed_sequence (get_or s lead.end 0) ≡ true). inl (ap (leb confed_sequence) (kind_is 2 s lead.end) ∙ confed))
                (or_cases _ _ both.1),
          )

      pub led_fits : lead.end + (2 + span 2 (get_or s (lead.end + 1) 0)) ≤ length s
      led_fits = (turn_fits (segment_of known_type 2) (segment_sound known_type 2) s tt lead.end tt _ _ (taken there.0) h.within).1

      counted : route_count (get_or s lead.end 0) (get_or s (lead.end + 1) 0) ≡ route_len (here s lead.end)
      counted = ap₂ route_count (sym (kind_is 2 s lead.end)) (sym (asns_length 2 s lead.end)) ∙ route_is (here s lead.end)

      -- it is taken whole
      pub led_next : route_count (get_or s lead.end 0) (get_or s (lead.end + 1) 0) ≤ left
          → LedTo s need (left - route_count (get_or s lead.end 0) (get_or s (lead.end + 1) 0))
          (record { end = lead.end + (2 + span 2 (get_or s (lead.end + 1) 0)); split = lead.split; segments = lead.segments + 1; numbers = lead.numbers + get_or s (lead.end + 1) 0 })
      unfolding path_of
      led_next le =
          let at = lead.end in
          let g : Segment = here s at in
          let size : ℕ = 2 + span 2 (get_or s (at + 1) 0) in
          let front : List Segment = (old_path (take at s)).rows in
          let past : List Segment = (old_path (drop (at + size) s)).rows in
          let more_read = read_more (segment_of known_type 2) (WellFormed Known 2) (segment_at 2) (decides known_type Known (ruled Crate) 2) tt tt tt s at size g h.read (taken there.0) in
          let rest : leading left (old_path (drop at s)).rows ≡ g ∷ leading (left - route_len g) past =
          ap (λ (r : Reading Segment). leading left r.rows) (next there.0) ∙ lead_whole left g past there.1 (omega (arith, le, counted)) in
          record {
            whole = h.whole;
            within = led_fits;
            read = ap (λ (r : Reading Segment). r.verdict) more_read;
            good = sym (ap (λ (r : Reading Segment). r.verdict) (next there.0)) ∙ h.good;
            rows =
                h.rows
                ∙ ap (λ (l : List Segment). front ++ l) rest
                ∙ sym (append_assoc front (g ∷ []) (leading (left - route_len g) past))
                ∙ ap₂ (λ (r : Reading Segment) (k : ℕ). r.rows ++ leading (left - k) past) (sym more_read) (sym counted);
            segments = ap (λ (r : Reading Segment). length r.rows) more_read ∙ length-append front (g ∷ []) ∙ ap (λ (k : ℕ). k + 1) h.segments;
            numbers =
                ap (λ (r : Reading Segment). length (flat asns_of r.rows)) more_read ∙ ap length (flat_join asns_of front (g ∷ []))
                ∙ length-append (flat asns_of front) (flat asns_of (g ∷ []))
                ∙ ap₂ ◌+◌ h.numbers (ap length (flat_one asns_of g) ∙ asns_length 2 s at);
            few = (omega (arith, h.few.0), omega (arith, h.few.1, span_many 2 (get_or s (at + 1) 0) (omega arith)));
          }

      -- it is split
      pub led_split : left < route_count (get_or s lead.end 0) (get_or s (lead.end + 1) 0) → get_or s (lead.end + 1) 0 < 256
          → Leads s need (record { end = lead.end; split = left; segments = lead.segments; numbers = lead.numbers })
      led_split lt byte =
          let at = lead.end in
          let k : ℕ = get_or s (at + 1) 0 in
          let past : List Segment = (old_path (drop (at + (2 + span 2 k)) s)).rows in
          let f = lead_split left (here s at) past there.1 (omega (arith, lt, counted)) in
          let fewer : left < k = omega (arith, f.2, asns_length 2 s at) in
          record {
            front = record {
              good = h.read;
              segments = h.segments;
              numbers = h.numbers;
              within = h.within;
              there = λ pos. omega (arith, led_fits, span_is 2 left, span_is 2 k, fewer);
              few = omega (arith, fewer, byte);
              small = h.few;
            };
            rows =
                h.rows
                ∙ ap (λ (r : Reading Segment). (old_path (take at s)).rows ++ leading left r.rows) (next there.0)
                ∙ ap (λ (l : List Segment). (old_path (take at s)).rows ++ l) (f.0 ∙ sym (split_is s at left f.1 (omega (arith, fewer))));
          }
