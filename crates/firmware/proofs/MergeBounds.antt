-- The fields of every answer of the module merge are of 16 bits: a value that stands has its one size; and the path that is made has no more segments, and no
-- more numbers, than AS_PATH and AS4_PATH together.
-- Assumes nothing.
use Prim.Native.Nat.{ℕ, ◌+◌, ◌-◌, ◌*◌, ◌≤◌}
use mathlib.Core.Path.{◌≡◌, refl, ap, ◌∙◌}
use mathlib.Core.List.{List, [], ◌∷◌, ◌++◌}
use mathlib.Core.Bool.{◌&&◌}
use native.Mathlib.Nat.{mul-zero, mul-add, mul_comm, min-le_right}
use native.Mathlib.Omega.{arith}
use lib.ListN.{length, length-take, get_or, drop}
use lib.Dec.{leb, eqb}
use Rattle.std.specs.Prelude.{Ok, Err}
use Rattle.wire.specs.Refusal.{list_limit}
use Rattle.wire.specs.Walk.{read_all, tally, flat}
use Rattle.wire.specs.Verdict.{Verdict, fine, unless}
use Rattle.wire.proofs.AnswerLaws.{refused_not_fine, either_none}
use Rattle.wire.proofs.ChoiceLaws.{pick_any, pick_eqb}
use Rattle.wire.proofs.Turn.{Light, tally_few}
use Rattle.wire.proofs.WalkLaws.{tally_one, tally_flat, tally_append}
use Rattle.asns.proofs.AsnLaws.{span_is}
use Rattle.paths.specs.Segment.{Segment, known_type, segment_of, segment_at, path_of, asns_of}
use Rattle.paths.specs.Promises.{path_meaning, answer_of}
use Rattle.paths.proofs.SegmentLaws.{length_numbers, segment_sound, segment_taken}
use Rattle.as4.specs.Standing.{size_fault, sizes_fault, aggregator_size, as4_aggregator_size, standing, ignored}
use Rattle.as4.specs.declared.Standing.{Standing}
use Rattle.as4.specs.Merge.{is_confed, route_len, route_len_of, kept, split, leading, some, joint, merged}
use Rattle.as4.specs.Promises.{old_path, new_path, fault_of, both_of, built_of, merge_answer}
use Rattle.as4.proofs.PromiseLaws.{no_fault}
use Rattle.words.specs.Word.{in_fields, Narrow}
use Rattle.words.proofs.WordLaws.{refused_narrow}
use Rattle.firmware.proofs.PathBounds.{stores_narrow}

-- ---- the AGGREGATOR that stands

-- absent, or of its one size
sized : (n size : ℕ) → size_fault n size ≡ fine → n ≤ size
unfolding size_fault
sized n size =
    let Fine : Verdict → Type 0 = λ f. f ≡ fine → n ≤ size in
    pick_eqb Fine n 0 _ _ (λ e _. omega (arith, e)) (λ _. pick_eqb Fine n size _ _ (λ e _. omega (arith, e)) (λ _ z. absurd (refused_not_fine _ z)))

module _ (first second : List ℕ) where
  -- of what is no refusal
  both_sized : (v : Verdict) (good one : Standing) → sizes_fault first second ≡ v → Ok one ≡ unless v good
      → (length first ≤ aggregator_size) × (length second ≤ as4_aggregator_size)
  both_sized (Ok tt) good one e f =
      let h = either_none (size_fault (length first) aggregator_size) (size_fault (length second) as4_aggregator_size) e in
      (sized (length first) aggregator_size h.0, sized (length second) as4_aggregator_size h.1)
  both_sized (Err r) good one e f = let z : ◌≡◌ {A = ℕ} 0 1 = cc in absurd (omega arith)

  pub standing_sized : (one : Standing) → Ok one ≡ standing first second → (length first ≤ aggregator_size) × (length second ≤ as4_aggregator_size)
  unfolding standing
  standing_sized one e = both_sized (sizes_fault first second) _ one refl e

-- ---- the path that is made, by a weight to which a split does not add

module _ (weight : Segment → ℕ) (less : (n : ℕ) (g : Segment) → weight (split n g) ≤ weight g) where
  lead_few : (n : ℕ) (path : List Segment) → tally weight (leading n path) ≤ tally weight path
  unfolding leading tally
  lead_few n [] = omega arith
  lead_few n (g ∷ path) =
      let Few : List Segment → Type 0 = λ l. tally weight l ≤ weight g + tally weight path in
      pick_any Few (is_confed g) (g ∷ leading n path) _ (omega (arith, lead_few n path))
      (pick_any Few (eqb n 0) [] _ (omega arith)
      (pick_any Few (leb (route_len g) n) (g ∷ leading (n - route_len g) path) (split n g ∷ []) (omega (arith, lead_few (n - route_len g) path)) (omega (arith, less n g))))

  kept_few : (path : List Segment) → tally weight (kept path) ≤ tally weight path
  unfolding kept tally
  kept_few [] = omega arith
  kept_few (g ∷ path) =
      let Few : List Segment → Type 0 = λ l. tally weight l ≤ weight g + tally weight path in
      pick_any Few (is_confed g) (kept path) (g ∷ kept path) (omega (arith, kept_few path)) (omega (arith, kept_few path))

  merged_few : (path four : List Segment) → tally weight (merged path four) ≤ tally weight path + tally weight four
  unfolding joint
  merged_few path four =
      let Few : List Segment → Type 0 = λ l. tally weight l ≤ tally weight path + tally weight four in
      let n : ℕ = route_len_of path - route_len_of (kept four) in
      pick_any Few (some (kept four) && leb (route_len_of (kept four)) (route_len_of path)) (leading n path ++ kept four) path
      (omega (arith, tally_append weight (leading n path) (kept four), lead_few n path, kept_few four)) (omega arith)

  built_few : (path four first second : List ℕ) → tally weight (built_of path four first second).rows ≤ tally weight (old_path path).rows + tally weight (new_path four).rows
  unfolding built_of both_of
  built_few path four first second =
      pick_any (λ (l : List Segment). tally weight l ≤ tally weight (old_path path).rows + tally weight (new_path four).rows) (ignored first second) _ _
      (omega arith) (merged_few (old_path path).rows (new_path four).rows)

-- ---- what a path has at most, by its bytes

tally_times : (k : ℕ) {A : Type 0} (weight : A → ℕ) (rows : List A) → tally (λ a. k * weight a) rows ≡ k * tally weight rows
unfolding tally
tally_times k weight [] = omega (arith, mul-zero k)
tally_times k weight (a ∷ rows) = omega (arith, tally_times k weight rows, mul-add k (weight a) (tally weight rows))

module _ (w : ℕ) (s : List ℕ) where
  -- a segment takes two bytes and its numbers
  segments_half : 2 * length (path_of known_type w s).rows ≤ length s
  unfolding path_of
  segments_half =
      let rows : List Segment = (read_all (segment_of known_type w) tt s).rows in
      let light : Light (segment_of known_type w) (λ _. 2 * 1) 1 = λ st st' t used g e. omega (arith, (segment_taken known_type w st st' t used g e).size) in
      omega (arith, tally_one rows, tally_times 2 (λ _. 1) rows, tally_few (segment_of known_type w) (segment_sound known_type w) (λ _. 2 * 1) light tt s)

  numbers_part : w * length (flat asns_of (path_of known_type w s).rows) ≤ length s
  unfolding path_of segment_at
  numbers_part =
      let rows : List Segment = (read_all (segment_of known_type w) tt s).rows in
      let many : Segment → ℕ = λ g. length (asns_of g) in
      omega (arith, ap (λ (n : ℕ). w * n) (tally_flat asns_of rows), tally_times w many rows, tally_few (segment_of known_type w) (segment_sound known_type w) (λ g. w * many g) light tt s)
    where
      light : Light (segment_of known_type w) (λ g. w * length (asns_of g)) 1
      light st st' t used g e =
          let h = segment_taken known_type w st st' t used g e in
          let n : length (asns_of g) ≡ get_or t 1 0 = ap (λ (x : Segment). length (asns_of x)) h.is ∙ length_numbers w (get_or t 1 0) (drop 2 t) in
          omega (arith, h.size, span_is w (get_or t 1 0), mul_comm w (get_or t 1 0), ap (λ (k : ℕ). w * k) n)

-- ---- the answers

module _ (path four first second : List ℕ) where
  segments_both : length (built_of path four first second).rows ≤ length (old_path path).rows + length (new_path four).rows
  segments_both =
      omega (
        arith,
        built_few (λ _. 1) (λ _ _. omega arith) path four first second,
        tally_one (built_of path four first second).rows,
        tally_one (old_path path).rows,
        tally_one (new_path four).rows,
      )

  numbers_both : length (flat asns_of (built_of path four first second).rows) ≤ length (flat asns_of (old_path path).rows) + length (flat asns_of (new_path four).rows)
  numbers_both =
      omega (
        arith,
        built_few (λ g. length (asns_of g)) (λ n g. omega (arith, length-take n (asns_of g), min-le_right n (length (asns_of g)))) path four first second,
        tally_flat asns_of (built_of path four first second).rows,
        tally_flat asns_of (old_path path).rows,
        tally_flat asns_of (new_path four).rows,
      )

  pub built_narrow : Narrow (in_fields (path_meaning (answer_of (built_of path four first second))))
  unfolding built_of both_of
  built_narrow = by (built_of path four first second).verdict refl
    where
      by : (v : Verdict) → (built_of path four first second).verdict ≡ v
          → Narrow (in_fields (path_meaning (unless v (record { segments = length (built_of path four first second).rows; numbers = length (flat asns_of (built_of path four first second).rows) }))))
      by (Ok tt) e =
          let none = either_none (fault_of path (old_path path)) (fault_of four (new_path four)) (either_none (sizes_fault first second) _ e).1 in
          let short : length path ≤ list_limit = (no_fault path (old_path path) none.0).0 in
          let short' : length four ≤ list_limit = (no_fault four (new_path four) none.1).0 in
          record {
            a = omega (arith, segments_both, segments_half 2 path, segments_half 4 four);
            b = omega (arith, numbers_both, numbers_part 2 path, numbers_part 4 four);
            c = omega arith;
          }
      by (Err r) e = refused_narrow _

  pub merge_narrow : (p q : ℕ) → Narrow (in_fields (path_meaning (merge_answer (built_of path four first second) p q)))
  merge_narrow p q = stores_narrow (answer_of (built_of path four first second)) p q built_narrow
