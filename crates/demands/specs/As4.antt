-- What old and new AS numbers side by side are (RFC 6793 section 4.2.3), of the calls themselves: whatever they are given, answer and leave.
-- Assumes nothing.
use Prim.Native.Nat.{ℕ, zero, suc, ◌+◌, ◌*◌, ◌^◌, ◌≤◌, ◌<◌}
use Rattle.std.specs.Prelude.{◌≡◌, refl, true, take, ltb, Result, Ok, Err}
use Rattle.std.proofs.Math.Path.{sym, ap, ap₂}
use Rattle.std.proofs.Common.{subst, ◌∙◌, zero-add, arith, lt-ltb, ltb-true, take_all, length-take-le}
use mathlib.Core.List.{List, [], ◌∷◌}
use Rattle.std.specs.Borrow.{Bor, MutBor}
use Rattle.std.proofs.Math.ListN.{length}
use Rattle.std.proofs.Math.Seq.{take_at}
use Rattle.wire.specs.Cutting.{Each}
use Rattle.wire.specs.Extent.{PartOf}
use Rattle.wire.specs.Number.{Bytes}
use Rattle.wire.specs.Refusal.{list_limit}
use Rattle.wire.specs.Store.{laid}
use Rattle.wire.specs.Walk.{Reading, flat}
use Rattle.wire.specs.Verdict.{fine}
use Rattle.wire.specs.declared.refusal.Refusal.{Refusal}
use Rattle.wire.proofs.CuttingLaws as Cuttings
use Rattle.asns.specs.Asn.{width_of, span}
use Rattle.asns.specs.declared.AsnLength.{AsnLength}
use Rattle.asns.specs.declared.AsnLength.TheVariants.{Bits16, Bits32}
use Rattle.asns.proofs.AsnLaws.{span_is}
use Rattle.paths.specs.Segment.{Segment, Rule, known_type, rule_of, segment_at, segment_of, path_of, pair_of, asns_of}
use Rattle.paths.specs.WellFormed.{Known, WellFormed}
use Rattle.paths.specs.declared.PathRule.{PathRule}
use Rattle.paths.specs.declared.PathRule.TheVariants.{Crate}
use Rattle.paths.specs.declared.Path.{Path}
use Rattle.paths.proofs.FormedLaws.{ruled, decides}
use Rattle.paths.proofs.PromiseLaws.{pairs_length, read_path, path_stores}
use Rattle.paths.proofs.count_as_path.Reads as count_as_path
use Rattle.paths.proofs.parse_as_path.Reads as parse_as_path
use Rattle.path_writer.specs.Write.{all_fit, lent_path, path_bytes}
use Rattle.path_writer.specs.Promises.{lent_bytes, encode_answer, encode_left}
use Rattle.path_writer.proofs.WriteLaws.{holds}
use Rattle.path_writer.proofs.Lent.{WritableSegment, lend}
use Rattle.path_writer.proofs.PromiseLaws.{all_written, written_out}
use Rattle.path_writer.proofs.RoundTrip.{stands}
use Rattle.path_writer.proofs.encode_as_path.Reads as encode_as_path
use Rattle.as4.specs.Standing.{sizes_fault, standing, owner_of, handed_back}
use Rattle.as4.specs.Merge.{route_len_of, split, merged, Comes}
use Rattle.as4.specs.Promises.{old_path, new_path, built_of}
use Rattle.as4.specs.declared.Standing.{Standing}
use Rattle.as4.specs.declared.Standing.TheVariants as S
use Rattle.as4.proofs.MergedLaws as Laws
use Rattle.as4.proofs.MergeStores.{as_read, leave_alone}
use Rattle.as4.proofs.PlanLaws.{answer_alone, built_absent, built_good}
use Rattle.as4.proofs.standing_aggregator.Reads as standing_aggregator
use Rattle.as4.proofs.count_merged_as_path.Reads as count_merged_as_path
use Rattle.as4.proofs.merge_as_path.Reads as merge_as_path

-- ---- the words of the statements

-- a call on both AGGREGATORs: the bytes of each
abbrev pub aggregator : {R : Type 0} → Bor (List ℕ) × R → Bor (List ℕ)
aggregator given = given.0

abbrev pub as4_aggregator : {A R : Type 0} → A × (Bor (List ℕ) × R) → Bor (List ℕ)
as4_aggregator given = given.1.0

-- a call on both paths: AS_PATH, AS4_PATH, the two AGGREGATORs and, unless it counts, the stores of the pairs and of the numbers
abbrev pub as_path : {R : Type 0} → Bor (List ℕ) × R → List ℕ
as_path given = given.0.now

abbrev pub as4_path : {A R : Type 0} → A × (Bor (List ℕ) × R) → List ℕ
as4_path given = given.1.0.now

abbrev pub first : {A B R : Type 0} → A × (B × (Bor (List ℕ) × R)) → List ℕ
first given = given.1.1.0.now

abbrev pub second : {A B C R : Type 0} → A × (B × (C × (Bor (List ℕ) × R))) → List ℕ
second given = given.1.1.1.0.now

abbrev pub pairs : {A B C D R : Type 0} → A × (B × (C × (D × (MutBor (List ℕ) × R)))) → List ℕ
pairs given = given.1.1.1.1.0.now

abbrev pub numbers : {A B C D E R : Type 0} → A × (B × (C × (D × (E × (MutBor (List ℕ) × R))))) → List ℕ
numbers given = given.1.1.1.1.1.0.now

-- ---- 1. The AGGREGATOR that stands is handed back itself, one of the two values and no copy; a refusal hands back nothing.

module _ (κs : _) (given : _) (part : _) (exit : _) (call : standing_aggregator.Learnt κs given part exit) where
  by_answer : (a : Result Standing Refusal) → standing (aggregator given).now (as4_aggregator given).now ≡ a
      → PartOf (owner_of a (aggregator given) (as4_aggregator given)) (handed_back a (aggregator given) (as4_aggregator given)) part
  by_answer a e = subst (λ (x : Result Standing Refusal). PartOf (owner_of x (aggregator given) (as4_aggregator given)) (handed_back x (aggregator given) (as4_aggregator given)) part) e call

  all_of : (s : Bor (List ℕ)) → PartOf s (record { start = 0; size = length s.now }) part → (part.now ≡ s.now) × (part.ref_ptr ≡ s.ref_ptr)
  all_of s p = (p.holds ∙ take_all (length s.now) s.now (omega arith), p.lies ∙ ap (λ (n : ℕ). (s.ref_ptr.0, n)) (zero-add s.ref_ptr.1))

  pub first_stands : standing (aggregator given).now (as4_aggregator given).now ≡ Ok S.Aggregator → (part.now ≡ (aggregator given).now) × (part.ref_ptr ≡ (aggregator given).ref_ptr)
  first_stands e = all_of (aggregator given) (by_answer (Ok S.Aggregator) e)

  pub second_stands : standing (aggregator given).now (as4_aggregator given).now ≡ Ok S.As4Aggregator → (part.now ≡ (as4_aggregator given).now) × (part.ref_ptr ≡ (as4_aggregator given).ref_ptr)
  second_stands e = all_of (as4_aggregator given) (by_answer (Ok S.As4Aggregator) e)

  pub none_stands : (why : Refusal) → standing (aggregator given).now (as4_aggregator given).now ≡ Err why → part.now ≡ []
  none_stands why e = (by_answer (Err why) e).holds

-- ---- 2. Over lists of segments: a path that is built counts as AS_PATH does, and its segments are leading ones of AS_PATH, whole but for the last, and then
-- those of AS4_PATH.

pub counts_alike : (path four : List Segment) → route_len_of (merged path four) ≡ route_len_of path
counts_alike = Laws.merged_counts

pub comes_from : (path four : List Segment) → Comes path four (merged path four)
comes_from = Laws.merged_comes

-- ---- 3. With an absent AS4_PATH it is AS_PATH: the calls answer and leave as those on a path do, by the crate's rule, of numbers of two bytes.

module _ (κs : _) (given : _) (answer : _) (exit : _) (call : merge_as_path.Learnt κs given answer exit)
    (κs' : _) (given' : _) (answer' : _) (exit' : _)
    (call' : parse_as_path.Learnt κs' (given.0, (Bits16, (Crate, (given.1.1.1.1.0, (given.1.1.1.1.1.0, given'))))) answer' exit') where
  pub absent_merged : as4_path given ≡ [] → sizes_fault (first given) (second given) ≡ fine
      → (answer ≡ answer') × (pairs exit ≡ exit'.1.1.1.0.now) × (numbers exit ≡ exit'.1.1.1.1.0.now)
  absent_merged none sized =
      let b = built_absent (as_path given) (as4_path given) (first given) (second given) (sym sized) (ap length none) in
      let r = built_of (as_path given) (as4_path given) (first given) (second given) in
      let l = leave_alone r (pairs given) (numbers given) (as_path given) (old_path (as_path given)) (answer_alone r (as_path given) b.0 b.1) b.0 in
      (call.0 ∙ sym l.0 ∙ sym call'.0, call.1.0 ∙ sym l.1.0 ∙ sym call'.1.0, call.1.1 ∙ sym l.1.1 ∙ sym call'.1.1)

module _ (κs : _) (given : _) (answer : _) (exit : _) (call : count_merged_as_path.Learnt κs given answer exit)
    (κs' : _) (given' : _) (answer' : _) (exit' : _) (call' : count_as_path.Learnt κs' (given.0, (Bits16, (Crate, given'))) answer' exit') where
  pub absent_counted : as4_path given ≡ [] → sizes_fault (first given) (second given) ≡ fine → answer ≡ answer'
  absent_counted none sized =
      let b = built_absent (as_path given) (as4_path given) (first given) (second given) (sym sized) (ap length none) in
      call ∙ sym (answer_alone (built_of (as_path given) (as4_path given) (first given) (second given)) (as_path given) b.0 b.1) ∙ sym call'

-- ---- 4. No segment of what is built has over 255 numbers, and each can be written at width 4.

-- numbers that fit two bytes fit four
fit_four : (ns : List ℕ) → all_fit 2 ns ≡ true → all_fit 4 ns ≡ true
unfolding all_fit
fit_four [] e = refl
fit_four (v ∷ ns) e =
    let h = holds (ltb v (256 ^ 2)) (all_fit 2 ns) e in
    rw (lt-ltb v (256 ^ 4) (omega (arith, ltb-true v (256 ^ 2) h.0))) (fit_four ns h.1)

-- the first of numbers that fit
fit_front : (w n : ℕ) (ns : List ℕ) → all_fit w ns ≡ true → all_fit w (take n ns) ≡ true
unfolding all_fit
fit_front w zero ns e = refl
fit_front w (suc n) [] e = refl
fit_front w (suc n) (v ∷ ns) e = let h = holds (ltb v (256 ^ w)) (all_fit w ns) e in rw h.0 (fit_front w n ns h.1)

-- a segment that is written at width 2 is written at width 4, and so are its first numbers
wider : (g : Segment) → WritableSegment known_type 2 g → WritableSegment known_type 4 g
wider g h = record { fine = h.fine; short = h.short; fit = fit_four (asns_of g) h.fit }

shorter : (n : ℕ) (g : Segment) → 0 < n → n < length (asns_of g) → WritableSegment known_type 4 g → WritableSegment known_type 4 (split n g)
shorter n g pos lt h = record { fine = h.fine; short = omega (arith, h.short, length-take-le n (asns_of g) (omega (arith, lt)), lt); fit = fit_front 4 n (asns_of g) h.fit }

-- the segments of a path that is read
read_writable : (w : ℕ) (s : List ℕ) → Bytes s → (path_of known_type w s).verdict ≡ fine → Each (WritableSegment known_type w) (path_of known_type w s).rows
unfolding path_of
read_writable w s bytes good =
    let d = decides known_type Known (ruled Crate) w in
    let cut = Cuttings.read_cut (segment_of known_type w) (WellFormed Known w) (segment_at w) d tt s good in
    let each = Cuttings.items_written (WellFormed Known w) (segment_at w) (WritableSegment known_type w) _ (stands known_type Known (ruled Crate) w) cut.0 cut.1.each (subst Bytes (sym cut.1.whole) bytes) in
    subst (λ (r : Reading Segment). Each (WritableSegment known_type w) r.rows) (sym (Cuttings.cut_read (segment_of known_type w) (WellFormed Known w) (segment_at w) d tt s cut.0 cut.1)) each.0

module _ (path four one two : List ℕ) (bytes : Bytes path) (bytes' : Bytes four) where
  pub built_writable : (built_of path four one two).verdict ≡ fine → Each (WritableSegment known_type 4) (built_of path four one two).rows
  built_writable good =
      let f = built_good path four one two good in
      let old = Cuttings.each_map wider (old_path path).rows (read_writable 2 path bytes f.0) in
      let new = read_writable 4 four bytes' f.1 in
      Laws.comes_each (WritableSegment known_type 4) shorter (old_path path).rows (new_path four).rows (built_of path four one two).rows f.2 old new

-- so it is written at width 4 wherever its bytes, two and four a number for each segment, are at most 65,535, given room
module _ (κs : _) (given : _) (answer : _) (exit : _) (call : merge_as_path.Learnt κs given answer exit)
    (κs' : _) (given' : _) (answer' : _) (exit' : _) (call' : encode_as_path.Learnt κs' given' answer' exit') where
  pub merged_written : (path : Path) → answer ≡ Ok path → Bytes (as_path given) → Bytes (as4_path given)
      → given'.0.now ≡ take (2 * path.segments) (pairs exit) → given'.1.0.now ≡ take path.numbers (numbers exit) → given'.1.1.0 ≡ Bits32 → given'.1.1.1.0 ≡ Crate
      → 2 * path.segments + 4 * path.numbers ≤ list_limit → 2 * path.segments + 4 * path.numbers ≤ length given'.1.1.1.1.0.now
      → (answer' ≡ Ok (2 * path.segments + 4 * path.numbers))
      × (exit'.1.1.1.1.0.now ≡ laid given'.1.1.1.1.0.now 0 (path_bytes 4 (built_of (as_path given) (as4_path given) (first given) (second given)).rows))
  unfolding lent_bytes
  merged_written path said bytes bytes' p q width rule short room =
      let r = built_of (as_path given) (as4_path given) (first given) (second given) in
      let out : List ℕ = given'.1.1.1.1.0.now in
      let heads : List ℕ = flat pair_of r.rows in
      let asns : List ℕ = flat asns_of r.rows in
      let alike = as_read r (pairs given) (numbers given) in
      let accepted = sym alike.0 ∙ sym call.0 ∙ said in
      let h = read_path [] r path (length (pairs given)) (length (numbers given)) accepted in
      let stores = path_stores [] r (pairs given) (numbers given) path accepted in
      let two : length heads ≡ 2 * path.segments = pairs_length r.rows ∙ ap (λ (x : Path). 2 * x.segments) h.2 in
      let many : length asns ≡ path.numbers = ap (λ (x : Path). x.numbers) h.2 in
      let lent_heads : given'.0.now ≡ heads = p ∙ ap (take (2 * path.segments)) (call.1.0 ∙ alike.1.0 ∙ stores.0) ∙ take_at heads _ (2 * path.segments) two in
      let lent_asns : given'.1.0.now ≡ asns = q ∙ ap (take path.numbers) (call.1.1 ∙ alike.1.1 ∙ stores.1) ∙ take_at asns _ path.numbers many in
      let w = lend known_type 4 r.rows (built_writable (as_path given) (as4_path given) (first given) (second given) bytes bytes' h.1) in
      let size : length heads + span 4 (length asns) ≡ 2 * path.segments + 4 * path.numbers = omega (arith, two, many, span_is 4 (length asns)) in
      let good : (lent_path known_type 4 heads asns).verdict ≡ fine = ap (λ (x : Reading Segment). x.verdict) w.0 in
      let written = all_written known_type 4 heads asns (length out) w.1 (sym good) (omega (arith, size, short)) (omega (arith, size, room)) in
      let same : (f : Rule → ℕ → List ℕ → List ℕ → List ℕ) → f (rule_of given'.1.1.1.0) (width_of given'.1.1.0) given'.0.now given'.1.0.now ≡ f known_type 4 heads asns =
      λ f. ap₂ (λ (x : PathRule) (y : AsnLength). f (rule_of x) (width_of y) given'.0.now given'.1.0.now) rule width ∙ ap₂ (f known_type 4) lent_heads lent_asns in (
        call'.0
            ∙ ap₂ (λ (x : PathRule) (y : AsnLength). encode_answer (rule_of x) (width_of y) given'.0.now given'.1.0.now (length out)) rule width
            ∙ ap₂ (λ (x y : List ℕ). encode_answer known_type 4 x y (length out)) lent_heads lent_asns ∙ written ∙ ap Ok size,
        call'.1
            ∙ same (λ x y z t. encode_left x y z t out) ∙ written_out known_type 4 heads asns out _ written
            ∙ ap (λ (x : Reading Segment). laid out 0 (path_bytes 4 x.rows)) w.0,
      )
