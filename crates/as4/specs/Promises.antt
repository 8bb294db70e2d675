-- What the calls on both paths answer and leave, from the bytes of all four values.
use Rattle.std.specs.Prelude.{ℕ, List, Bool, length, leb, Result, Err}
use Rattle.wire.specs.Answer.{filled}
use Rattle.wire.specs.Choice.{pick}
use Rattle.wire.specs.Refusal.{list_limit}
use Rattle.wire.specs.Verdict.{Verdict, either}
use Rattle.wire.specs.Walk.{Reading, flat}
use Rattle.asns.specs.Asn.{width_of}
use Rattle.asns.specs.declared.AsnLength.TheVariants.{Bits16, Bits32}
use Rattle.paths.specs.Segment.{Segment, known_type, path_of, pair_of, asns_of}
use Rattle.paths.specs.Promises.{path_meaning, answer_of, in_stores}
use Rattle.paths.specs.declared.Path.{Path}
use Rattle.wire.specs.declared.refusal.Refusal.{Refusal}
use Rattle.wire.specs.declared.refusal.Refusal.TheVariants.{TooLong}
use Rattle.as4.specs.Standing.{sizes_fault, ignored}
use Rattle.as4.specs.Merge.{merged}

-- the crate's reading of AS_PATH, and of AS4_PATH
abbrev pub old_path : List ℕ → Reading Segment
old_path s = path_of known_type (width_of Bits16) s

abbrev pub new_path : List ℕ → Reading Segment
new_path s = path_of known_type (width_of Bits32) s

-- whether a value that is read is fine: 1 first
unfoldable pub fault_of : List ℕ → Reading Segment → Verdict
fault_of s r = pick (leb (length s) list_limit) r.verdict (Err TooLong)

-- the path that AS_PATH and AS4_PATH make, where the second is ignored and where it is not: the refusal of the first, then that of the second in either case
unfoldable pub both_of : Bool → List ℕ → List ℕ → Reading Segment
both_of ignores path four = record {
  rows = pick ignores (old_path path).rows (merged (old_path path).rows (new_path four).rows);
  verdict = either (fault_of path (old_path path)) (fault_of four (new_path four));
}

-- with AGGREGATOR and AS4_AGGREGATOR: 10 for either of them comes first
unfoldable pub built_of : List ℕ → List ℕ → List ℕ → List ℕ → Reading Segment
built_of path four first second =
    let both : Reading Segment = both_of (ignored first second) path four in
    record { rows = both.rows; verdict = either (sizes_fault first second) both.verdict }

-- in stores of so many places: 11 last
abbrev pub merge_answer : Reading Segment → ℕ → ℕ → Result Path Refusal
merge_answer r pair_places number_places = in_stores (answer_of r) pair_places number_places

-- the stores afterwards: of the pairs, and of the numbers
unfoldable pub merged_pairs : Reading Segment → List ℕ → ℕ → List ℕ
merged_pairs r pairs number_places = filled (path_meaning (merge_answer r (length pairs) number_places)) (flat pair_of r.rows) pairs

unfoldable pub merged_numbers : Reading Segment → ℕ → List ℕ → List ℕ
merged_numbers r pair_places numbers = filled (path_meaning (merge_answer r pair_places (length numbers))) (flat asns_of r.rows) numbers
