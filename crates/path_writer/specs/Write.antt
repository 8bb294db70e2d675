-- Writing a path that is lent as pairs of type and count and as numbers back to back. RFC 4271 section 4.3, RFC 6793 section 4.1.
use Rattle.std.specs.Prelude.{ℕ, ◌-◌, ◌^◌, List, [], ◌∷◌, Bool, true, false, length, get_or, take, drop, leb, ltb, eqb, Err}
use Rattle.wire.specs.Choice.{pick}
use Rattle.wire.specs.Number.{to_be}
use Rattle.wire.specs.Verdict.{Verdict, fine, answer_by, either}
use Rattle.wire.specs.Walk.{Step, took, stop, Reading, read_all, flat}
use Rattle.wire.specs.declared.refusal.Refusal.TheVariants.{LongSegment, WideNumber, NotWritable}
use Rattle.paths.specs.Segment.{Segment, Rule}

-- the bytes of a segment: its type, its count, and its numbers of w bytes each
unfoldable pub segment_bytes : ℕ → Segment → List ℕ
segment_bytes w g = g.kind ∷ length g.asns ∷ flat (to_be w) g.asns

-- the pairs are whole, and their counts use up n numbers
unfoldable pub adds_up : List ℕ → ℕ → Bool
adds_up [] n = eqb n 0
adds_up (kind ∷ []) n = false
adds_up (kind ∷ count ∷ pairs) n = pick (leb count n) (adds_up pairs (n - count)) false

-- w bytes hold each number
unfoldable pub all_fit : ℕ → List ℕ → Bool
all_fit w [] = true
all_fit w (v ∷ vs) = pick (ltb v (256 ^ w)) (all_fit w vs) false

-- the count byte's largest value
abbrev pub most_numbers : ℕ
most_numbers = 255

-- what stands against writing a segment: the rule; then the count, 12; then a number, 13
unfoldable pub write_fault : Rule → ℕ → ℕ → ℕ → List ℕ → Verdict
write_fault rule w kind count asns =
    either (rule kind count) (pick (leb count most_numbers) (pick (all_fit w asns) fine (Err WideNumber)) (Err LongSegment))

-- the segment of the pair at the front and of its numbers
abbrev pub lent_segment : List ℕ → List ℕ → Segment
lent_segment numbers pairs = record { kind = get_or pairs 0 0; asns = take (get_or pairs 1 0) numbers }

-- the step over pairs; the state is the numbers still left
unfoldable pub lent_of : Rule → ℕ → List ℕ → List ℕ → Step (List ℕ) Segment
lent_of rule w numbers pairs =
    let count : ℕ = get_or pairs 1 0 in
    pick (leb 2 (length pairs))
    (answer_by (write_fault rule w (get_or pairs 0 0) count (take count numbers)) (took 2 (lent_segment numbers pairs) (drop count numbers)) stop)
    (stop NotWritable)

-- the segments lent before the first that cannot be written, and whether there is one
unfoldable pub lent_path : Rule → ℕ → List ℕ → List ℕ → Reading Segment
lent_path rule w pairs numbers = read_all (lent_of rule w) numbers pairs

-- the bytes of a path
unfoldable pub path_bytes : ℕ → List Segment → List ℕ
path_bytes w rows = flat (segment_bytes w) rows
