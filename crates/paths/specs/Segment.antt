-- One segment of an AS_PATH, and a path of them. RFC 4271 section 4.3: a type octet, a count octet, and that many AS numbers, of two
-- octets each, or of four (RFC 6793 section 4.1). RFC 4271 has the types 1 and 2, RFC 5065 section 3 the types 3 and 4.
use Rattle.std.specs.Prelude.{ℕ, zero, suc, ◌+◌, ◌≡◌, List, [], ◌∷◌, length, get_or, drop, leb, Err}
use Rattle.wire.specs.Choice.{pick}
use Rattle.wire.specs.Number.{be_at}
use Rattle.wire.specs.Verdict.{Verdict, fine, answer_by, either}
use Rattle.wire.specs.declared.refusal.Refusal.TheVariants.{Truncated, SegmentType, EmptySegment}
use Rattle.asns.specs.Asn.{span}
use Rattle.wire.specs.Walk.{Step, took, stop, Reading, read_all}
use Rattle.paths.specs.declared.PathRule.{PathRule}
use Rattle.paths.specs.declared.PathRule.TheVariants.{Crate, Strict}

-- a segment: its type, and its AS numbers in order
pub record Segment : Type 0 where
  pub kind : ℕ
  pub asns : List ℕ

-- the n numbers of w bytes at the front
unfoldable pub numbers_of : ℕ → ℕ → List ℕ → List ℕ
numbers_of w zero s = []
numbers_of w (suc n) s = be_at s 0 w ∷ numbers_of w n (drop w s)

-- a rule for segments: what is wrong with one of that type and count
abbrev pub Rule : Type 0
Rule = ℕ → ℕ → Verdict

-- the least and the greatest type: 1 set, 2 sequence, 3 confederation sequence, 4 confederation set
abbrev pub as_set : ℕ
as_set = 1

abbrev pub confed_set : ℕ
confed_set = 4

unfoldable pub type_fault : ℕ → Verdict
type_fault kind = pick (leb as_set kind) (pick (leb kind confed_set) fine (Err SegmentType)) (Err SegmentType)

-- the crate's rule: a known type, and every count
abbrev pub known_type : Rule
known_type kind count = type_fault kind

-- the strict rule: the same, and then a count that is not 0, since a segment of length zero is malformed (RFC 7606 section 7.2)
abbrev pub non_empty : Rule
non_empty kind count = either (type_fault kind) (pick (leb 1 count) fine (Err EmptySegment))

-- the rule that a call is given
abbrev pub rule_of : PathRule → Rule
rule_of Crate = known_type
rule_of Strict = non_empty

-- a path is read in one state
abbrev pub NoState : Type 0
NoState = Unit

-- the segment whose bytes stand at the front
unfoldable pub segment_at : ℕ → List ℕ → Segment
segment_at w s = record { kind = get_or s 0 0; asns = numbers_of w (get_or s 1 0) (drop 2 s) }

-- the step of a path: type and count there, 2; the numbers there, 2; then the rule
unfoldable pub segment_of : Rule → ℕ → NoState → List ℕ → Step NoState Segment
segment_of rule w st s =
    let size : ℕ = 2 + span w (get_or s 1 0) in
    pick (leb 2 (length s))
    (pick (leb size (length s)) (answer_by (rule (get_or s 0 0) (get_or s 1 0)) (took size (segment_at w s) tt) stop) (stop Truncated))
    (stop Truncated)

-- the segments of a path before its refusal, and whether there is one
unfoldable pub path_of : Rule → ℕ → List ℕ → Reading Segment
path_of rule w s = read_all (segment_of rule w) tt s

-- a segment in the lent stores: a pair of type and count, and its numbers
abbrev pub pair_of : Segment → List ℕ
pair_of g = g.kind ∷ length g.asns ∷ []

abbrev pub asns_of : Segment → List ℕ
asns_of g = g.asns

-- a segment of no numbers
abbrev pub NoNumbers : Segment → Type 0
NoNumbers g = length g.asns ≡ 0
