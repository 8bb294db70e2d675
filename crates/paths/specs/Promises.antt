-- What the calls on a path answer and leave, from the bytes and from the reading of them that `Segment` defines.
use Rattle.std.specs.Prelude.{ℕ, ◌/◌, List, [], ◌∷◌, length, leb, Result, Ok, Err}
use Rattle.wire.specs.Answer.{Answer, filled, meaning_of}
use Rattle.wire.specs.Choice.{pick}
use Rattle.wire.specs.Refusal.{list_limit}
use Rattle.wire.specs.Store.{placed}
use Rattle.wire.specs.Verdict.{unless}
use Rattle.wire.specs.Walk.{Step, took, stop, Reading, flat}
use Rattle.wire.specs.declared.refusal.Refusal.{Refusal}
use Rattle.wire.specs.declared.refusal.Refusal.TheVariants.{TooLong, NoRoom}
use Rattle.asns.specs.Asn.{span}
use Rattle.paths.specs.Segment.{Segment, numbers_of, NoState, pair_of, asns_of}
use Rattle.paths.specs.declared.Path.{Path}

-- ---- one segment

-- how many numbers a step found
abbrev pub count_in : Step NoState Segment → Result ℕ Refusal
count_in (took used g st) = Ok (length (asns_of g))
count_in (stop r) = Err r

-- the first n numbers of s at the front of a store, where all are there and fit, and else the store as it was
unfoldable pub asns_after : ℕ → List ℕ → ℕ → List ℕ → List ℕ
asns_after w s n d = pick (leb (span w n) (length s)) (placed d 0 (numbers_of w n s)) d

-- ---- a path

-- the segments, and their numbers
abbrev pub path_meaning : Result Path Refusal → Answer
path_meaning = meaning_of (λ p. p.segments ∷ p.numbers ∷ [])

-- how many of both there are
abbrev pub counts : List Segment → Path
counts rows = record { segments = length rows; numbers = length (flat asns_of rows) }

-- what a reading says
abbrev pub answer_of : Reading Segment → Result Path Refusal
answer_of r = unless r.verdict (counts r.rows)

-- counting: 1 first
unfoldable pub count_answer : List ℕ → Reading Segment → Result Path Refusal
count_answer s r = pick (leb (length s) list_limit) (answer_of r) (Err TooLong)

-- in stores of so many places, two for a segment and one for a number: 11 last
abbrev pub in_stores : Result Path Refusal → ℕ → ℕ → Result Path Refusal
in_stores (Ok p) pair_places number_places =
    pick (leb p.segments (pair_places / 2)) (pick (leb p.numbers number_places) (Ok p) (Err NoRoom)) (Err NoRoom)
in_stores (Err r) pair_places number_places = Err r

unfoldable pub read_answer : List ℕ → Reading Segment → ℕ → ℕ → Result Path Refusal
read_answer s r pair_places number_places = in_stores (count_answer s r) pair_places number_places

-- the stores afterwards: of the pairs, and of the numbers
unfoldable pub pairs_after : List ℕ → Reading Segment → List ℕ → ℕ → List ℕ
pairs_after s r pairs number_places = filled (path_meaning (read_answer s r (length pairs) number_places)) (flat pair_of r.rows) pairs

unfoldable pub numbers_after : List ℕ → Reading Segment → ℕ → List ℕ → List ℕ
numbers_after s r pair_places numbers = filled (path_meaning (read_answer s r pair_places (length numbers))) (flat asns_of r.rows) numbers
