-- Which of two AGGREGATORs stands. RFC 6793 section 4.2.3: where AGGREGATOR and AS4_AGGREGATOR are both there and the AS number of the first is not AS_TRANS,
-- the first is taken, and AS4_AGGREGATOR and AS4_PATH are ignored; where it is AS_TRANS, the second is taken. An empty value is an absent one.
use Rattle.std.specs.Prelude.{ℕ, List, [], ◌∷◌, Bool, ◌&&◌, not, length, ltb, eqb, Result, Ok, Err}
use Rattle.std.specs.Borrow.{Bor}
use Rattle.wire.specs.Answer.{Answer, meaning_of, handed}
use Rattle.wire.specs.Choice.{pick}
use Rattle.wire.specs.Extent.{Extent, extent}
use Rattle.wire.specs.Number.{be_at}
use Rattle.wire.specs.Verdict.{Verdict, fine, unless, either}
use Rattle.wire.specs.declared.refusal.Refusal.{Refusal}
use Rattle.wire.specs.declared.refusal.Refusal.TheVariants.{AggregatorLength}
use Rattle.as4.specs.declared.Standing.{Standing}
use Rattle.as4.specs.declared.Standing.TheVariants.{Aggregator, As4Aggregator}

-- AS_TRANS, the AS number that stands where one of four octets has no room (RFC 6793 section 9)
abbrev pub as_trans : ℕ
as_trans = 23456

-- the octets of each, its AS number of two or of four and an identifier of four
abbrev pub aggregator_size : ℕ
aggregator_size = 6

abbrev pub as4_aggregator_size : ℕ
as4_aggregator_size = 8

-- absent, or of its one size; else 10
unfoldable pub size_fault : ℕ → ℕ → Verdict
size_fault n size = pick (eqb n 0) fine (pick (eqb n size) fine (Err AggregatorLength))

abbrev pub sizes_fault : List ℕ → List ℕ → Verdict
sizes_fault first second = either (size_fault (length first) aggregator_size) (size_fault (length second) as4_aggregator_size)

-- neither is absent
abbrev pub both_there : List ℕ → List ℕ → Bool
both_there first second = ltb 0 (length first) && ltb 0 (length second)

abbrev pub has_as_trans : List ℕ → Bool
has_as_trans first = eqb (be_at first 0 2) as_trans

-- the second where both are there and the first has AS_TRANS, and else the first
abbrev pub stands : List ℕ → List ℕ → Standing
stands first second = pick (both_there first second && has_as_trans first) As4Aggregator Aggregator

-- 10 for either size comes first
unfoldable pub standing : List ℕ → List ℕ → Result Standing Refusal
standing first second = unless (sizes_fault first second) (stands first second)

-- AS4_PATH is ignored: the first stands though both are there
unfoldable pub ignored : List ℕ → List ℕ → Bool
ignored first second = both_there first second && not (has_as_trans first)

-- ---- what is answered, and what is handed back

-- 1 where AGGREGATOR stands, 2 where AS4_AGGREGATOR does
abbrev pub standing_number : Standing → ℕ
standing_number Aggregator = 1
standing_number As4Aggregator = 2

abbrev pub standing_meaning : Result Standing Refusal → Answer
standing_meaning = meaning_of (λ (s : Standing). standing_number s ∷ [])

-- the one of two that it is; of a refusal, the first, of which nothing is handed back
abbrev pub owner_of : {X : Type 0} → Result Standing Refusal → X → X → X
owner_of (Ok Aggregator) first second = first
owner_of (Ok As4Aggregator) first second = second
owner_of (Err r) first second = first

-- all of it, and nothing where it is refused
abbrev pub handed_back : Result Standing Refusal → Bor (List ℕ) → Bor (List ℕ) → Extent
handed_back a first second = handed (standing_meaning a) (extent 0 (length (owner_of a first second).now))
