-- What the calls on an attribute section answer, from the bytes and from the reading of them that `Attribute` defines.
use Rattle.std.specs.Prelude.{ℕ, ◌+◌, max, List, [], ◌∷◌, length, drop, leb, ltb, eqb, Option, Some, None, Result, Ok, Err}
use Rattle.wire.specs.Answer.{Answer, value_in, flag, meaning_of}
use Rattle.wire.specs.Choice.{pick}
use Rattle.wire.specs.Extent.{Extent, extent}
use Rattle.wire.specs.Refusal.{list_limit}
use Rattle.wire.specs.Verdict.{Verdict, unless}
use Rattle.wire.specs.Walk.{Step, took, stop, Reading, tally}
use Rattle.wire.specs.declared.refusal.Refusal.{Refusal}
use Rattle.wire.specs.declared.refusal.Refusal.TheVariants.{TooLong, RepeatedMpNlri}
use Rattle.attributes.specs.Attribute.{mp_reach_nlri, mp_unreach_nlri, head_size, Head, size_of, NoState, attribute_of, section_of}
use Rattle.attributes.specs.declared.Attribute.{Attribute}

-- an attribute, none, or why a section is refused
abbrev pub Found : Type 0
Found = Result (Option Attribute) Refusal

-- whether there is one; its flags, its type, where its value starts, the value's length, and where the next attribute stands
abbrev pub attribute_values : Option Attribute → List ℕ
attribute_values (Some a) = 1 ∷ a.flags ∷ a.kind ∷ a.start ∷ a.length ∷ a.next ∷ []
attribute_values None = 0 ∷ []

abbrev pub attribute_meaning : Found → Answer
attribute_meaning = meaning_of attribute_values

-- its value as a part of the section, and nothing where there is none
abbrev pub value_at : Found → Extent
value_at found = extent (value_in 3 (attribute_meaning found)) (value_in 4 (attribute_meaning found))

-- ---- the attribute at a place

-- one that stands at a place of the section
unfoldable pub standing : ℕ → Head → Attribute
standing place a = record { flags = a.flags; kind = a.kind; start = place + head_size a.flags; length = a.size; next = place + size_of a }

abbrev pub found_at : ℕ → Step NoState Head → Found
found_at place (took used a st) = Ok (Some (standing place a))
found_at place (stop r) = Err r

-- 1 first; none at or past the end; else what the step finds there
unfoldable pub attribute_at : List ℕ → ℕ → Found
attribute_at s place =
    pick (leb (length s) list_limit)
    (pick (leb (length s) place) (Ok None) (found_at place (attribute_of tt (drop place s))))
    (Err TooLong)

-- ---- the search

-- the first of a type among attributes that stand one after another from a place on
unfoldable pub first_of : ℕ → ℕ → List Head → Option Attribute
first_of kind place [] = None
first_of kind place (a ∷ rows) = pick (eqb a.kind kind) (Some (standing place a)) (first_of kind (place + size_of a) rows)

-- how many are of a type
unfoldable pub count_of : ℕ → List Head → ℕ
count_of kind rows = tally (λ a. flag (eqb a.kind kind)) rows

-- RFC 7606 section 3, by how often MP_REACH_NLRI and MP_UNREACH_NLRI are there: 15 where one of them is there more than once, and else the verdict given
unfoldable pub verdict_of : ℕ → ℕ → Verdict → Verdict
verdict_of reach unreach otherwise = pick (ltb 1 (max reach unreach)) (Err RepeatedMpNlri) otherwise

-- the section's verdict: an attribute that is cut stands after all that are read, so 15 among these comes before its 2
unfoldable pub judged : Reading Head → Verdict
judged r = verdict_of (count_of mp_reach_nlri r.rows) (count_of mp_unreach_nlri r.rows) r.verdict

-- 1 first; then the verdict; then the first of the type
unfoldable pub find_answer : List ℕ → ℕ → Found
find_answer s kind =
    pick (leb (length s) list_limit)
    (unless (judged (section_of s)) (first_of kind 0 (section_of s).rows))
    (Err TooLong)
