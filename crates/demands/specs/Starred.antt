-- The starred examples of document 01, routes and paths, as one table over the definitions, with one claim at the end.
-- Assumes nothing.
use Rattle.std.specs.Prelude.{ℕ, ◌+◌, ◌≡◌, refl, List, [], ◌∷◌}
use Rattle.wire.specs.Number.{be_at}
use Rattle.wire.specs.Refusal.{truncated, prefix_length, one_byte_section, segment_type}
use Rattle.wire.specs.Verdict.{verdict_number}
use Rattle.wire.specs.Walk.{Reading, read_all, walk}
use Rattle.families.specs.Family.{max_of}
use Rattle.routes.specs.Prefix.{word_at, row_of, item_row, prefix_of}
use Rattle.routes.specs.List.{in_form, guess_form, step_by, list_by, section_by, list_of, section_of}
use Rattle.families.specs.declared.Afi.TheVariants.{Ipv4}
use Rattle.families.specs.declared.AddPath.{AddPath}
use Rattle.families.specs.declared.AddPath.TheVariants.{On, Off, Guess}
use Rattle.routes.specs.declared.Row.{Row}
use Rattle.asns.specs.Asn.{span, width_of}
use Rattle.asns.specs.declared.AsnLength.{AsnLength}
use Rattle.asns.specs.declared.AsnLength.TheVariants.{Bits16, Bits32}
use Rattle.paths.specs.Segment.{Segment, numbers_of, known_type, type_fault, segment_at, segment_of, path_of}

-- a row of document 01 counts as one of these: bytes, a setting, and what reading them gives
pub data Example : Type 0 where
  list : AddPath → List ℕ → List Row → ℕ → Example
  section : AddPath → List ℕ → List Row → ℕ → Example
  path : AsnLength → List ℕ → List Segment → ℕ → Example

abbrev pub Reads : {A : Type 0} → Reading A → List A → ℕ → Type 0
Reads reading rows number = (reading.rows ≡ rows) × (verdict_number reading.verdict ≡ number)

-- the items before a refusal are those rows, and the refusal is that number, 0 where there is none
abbrev pub Holds : Example → Type 0
Holds (list mode s rows number) = Reads (list_of s (max_of Ipv4) mode) rows number
Holds (section mode s rows number) = Reads (section_of s (max_of Ipv4) mode) rows number
Holds (path width s segments number) = Reads (path_of known_type (width_of width) s) segments number

abbrev pub AllHold : List Example → Type 0
AllHold [] = Unit
AllHold (e ∷ es) = Holds e × AllHold es

-- an IPv4 route without an id, with one, and with one that the guess found (document 02, K8)
abbrev pub route : ℕ → ℕ → Row
route len address = record { first = len; id = 0; w0 = address; w1 = 0; w2 = 0; w3 = 0 }

abbrev pub route_with_id : ℕ → ℕ → ℕ → Row
route_with_id id len address = record { first = 256 + len; id = id; w0 = address; w1 = 0; w2 = 0; w3 = 0 }

abbrev pub route_with_guess : ℕ → ℕ → ℕ → Row
route_with_guess id len address = record { first = 256 + 512 + len; id = id; w0 = address; w1 = 0; w2 = 0; w3 = 0 }

abbrev pub sequence : List ℕ → Segment
sequence asns = record { kind = 2; asns = asns }

-- no refusal
abbrev pub good : ℕ
good = 0

abbrev pub table : List Example
table =
    list Off [] [] good
    ∷ list Off (0x00 ∷ []) (route 0 0 ∷ []) good
    ∷ list Guess (0x00 ∷ []) (route 0 0 ∷ []) good
    ∷ section Off (0x08 ∷ []) [] one_byte_section
    ∷ list Off (0x20 ∷ 0x0A ∷ 0x00 ∷ 0x00 ∷ 0x01 ∷ []) (route 32 0x0A000001 ∷ []) good
    ∷ list Off (0x21 ∷ 0x0A ∷ 0x00 ∷ 0x00 ∷ 0x00 ∷ 0x00 ∷ []) [] prefix_length
    ∷ list On (0x00 ∷ 0x00 ∷ 0x00 ∷ 0x07 ∷ 0x08 ∷ 0x0A ∷ []) (route_with_id 7 8 0x0A000000 ∷ []) good
    ∷ list Off (0x00 ∷ 0x00 ∷ 0x00 ∷ 0x07 ∷ 0x08 ∷ 0x0A ∷ []) (route 0 0 ∷ route 0 0 ∷ route 0 0 ∷ route 7 0x08000000 ∷ []) truncated
    ∷ list Off (0x00 ∷ 0x18 ∷ 0x0A ∷ 0x01 ∷ 0x08 ∷ 0x18 ∷ 0xC8 ∷ 0x02 ∷ 0x00 ∷ []) (route 0 0 ∷ route 24 0x0A010800 ∷ route 24 0xC8020000 ∷ []) good
    ∷ list Guess (0x00 ∷ 0x18 ∷ 0x0A ∷ 0x01 ∷ 0x08 ∷ 0x18 ∷ 0xC8 ∷ 0x02 ∷ 0x00 ∷ []) (route_with_guess 1575425 8 0x18000000 ∷ []) prefix_length
    ∷ path Bits32 (0x02 ∷ 0x02 ∷ 0x00 ∷ 0x00 ∷ 0xFD ∷ 0xE9 ∷ 0x00 ∷ 0x00 ∷ 0xFD ∷ 0xEA ∷ []) (sequence (65001 ∷ 65002 ∷ []) ∷ []) good
    ∷ path Bits16 (0x02 ∷ 0x02 ∷ 0x00 ∷ 0x00 ∷ 0xFD ∷ 0xE9 ∷ 0x00 ∷ 0x00 ∷ 0xFD ∷ 0xEA ∷ []) (sequence (0 ∷ 65001 ∷ []) ∷ []) segment_type
    ∷ path Bits32 (0x02 ∷ 0x00 ∷ []) (sequence [] ∷ []) good
    ∷ []

-- every example of the table holds
pub starred : AllHold table
unfolding list_by section_by step_by in_form guess_form prefix_of item_row row_of word_at be_at read_all walk path_of segment_of segment_at numbers_of type_fault span
starred = ((refl, refl), ((refl, refl), ((refl, refl), ((refl, refl), ((refl, refl), ((refl, refl), ((refl, refl), ((refl, refl), ((refl, refl), ((refl, refl), ((refl, refl), ((refl, refl), ((refl, refl), tt)))))))))))))
