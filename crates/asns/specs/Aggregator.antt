-- AGGREGATOR. RFC 4271 section 4.3: an AS number of two octets and an identifier of four. RFC 6793 section 4.1: an AS number of four.
use Rattle.std.specs.Prelude.{ℕ, List, [], ◌∷◌, ◌++◌, Bool, true, false, length, leb, eqb, Result, Ok, Err}
use Rattle.wire.specs.Choice.{pick}
use Rattle.wire.specs.Number.{be_at, to_be}
use Rattle.wire.specs.Refusal.{list_limit}
use Rattle.wire.specs.Answer.{Answer, flag, filled, meaning_of, count_meaning}
use Rattle.asns.specs.Asn.{width_of, fits_width}
use Rattle.asns.specs.declared.AsnLength.{AsnLength}
use Rattle.asns.specs.declared.AsnLength.TheVariants.{Bits16, Bits32}
use Rattle.asns.specs.declared.Aggregator.{Aggregator}
use Rattle.wire.specs.declared.refusal.Refusal.{Refusal}
use Rattle.wire.specs.declared.refusal.Refusal.TheVariants.{TooLong, AggregatorLength, NoRoom, WideNumber}

-- ---- reading

-- the number, the identifier, and 1 where the width is not the configured one
abbrev pub aggregator_meaning : Result Aggregator Refusal → Answer
aggregator_meaning = meaning_of (λ a. a.asn ∷ a.identifier ∷ flag a.differs ∷ [])

-- the width found is not the one configured
abbrev pub unlike : AsnLength → AsnLength → Bool
unlike Bits16 Bits16 = false
unlike Bits16 Bits32 = true
unlike Bits32 Bits16 = true
unlike Bits32 Bits32 = false

-- the value's own width tells where the number ends
abbrev pub aggregator_in : List ℕ → AsnLength → AsnLength → Aggregator
aggregator_in s found width = record { asn = be_at s 0 (width_of found); identifier = be_at s (width_of found) 4; differs = unlike found width }

-- over the limit, 1; eight bytes and six are read; other lengths, 10
unfoldable pub aggregator_of : List ℕ → AsnLength → Result Aggregator Refusal
aggregator_of s width =
    pick (leb (length s) list_limit)
    (pick (eqb (length s) 8) (Ok (aggregator_in s Bits32 width))
    (pick (eqb (length s) 6) (Ok (aggregator_in s Bits16 width))
    (Err AggregatorLength)))
    (Err TooLong)

-- ---- writing

unfoldable pub aggregator_bytes : AsnLength → ℕ → ℕ → List ℕ
aggregator_bytes width asn identifier = to_be (width_of width) asn ++ to_be 4 identifier

-- the number in the width's bytes, 13; room for all, 11
unfoldable pub aggregator_written : ℕ → ℕ → AsnLength → ℕ → Result ℕ Refusal
aggregator_written asn identifier width places =
    let size : ℕ = length (aggregator_bytes width asn identifier) in
    pick (fits_width asn width) (pick (leb size places) (Ok size) (Err NoRoom)) (Err WideNumber)

-- the output afterwards
unfoldable pub aggregator_left : ℕ → ℕ → AsnLength → List ℕ → List ℕ
aggregator_left asn identifier width out = filled (count_meaning (aggregator_written asn identifier width (length out))) (aggregator_bytes width asn identifier) out
