-- AS numbers as bytes: of two octets, or of four (RFC 6793 section 4.1), the first byte highest (RFC 4271 section 4).
use Rattle.std.specs.Prelude.{ℕ, zero, suc, ◌+◌, ◌^◌, List, Bool, ◌&&◌, ltb, leb}
use Rattle.wire.specs.Choice.{pick}
use Rattle.wire.specs.Number.{to_be}
use Rattle.wire.specs.Store.{placed}
use Rattle.asns.specs.declared.AsnLength.{AsnLength}
use Rattle.asns.specs.declared.AsnLength.TheVariants.{Bits16, Bits32}

-- the bytes of an AS number
abbrev pub width_of : AsnLength → ℕ
width_of Bits16 = 2
width_of Bits32 = 4

-- the bytes of n AS numbers of w bytes; by recursion, since both are unknown
unfoldable pub span : ℕ → ℕ → ℕ
span w zero = 0
span w (suc n) = w + span w n

-- how many numbers go at once
abbrev pub at_once : ℕ
at_once = 8

-- whether so many may go for n: no more are asked for, so many are there, and so are their bytes
unfoldable pub eight_for : ℕ → ℕ → ℕ → ℕ → Bool
eight_for w n numbers bytes = leb n at_once && (leb at_once numbers && leb (span w at_once) bytes)

-- the width's bytes hold the number
abbrev pub fits_width : ℕ → AsnLength → Bool
fits_width asn width = ltb asn (256 ^ width_of width)

-- an output with the number at a place, where the width holds it and there is room
unfoldable pub with_number : List ℕ → ℕ → ℕ → AsnLength → List ℕ
with_number out to asn width = pick (fits_width asn width) (placed out to (to_be (width_of width) asn)) out
