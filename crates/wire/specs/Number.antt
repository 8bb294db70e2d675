-- Numbers as bytes, the first byte highest (RFC 4271 section 4: network byte order), over the size.
use Rattle.std.specs.Prelude.{ℕ, zero, suc, ◌+◌, ◌*◌, ◌^◌, ◌/◌, ◌%◌, ◌<◌, List, [], ◌∷◌, length, get_or, drop}

-- the number that bytes stand for
abbrev pub be : List ℕ → ℕ
be [] = 0
be (b ∷ bs) = b * 256 ^ length bs + be bs

-- the n bytes of a number below 256 ^ n
abbrev pub to_be : ℕ → ℕ → List ℕ
to_be zero v = []
to_be (suc n) v = v / 256 ^ n ∷ to_be n (v % 256 ^ n)

-- the first n of a list, 0 where it has none
abbrev pub padded : ℕ → List ℕ → List ℕ
padded zero s = []
padded (suc n) [] = 0 ∷ padded n []
padded (suc n) (b ∷ s) = b ∷ padded n s

-- the number of the n bytes at a place; bytes past the end are 0
unfoldable pub be_at : List ℕ → ℕ → ℕ → ℕ
be_at s at n = be (padded n (drop at s))

-- each is a byte
abbrev pub Bytes : List ℕ → Type 0
Bytes s = (i : ℕ) → get_or s i 0 < 256

-- each is a 32-bit number
abbrev pub Words : List ℕ → Type 0
Words s = (i : ℕ) → get_or s i 0 < 2 ^ 32
