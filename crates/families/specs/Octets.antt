-- How many octets follow a length byte, as a table. RFC 4271 section 4.3, for IPv6 RFC 4760 section 5: the prefix, and trailing bits to an octet's end.
use Rattle.std.specs.Prelude.{ℕ, zero, suc, List, [], ◌∷◌, leb, ltb, get_or}
use Rattle.wire.specs.Choice.{pick}
use Rattle.families.specs.Family.{octets}

-- what stands for a length that a family has not
abbrev pub refused_length : ℕ
refused_length = 255

-- what stands for a length byte, where the longest prefix has max bits: THE RULE of every table
abbrev pub entry_of : ℕ → ℕ → ℕ
entry_of max l = pick (leb l max) (octets l) refused_length

-- what f gives for the n numbers from i on
abbrev pub listed : (ℕ → ℕ) → ℕ → ℕ → List ℕ
listed f i zero = []
listed f i (suc n) = f i ∷ listed f (suc i) n

-- the table: an entry for each of the 256 bytes
unfoldable pub table_of : ℕ → List ℕ
table_of max = listed (entry_of max) 0 256

-- what a table says of a length byte; no other number is a length
abbrev pub entry : List ℕ → ℕ → ℕ
entry counts l = pick (ltb l 256) (get_or counts l 0) refused_length
