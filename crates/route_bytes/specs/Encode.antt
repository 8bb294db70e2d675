-- The bytes of a row, the rows that have bytes, and a store of rows written row by row.
-- RFC 4271 section 4.3: a length octet, and that many bits of address in whole octets. RFC 7911 section 3: where Add-Path is in
-- use, four octets of path identifier before it.
use Rattle.std.specs.Prelude.{ℕ, ◌-◌, Bool, true, ◌&&◌, List, [], ◌∷◌, ◌++◌, length, take, drop, ◌==◌, nat_le, slice_index}
use Rattle.wire.specs.Choice.{pick}
use Rattle.wire.specs.Number.{to_be}
use Rattle.wire.specs.declared.refusal.Refusal.TheVariants.{NotWritable}
use Rattle.wire.specs.Walk.{Step, took, stop, Reading, read_all, flat}
use Rattle.families.specs.Family.{id_size, mark_of, octets}
use Rattle.families.specs.declared.Form.{Form}
use Rattle.families.specs.declared.Form.TheVariants.{Plain, Tagged}
use Rattle.routes.specs.declared.Row.{Row}

-- the octets of four address words
unfoldable pub four_words : ℕ → ℕ → ℕ → ℕ → List ℕ
four_words a b c d = to_be 4 a ++ (to_be 4 b ++ (to_be 4 c ++ to_be 4 d))

-- the sixteen address octets of a row
abbrev pub address : Row → List ℕ
address r = four_words r.w0 r.w1 r.w2 r.w3

-- the length of a row's prefix, which the form's mark is added to in the first word
abbrev pub length_of : Form → Row → ℕ
length_of form r = r.first - mark_of form

-- the id where the form has one, the length octet, the octets
unfoldable pub row_bytes : Form → Row → List ℕ
row_bytes form r = to_be (id_size form) r.id ++ (length_of form r ∷ take (octets (length_of form r)) (address r))

-- each is 0
unfoldable pub all_zero : List ℕ → Bool
all_zero [] = true
all_zero (b ∷ s) = b == 0 && all_zero s

-- no id is the id word 0
abbrev pub id_fits : Form → ℕ → Bool
id_fits Plain id = id == 0
id_fits Tagged id = true

-- a row that can be written in a form: the first word is that form's mark and a length in range; no id is 0; octets past the prefix are 0
unfoldable pub writable : ℕ → Form → Row → Bool
writable max form r =
    nat_le (mark_of form) r.first
    && (nat_le (length_of form r) max
    && (id_fits form r.id
    && all_zero (drop (octets (length_of form r)) (address r))))

-- the row of the six words at the front
unfoldable pub front_row : List ℕ → Row
front_row ws = record { first = slice_index ws 0; id = slice_index ws 1; w0 = slice_index ws 2; w1 = slice_index ws 3; w2 = slice_index ws 4; w3 = slice_index ws 5 }

-- six words that are a row that can be written, and else a refusal
unfoldable pub write_step : ℕ → Form → Unit {0} → List ℕ → Step (Unit {0}) Row
write_step max form st ws = pick (nat_le 6 (length ws) && writable max form (front_row ws)) (took 6 (front_row ws) tt) (stop NotWritable)

-- the rows of a store before the first that cannot be written, and whether one is there
unfoldable pub writing : List ℕ → ℕ → Form → Reading Row
writing ws max form = read_all (write_step max form) tt ws

-- their bytes, one row after another
unfoldable pub bytes_of : List ℕ → ℕ → Form → List ℕ
bytes_of ws max form = flat (row_bytes form) (writing ws max form).rows
