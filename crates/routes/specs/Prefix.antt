-- One route. RFC 4271 section 4.3: a length octet, and that many bits of address in whole octets.
-- RFC 7911 section 3: where Add-Path is in use, four octets of path identifier before it.
use Rattle.std.specs.Prelude.{ℕ, ◌+◌, ◌-◌, ◌*◌, ◌^◌, ◌%◌, List, [], ◌∷◌, ◌++◌, Bool, not, length, get_or, take, drop, ltb, leb, eqb, Result, Ok, Err}
use Rattle.wire.specs.Answer.{Answer, meaning_of, flag}
use Rattle.wire.specs.Choice.{pick}
use Rattle.wire.specs.Number.{be, be_at}
use Rattle.wire.specs.declared.refusal.Refusal.{Refusal}
use Rattle.wire.specs.declared.refusal.Refusal.TheVariants.{Truncated, PrefixLength}
use Rattle.families.specs.Family.{id_size, mark_of, octets}
use Rattle.families.specs.declared.Form.{Form}
use Rattle.routes.specs.declared.Row.{Row}
use Rattle.routes.specs.declared.Prefix.{Prefix}
use Rattle.routes.specs.declared.Route.{Route}

-- the address word at octet i of o; octets that o lacks are 0
unfoldable pub word_at : List ℕ → ℕ → ℕ
word_at o i = be_at o i 4

-- the row of address octets, a first word and an id
unfoldable pub row_of : List ℕ → ℕ → ℕ → Row
row_of o first id = record { first = first; id = id; w0 = word_at o 0; w1 = word_at o 4; w2 = word_at o 8; w3 = word_at o 12 }

-- the row of an item's bytes: id where there is one, length, octets; no bit of them is changed
unfoldable pub item_row : Form → List ℕ → Row
item_row form item = row_of (drop (id_size form + 1) item) (get_or item (id_size form) 0 + mark_of form) (be (take (id_size form) item))

-- six words to a row
abbrev pub words : Row → List ℕ
words r = r.first ∷ r.id ∷ r.w0 ∷ r.w1 ∷ r.w2 ∷ r.w3 ∷ []

-- the bytes of the item at the front: id, length byte, octets
abbrev pub item_end : Form → List ℕ → ℕ
item_end form s = id_size form + 1 + octets (get_or s (id_size form) 0)

-- an item of so many bytes, and its row
abbrev pub prefix_with : ℕ → Row → Prefix
prefix_with used row = record { used = used; row = row }

-- the item at the front: id and length byte there, 2; the length against the maximum, 7; the octets there, 2
unfoldable pub prefix_of : List ℕ → ℕ → Form → Result Prefix Refusal
prefix_of s max form =
    let k : ℕ = id_size form in
    pick (ltb k (length s))
    (pick (leb (get_or s k 0) max)
    (pick (leb (item_end form s) (length s))
    (Ok (prefix_with (item_end form s) (item_row form (take (item_end form s) s))))
    (Err Truncated))
    (Err PrefixLength))
    (Err Truncated)

-- ---- host bits

-- whether a bit past the length l is set, of an item's bytes as one number: the last of its bits, as many as l lacks to whole octets (RFC 4271 section
-- 4.3: "trailing bits", whose value "is irrelevant")
unfoldable pub host_bits : Form → List ℕ → Bool
host_bits form item = let l : ℕ = get_or item (id_size form) 0 in not (eqb (be item % 2 ^ (8 * octets l - l)) 0)

-- the item at the front, and whether it has such a bit
abbrev pub with_host : Form → List ℕ → Result Prefix Refusal → Result Route Refusal
with_host form s (Ok p) = Ok (record { prefix = p; host = host_bits form (take p.used s) })
with_host form s (Err r) = Err r

unfoldable pub route_of : List ℕ → ℕ → Form → Result Route Refusal
route_of s max form = with_host form s (prefix_of s max form)

-- one route as documents 01 and 02 have it: the bytes that it takes, its six words, and whether it has a host bit
abbrev pub route_values : Route → List ℕ
route_values a = a.prefix.used ∷ words a.prefix.row ++ flag a.host ∷ []

abbrev pub route_meaning : Result Route Refusal → Answer
route_meaning = meaning_of route_values
