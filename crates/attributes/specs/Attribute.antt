-- One attribute of an UPDATE's attribute section, and a section of them. RFC 4271 section 4.3: a flags octet, a type octet, a length of one octet,
-- or of two where the Extended Length bit of the flags is set, and that many octets of value.
use Rattle.std.specs.Prelude.{ℕ, ◌+◌, ◌/◌, ◌%◌, List, Bool, length, get_or, leb, eqb}
use Rattle.wire.specs.Choice.{pick}
use Rattle.wire.specs.Number.{be_at}
use Rattle.wire.specs.Walk.{Step, took, stop, Reading, read_all}
use Rattle.wire.specs.declared.refusal.Refusal.TheVariants.{Truncated}

-- the types that this library reads: AS_PATH and AGGREGATOR (RFC 4271 section 5.1), AS4_PATH and AS4_AGGREGATOR (RFC 6793 section 3), MP_REACH_NLRI and
-- MP_UNREACH_NLRI (RFC 4760 sections 3 and 4)
abbrev pub as_path : ℕ
as_path = 2

abbrev pub aggregator : ℕ
aggregator = 7

abbrev pub as4_path : ℕ
as4_path = 17

abbrev pub as4_aggregator : ℕ
as4_aggregator = 18

abbrev pub mp_reach_nlri : ℕ
mp_reach_nlri = 14

abbrev pub mp_unreach_nlri : ℕ
mp_unreach_nlri = 15

-- the Extended Length bit, the fourth from the top: 0x10
abbrev pub extended_length : ℕ
extended_length = 16

unfoldable pub is_extended : ℕ → Bool
is_extended flags = eqb (flags / extended_length % 2) 1

-- the octets of the length
unfoldable pub length_size : ℕ → ℕ
length_size flags = pick (is_extended flags) 2 1

-- the octets before the value: flags, type and length
unfoldable pub head_size : ℕ → ℕ
head_size flags = 2 + length_size flags

-- an attribute's head: its flags, its type, and the length of its value
pub record Head : Type 0 where
  pub flags : ℕ
  pub kind : ℕ
  pub size : ℕ

-- all the octets of the attribute
abbrev pub size_of : Head → ℕ
size_of a = head_size a.flags + a.size

-- the head of the attribute whose octets stand at the front
unfoldable pub attribute_front : List ℕ → Head
attribute_front s = record { flags = get_or s 0 0; kind = get_or s 1 0; size = be_at s 2 (length_size (get_or s 0 0)) }

-- a section is read in one state
abbrev pub NoState : Type 0
NoState = Unit

-- the step of a section: an attribute that is all there, or 2
unfoldable pub attribute_of : NoState → List ℕ → Step NoState Head
attribute_of st s = pick (leb (size_of (attribute_front s)) (length s)) (took (size_of (attribute_front s)) (attribute_front s) tt) (stop Truncated)

-- the attributes of a section before one that is cut, and its verdict
unfoldable pub section_of : List ℕ → Reading Head
section_of s = read_all attribute_of tt s
