-- The fields of the answers whose fields are not their values in order. The others go by `in_fields` of words: a list has its rows and its host rows, an
-- index its places, an AS_PATH its segments and numbers, a writer its bytes.
use Rattle.std.specs.Prelude.{ℕ, ◌+◌, ◌*◌, ◌/◌, ◌%◌, List, [], ◌∷◌, length, leb, ltb, Option, Result, Ok, Err}
use Rattle.wire.specs.Answer.{Answer, given, refusal, number_in, value_in, flag, filled, handed}
use Rattle.wire.specs.Choice.{pick}
use Rattle.wire.specs.Extent.{Extent, extent}
use Rattle.wire.specs.Refusal.{number_of, no_room}
use Rattle.wire.specs.declared.refusal.Refusal.{Refusal}
use Rattle.as4.specs.Standing.{standing_meaning, owner_of}
use Rattle.as4.specs.declared.Standing.{Standing}
use Rattle.messages.specs.Header.{message_meaning}
use Rattle.messages.specs.declared.Message.{Message}
use Rattle.attributes.specs.Promises.{attribute_meaning}
use Rattle.attributes.specs.declared.Attribute.{Attribute}
use Rattle.mp_nlri.specs.Read.{reach_meaning}
use Rattle.mp_nlri.specs.declared.Reach.{Reach}
use Rattle.routes.specs.Prefix.{words}
use Rattle.routes.specs.declared.Route.{Route}
use Rattle.updates.specs.Body.{parts_meaning}
use Rattle.updates.specs.Update.{update_meaning}
use Rattle.updates.specs.declared.Parts.{Parts}
use Rattle.updates.specs.declared.Update.{Update}
use Rattle.slots.specs.declared.SlotAnswer.{SlotAnswer}
use Rattle.slots.specs.declared.SlotAnswer.TheVariants.{Slot, More, Stop, End}
use Rattle.words.specs.Settings.{settings_of}
use Rattle.words.specs.Word.{Fields, fields}

-- ---- messages

-- what it claims, what is taken of it, and its type with its three flags
abbrev pub message_fields : Result Message Refusal → Fields
message_fields a =
    fields (value_in 1 (message_meaning a)) (value_in 2 (message_meaning a))
    (value_in 0 (message_meaning a) + 256 * value_in 3 (message_meaning a) + 512 * value_in 4 (message_meaning a) + 1024 * value_in 5 (message_meaning a))
    (number_in (message_meaning a))

-- ---- UPDATE bodies

-- where a section starts, and its length
abbrev pub part_fields : (Result Parts Refusal → Extent) → Result Parts Refusal → Fields
part_fields section a = fields (section a).start (section a).size 0 (number_in (parts_meaning a))

-- the rows of both sections, and the verdict of each
abbrev pub update_fields : Result Update Refusal → Fields
update_fields a =
    fields (value_in 0 (update_meaning a)) (value_in 2 (update_meaning a))
    (value_in 1 (update_meaning a) + 256 * value_in 3 (update_meaning a)) (number_in (update_meaning a))

-- the rows of both sections that have a host bit, for which that word has no field
abbrev pub host_fields : Result Update Refusal → Fields
host_fields a = fields (value_in 4 (update_meaning a)) (value_in 5 (update_meaning a)) 0 (number_in (update_meaning a))

-- ---- attributes

-- where its value starts, the value's length, and its type with its flags; 0 each where there is none
abbrev pub attribute_fields : Result (Option Attribute) Refusal → Fields
attribute_fields a =
    fields (value_in 3 (attribute_meaning a)) (value_in 4 (attribute_meaning a)) (value_in 2 (attribute_meaning a) + 256 * value_in 1 (attribute_meaning a))
    (number_in (attribute_meaning a))

-- ---- marks taken off rows

-- the rows in the 48 bits below the refusal number, since a store may have more rows than a list
abbrev pub cleared_fields : Result ℕ Refusal → Fields
cleared_fields (Ok n) = fields (n % 65536) (n / 65536 % 65536) (n / 4294967296 % 65536) 0
cleared_fields (Err r) = fields 0 0 0 (number_of r)

-- ---- a route by an index

-- the words of a row in a store
abbrev pub row_words : ℕ
row_words = 6

-- in a store of so many places, 11 last: the bytes that the item takes, and whether it has a host bit
abbrev pub route_stored : Result Route Refusal → ℕ → Answer
route_stored (Ok a) places = pick (leb row_words places) (given (a.prefix.used ∷ flag a.host ∷ [])) (refusal no_room)
route_stored (Err r) places = refusal (number_of r)

abbrev pub route_words : Result Route Refusal → List ℕ
route_words (Ok a) = words a.prefix.row
route_words (Err r) = []

-- the store afterwards: the row from its front where it was put, and else as it was
abbrev pub route_after : Result Route Refusal → List ℕ → List ℕ
route_after a store = filled (route_stored a (length store)) (route_words a) store

-- ---- MP_REACH_NLRI

-- its rows, those that have a host bit, and the length of its next hop with the flag of the reserved byte
abbrev pub reach_fields : Result Reach Refusal → Fields
reach_fields a =
    fields (value_in 2 (reach_meaning a)) (value_in 3 (reach_meaning a)) (value_in 0 (reach_meaning a) + 256 * value_in 1 (reach_meaning a))
    (number_in (reach_meaning a))

-- ---- AGGREGATOR

-- the words of one in a store: its AS number and its identifier
abbrev pub aggregator_size : ℕ
aggregator_size = 2

abbrev pub aggregator_words : Answer → List ℕ
aggregator_words a = value_in 0 a ∷ value_in 1 a ∷ []

-- in a store of so many places, 11 last: how many words, and whether the width differs
abbrev pub aggregator_stored : Answer → ℕ → Answer
aggregator_stored (given values) places = pick (ltb places aggregator_size) (refusal no_room) (given (aggregator_size ∷ value_in 2 (given values) ∷ []))
aggregator_stored (refusal n) places = refusal n

-- ---- two AGGREGATORs

-- where the one that stands starts in itself, and its length, by the lengths of both; and which it is
abbrev pub standing_fields : Result Standing Refusal → ℕ → ℕ → Fields
standing_fields a first second =
    let part : Extent = handed (standing_meaning a) (extent 0 (owner_of a first second)) in
    fields part.start part.size (value_in 0 (standing_meaning a)) (number_in (standing_meaning a))

-- ---- slots

-- what stands at the front of the input: a record; too few bytes to tell, where more may come; no record; nothing, and no more will come
abbrev pub slot_record : ℕ
slot_record = 0

abbrev pub slot_more : ℕ
slot_more = 1

abbrev pub slot_stop : ℕ
slot_stop = 2

abbrev pub slot_end : ℕ
slot_end = 3

-- the kept bytes of a record and its settings byte, and what stands there; none of them is a refusal
abbrev pub slot_fields : SlotAnswer → Fields
slot_fields (Slot kept mode) = fields kept (settings_of mode) slot_record 0
slot_fields More = fields 0 0 slot_more 0
slot_fields Stop = fields 0 0 slot_stop 0
slot_fields End = fields 0 0 slot_end 0

-- ---- sizes that a caller needs: the items from one place of an index to the next, and the most places of an index; the words of a segment's pair;
-- the most bytes that a record keeps; the most rows of an UPDATE body, of both sections together

abbrev pub index_spacing : ℕ
index_spacing = 16

abbrev pub index_places : ℕ
index_places = 4096

abbrev pub pair_words : ℕ
pair_words = 2

abbrev pub kept_limit : ℕ
kept_limit = 65535

abbrev pub body_rows : ℕ
body_rows = 65512

-- ---- the version

abbrev pub version_major : ℕ
version_major = 2

abbrev pub version_minor : ℕ
version_minor = 1

abbrev pub version_fields : Fields
version_fields = fields version_major version_minor 0 0
