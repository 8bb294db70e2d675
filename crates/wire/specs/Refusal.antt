-- The refusal numbers of documents 01 and 02, by name, each with when it is given. src/refusal.rt has the same for code, and .ci/check-refusals holds
-- every other list of them to this one.
use Rattle.std.specs.Prelude.{ℕ, List, codes}
use Rattle.wire.specs.declared.refusal.Refusal.{Refusal}
use Rattle.wire.specs.declared.refusal.Refusal.TheVariants as R

-- a list, value or section, read or to write, is over 65,535 bytes; an UPDATE body, read or to write, is over 65,516
abbrev pub too_long : ℕ
too_long = 1

-- there are fewer bytes than the field needs
abbrev pub truncated : ℕ
truncated = 2

-- the message length is not allowed
abbrev pub message_length : ℕ
message_length = 3

-- the message type is not 1 to 5
abbrev pub message_type : ℕ
message_type = 4

-- never given (a message body is shorter than the measured length)
abbrev pub short_body : ℕ
short_body = 5

-- the marker is not all FF (strict)
abbrev pub bad_marker : ℕ
bad_marker = 6

-- a prefix length is over 32 (IPv4) or 128 (IPv6)
abbrev pub prefix_length : ℕ
prefix_length = 7

-- a whole section is one nonzero byte
abbrev pub one_byte_section : ℕ
one_byte_section = 8

-- a segment type is not 1 to 4
abbrev pub segment_type : ℕ
segment_type = 9

-- an AGGREGATOR is not 6 or 8 bytes; in a call on both, AGGREGATOR is neither empty nor 6 bytes, or AS4_AGGREGATOR neither empty nor 8
abbrev pub aggregator_length : ℕ
aggregator_length = 10

-- there are too few places in the store or output
abbrev pub no_room : ℕ
no_room = 11

-- a segment to write has over 255 numbers
abbrev pub long_segment : ℕ
long_segment = 12

-- an AS number to write in two bytes is over 65,535
abbrev pub wide_number : ℕ
wide_number = 13

-- a row or a path cannot be written; a store whose marks are taken off is not whole rows
abbrev pub not_writable : ℕ
not_writable = 14

-- an attribute section that is searched has a second MP_REACH_NLRI or a second MP_UNREACH_NLRI
abbrev pub repeated_mp_nlri : ℕ
repeated_mp_nlri = 15

-- a segment has no AS numbers (strict)
abbrev pub empty_segment : ℕ
empty_segment = 16

-- MP_REACH_NLRI or MP_UNREACH_NLRI is of another family pair than IPv6 unicast (2, 1)
abbrev pub other_family : ℕ
other_family = 17

-- a next hop, read or to write, is not 16 or 32 bytes
abbrev pub next_hop_length : ℕ
next_hop_length = 18

-- an index is not strictly rising from 0, or has a place at or past its list's end
abbrev pub not_an_index : ℕ
not_an_index = 19

-- an index lacks the start that a route's number needs, or the items run out before that route
abbrev pub no_such_route : ℕ
no_such_route = 20

-- ---- of each reason

abbrev pub number_of : Refusal → ℕ
number_of R.TooLong = too_long
number_of R.Truncated = truncated
number_of R.MessageLength = message_length
number_of R.MessageType = message_type
number_of R.ShortBody = short_body
number_of R.BadMarker = bad_marker
number_of R.PrefixLength = prefix_length
number_of R.OneByteSection = one_byte_section
number_of R.SegmentType = segment_type
number_of R.AggregatorLength = aggregator_length
number_of R.NoRoom = no_room
number_of R.LongSegment = long_segment
number_of R.WideNumber = wide_number
number_of R.NotWritable = not_writable
number_of R.RepeatedMpNlri = repeated_mp_nlri
number_of R.EmptySegment = empty_segment
number_of R.OtherFamily = other_family
number_of R.NextHopLength = next_hop_length
number_of R.NotAnIndex = not_an_index
number_of R.NoSuchRoute = no_such_route

-- ---- the limits behind number 1

-- the most bytes of a list, an attribute value or an attribute section
abbrev pub list_limit : ℕ
list_limit = 65535

-- the most bytes of an UPDATE body
abbrev pub body_limit : ℕ
body_limit = 65516

-- the words of a reason, as it prints
abbrev pub reason_text : Refusal → List ℕ
reason_text R.TooLong = codes "more bytes than the limit"
reason_text R.Truncated = codes "fewer bytes than the field needs"
reason_text R.MessageLength = codes "a message length that is not allowed"
reason_text R.MessageType = codes "a message type that is not 1 to 5"
reason_text R.ShortBody = codes "a body shorter than the measured length"
reason_text R.BadMarker = codes "a marker that is not all FF"
reason_text R.PrefixLength = codes "a prefix length over the family's most"
reason_text R.OneByteSection = codes "a section of one byte that is not 0"
reason_text R.SegmentType = codes "a segment type that is not 1 to 4"
reason_text R.AggregatorLength = codes "an AGGREGATOR of a length that it cannot have"
reason_text R.NoRoom = codes "too few places to put the answer"
reason_text R.LongSegment = codes "a segment of over 255 numbers"
reason_text R.WideNumber = codes "an AS number that two bytes do not hold"
reason_text R.NotWritable = codes "rows or a path that cannot be written"
reason_text R.RepeatedMpNlri = codes "a second MP_REACH_NLRI or MP_UNREACH_NLRI"
reason_text R.EmptySegment = codes "a segment of no AS numbers"
reason_text R.OtherFamily = codes "routes of another family than IPv6 unicast"
reason_text R.NextHopLength = codes "a next hop that is not 16 or 32 bytes"
reason_text R.NotAnIndex = codes "places that are no index of the list"
reason_text R.NoSuchRoute = codes "a route that is not there"
