-- Every number and every order of two checks that documents 01 and 02 fix, and the lister's case, as one table over the definitions with one claim: definition and code
-- cannot be changed to the same wrong number. A line holds what the definitions say of an input to what the documents say.
-- Assumes nothing.
use Rattle.std.specs.Prelude.{ℕ, ◌+◌, ◌-◌, ◌*◌, ◌≡◌, refl, List, [], ◌∷◌, ◌++◌, map, Bool, true, false, ◌&&◌, length, get_or, replicate, eqb, Some, None, Result, Ok, Err}
use Rattle.wire.specs.Answer.{Answer, given, refusal, number_in, value_in, count_meaning, limited}
use Rattle.wire.specs.Number.{be, be_at, to_be}
use Rattle.wire.specs.Refusal as refusals
use Rattle.wire.specs.Verdict.{fine}
use Rattle.wire.specs.declared.refusal.Refusal.{Refusal}
use Rattle.wire.specs.declared.refusal.Refusal.TheVariants as R
use Rattle.wire.specs.Walk.{read_all, walk, flat, tally, notes, starts}
use Rattle.families.specs.Family.{max_of, id_size, mark_of, guessed, guess_mark, octets, mode_of}
use Rattle.families.specs.Octets.{table_of, entry}
use Rattle.families.specs.declared.Afi.{Afi}
use Rattle.families.specs.declared.Afi.TheVariants.{Ipv4, Ipv6}
use Rattle.families.specs.declared.Form.{Form}
use Rattle.families.specs.declared.Form.TheVariants.{Plain, Tagged}
use Rattle.families.specs.declared.AddPath.{AddPath}
use Rattle.families.specs.declared.AddPath.TheVariants.{On, Off, Guess}
use Rattle.routes.specs.Prefix.{words, word_at, row_of, item_row, prefix_of, host_bits, route_of, route_meaning}
use Rattle.routes.specs.List.{up_to, in_form, guess_form, step_by, list_by, hosts_by, section_by, list_of, section_of}
use Rattle.routes.specs.Promises as routes
use Rattle.routes.specs.Promises.{with_hosts, count_list, count_section, read_list, routes_meaning}
use Rattle.route_bytes.specs.Encode.{four_words, row_bytes, all_zero, writable, front_row, write_step, writing, bytes_of}
use Rattle.route_bytes.specs.Promises.{measured}
use Rattle.route_marks.specs.Marks.{cleared_from}
use Rattle.route_marks.specs.Marks as marks
use Rattle.route_marks.specs.Promises.{clear_answer, clear_after}
use Rattle.route_index.specs.Index.{sixteenths, index_by, is_index, route_from, route_by}
use Rattle.route_index.specs.Promises.{count_index, build_index}
use Rattle.route_writer.specs.Promises as route_writer
use Rattle.asns.specs.Asn.{width_of, span}
use Rattle.asns.specs.Aggregator.{aggregator_meaning, aggregator_of, aggregator_bytes, aggregator_written}
use Rattle.asns.specs.declared.AsnLength.{AsnLength}
use Rattle.asns.specs.declared.AsnLength.TheVariants.{Bits16, Bits32}
use Rattle.paths.specs.Segment.{known_type, rule_of, type_fault, numbers_of, pair_of, asns_of, segment_at, segment_of, path_of}
use Rattle.paths.specs.Promises as paths
use Rattle.paths.specs.declared.PathRule.{PathRule}
use Rattle.paths.specs.declared.PathRule.TheVariants.{Crate, Strict}
use Rattle.paths.specs.Promises.{path_meaning}
use Rattle.path_writer.specs.Write.{most_numbers, segment_bytes, adds_up, all_fit, write_fault, lent_of, lent_path, path_bytes}
use Rattle.path_writer.specs.Promises as path_writer
use Rattle.mp_nlri.specs.Value.{is_hop_size, pair_fault, head_of, reach_head, reach_bytes, unreach_bytes}
use Rattle.mp_nlri.specs.Read.{reach_meaning, count_reach, read_reach, count_unreach, read_unreach}
use Rattle.mp_nlri.specs.Write.{route_bytes, write_reach, write_unreach}
use Rattle.as4.specs.Standing as as4
use Rattle.as4.specs.Standing.{as_trans, size_fault, ignored, standing_meaning}
use Rattle.as4.specs.Merge as Merge
use Rattle.as4.specs.Promises.{fault_of, both_of, built_of, merge_answer}
use Rattle.messages.specs.Header.{kind_named, kind_read, marker_size, header_size, message_limit, extended_limit, least_length, most_length, crate_limit, is_outside, is_unknown, all_ff, message_meaning, message_of, limit_of, strict_within, strict_of}
use Rattle.messages.specs.Written as message_writer
use Rattle.attributes.specs.Attribute.{is_extended, length_size, head_size, attribute_front, attribute_of}
use Rattle.attributes.specs.Attribute as attribute
use Rattle.attributes.specs.Promises.{attribute_meaning, standing, attribute_at, first_of, count_of, verdict_of, judged, find_answer}
use Rattle.updates.specs.Body.{parts_meaning, parts_of, withdrawn_of, announced_of}
use Rattle.updates.specs.Update.{update_of, count_update}
use Rattle.update_writer.specs.Body.{body_sized, body_answer}
use Rattle.slots.specs.Slot.{mark_first, mark_second, record_size, settings_limit, found, slot_of}
use Rattle.slots.specs.declared.SlotAnswer.TheVariants.{Slot, More, Stop, End}
use Rattle.slot_table.specs.Line.{digits, fields_text, section_text, entry_of, entry_text, line_of, stop_text, heading_text}
use Rattle.slot_table.specs.Table.{lines_of, ending_text}
use Rattle.slot_table.specs.declared.Ending.TheVariants as Ending
use Rattle.words.specs.Word.{fields, in_fields, word_of}
use Rattle.firmware.specs.Fields.{message_fields, update_fields, host_fields, reach_fields, cleared_fields, slot_fields, attribute_fields, version_fields, aggregator_size, row_words, index_spacing, index_places, pair_words, kept_limit, body_rows}
use Rattle.messages.specs.declared.Edition.{Edition}
use Rattle.messages.specs.declared.Edition.TheVariants.{Rfc4271, Rfc8654}
use Rattle.messages.specs.declared.Message.{Message}
use Rattle.words.specs.Settings.{family_of, form_of, asn_length_of, edition_of, edition_number, settings_of}

-- ---- a table of numbers

-- what the definitions say, and what the documents say
pub record Line : Type 0 where
  pub found : ℕ
  pub fixed : ℕ

abbrev pub line : ℕ → ℕ → Line
line found fixed = record { found = found; fixed = fixed }

-- the two are equal in every line
unfoldable pub agree : List Line → Bool
agree [] = true
agree (l ∷ ls) = eqb l.found l.fixed && agree ls

-- so many zero bytes
unfoldable pub zeros : ℕ → List ℕ
zeros n = replicate n 0

-- ---- "Refusal numbers"

abbrev pub refusal_numbers : List Line
refusal_numbers =
    line refusals.too_long 1
    ∷ line refusals.truncated 2
    ∷ line refusals.message_length 3
    ∷ line refusals.message_type 4
    ∷ line refusals.short_body 5
    ∷ line refusals.bad_marker 6
    ∷ line refusals.prefix_length 7
    ∷ line refusals.one_byte_section 8
    ∷ line refusals.segment_type 9
    ∷ line refusals.aggregator_length 10
    ∷ line refusals.no_room 11
    ∷ line refusals.long_segment 12
    ∷ line refusals.wide_number 13
    ∷ line refusals.not_writable 14
    ∷ line refusals.repeated_mp_nlri 15
    ∷ line refusals.empty_segment 16
    ∷ line refusals.other_family 17
    ∷ line refusals.next_hop_length 18
    ∷ line refusals.not_an_index 19
    ∷ line refusals.no_such_route 20
    -- and of each reason
    ∷ line (refusals.number_of R.TooLong) 1
    ∷ line (refusals.number_of R.Truncated) 2
    ∷ line (refusals.number_of R.MessageLength) 3
    ∷ line (refusals.number_of R.MessageType) 4
    ∷ line (refusals.number_of R.ShortBody) 5
    ∷ line (refusals.number_of R.BadMarker) 6
    ∷ line (refusals.number_of R.PrefixLength) 7
    ∷ line (refusals.number_of R.OneByteSection) 8
    ∷ line (refusals.number_of R.SegmentType) 9
    ∷ line (refusals.number_of R.AggregatorLength) 10
    ∷ line (refusals.number_of R.NoRoom) 11
    ∷ line (refusals.number_of R.LongSegment) 12
    ∷ line (refusals.number_of R.WideNumber) 13
    ∷ line (refusals.number_of R.NotWritable) 14
    ∷ line (refusals.number_of R.RepeatedMpNlri) 15
    ∷ line (refusals.number_of R.EmptySegment) 16
    ∷ line (refusals.number_of R.OtherFamily) 17
    ∷ line (refusals.number_of R.NextHopLength) 18
    ∷ line (refusals.number_of R.NotAnIndex) 19
    ∷ line (refusals.number_of R.NoSuchRoute) 20
    ∷ line refusals.list_limit 65535
    ∷ line refusals.body_limit 65516
    ∷ []

-- ---- "The message header"

-- a header whose marker starts with a byte, and which has a type and claims a length, with zeros after it up to so many bytes given
abbrev pub header : ℕ → ℕ → ℕ → ℕ → List ℕ
header first kind claimed size = first ∷ (replicate 15 255 ++ (to_be 2 claimed ++ (kind ∷ zeros (size - 19))))

-- the refusal number of the crate's reading of a header of an all-FF marker; of the strict one by an edition, whatever its marker starts with; and by
-- RFC 4271 of one of an all-FF marker and of another
abbrev pub by_crate : ℕ → ℕ → ℕ → ℕ
by_crate kind claimed size = number_in (message_meaning (message_of (header 255 kind claimed size)))

abbrev pub by_edition : Edition → ℕ → ℕ → ℕ → ℕ → ℕ
by_edition edition first kind claimed size = number_in (message_meaning (strict_of edition (header first kind claimed size)))

abbrev pub by_strict : ℕ → ℕ → ℕ → ℕ
by_strict = by_edition Rfc4271 255

abbrev pub unmarked : ℕ → ℕ → ℕ → ℕ
unmarked = by_edition Rfc4271 254

-- of writing a type and a body of so many bytes
abbrev pub written : ℕ → ℕ → ℕ → ℕ
written kind size places = number_in (count_meaning (message_writer.write_message kind (zeros size) places))

abbrev pub headers : List Line
headers =
    -- sixteen marker bytes, nineteen in all; the lengths of both editions
    line marker_size 16
    ∷ line header_size 19
    ∷ line message_limit 4096
    ∷ line extended_limit 65535
    -- under 19 bytes given, 2, before the marker, the length and the type
    ∷ line (number_in (message_meaning (message_of (zeros 18)))) 2
    ∷ line (number_in (message_meaning (strict_of Rfc4271 (zeros 18)))) 2
    -- the crate: claimed under 19, 3, before the type; the type, 4, before its limit; OPEN and KEEPALIVE claiming over 4,096, 3
    ∷ line (by_crate 9 18 19) 3
    ∷ line (by_crate 2 18 19) 3
    ∷ line (by_crate 2 19 19) 0
    ∷ line (by_crate 0 65535 19) 4
    ∷ line (by_crate 6 65535 19) 4
    ∷ line (by_crate 1 4095 19) 0
    ∷ line (by_crate 1 4096 19) 0
    ∷ line (by_crate 1 4097 19) 3
    ∷ line (by_crate 4 4095 19) 0
    ∷ line (by_crate 4 4096 19) 0
    ∷ line (by_crate 4 4097 19) 3
    ∷ line (by_crate 2 65535 19) 0
    ∷ line (by_crate 3 65535 19) 0
    ∷ line (by_crate 5 65535 19) 0
    -- the strict reading of RFC 4271: the marker, 6, before the length; 3 before the type; 4 before the type's own length; that before what is there, 2
    ∷ line (unmarked 9 18 19) 6
    ∷ line (unmarked 1 19 19) 6
    ∷ line (by_strict 9 18 19) 3
    ∷ line (by_strict 9 4097 19) 3
    ∷ line (by_strict 0 28 19) 4
    ∷ line (by_strict 6 4096 19) 4
    ∷ line (by_strict 1 28 19) 3
    ∷ line (by_strict 1 29 19) 2
    ∷ line (by_strict 1 29 28) 2
    ∷ line (by_strict 1 29 29) 0
    ∷ line (by_strict 1 30 30) 0
    ∷ line (by_strict 1 4095 19) 2
    ∷ line (by_strict 1 4096 19) 2
    ∷ line (by_strict 1 4096 4096) 0
    ∷ line (by_strict 1 4097 4097) 3
    ∷ line (by_strict 2 22 19) 3
    ∷ line (by_strict 2 23 19) 2
    ∷ line (by_strict 2 23 22) 2
    ∷ line (by_strict 2 23 23) 0
    ∷ line (by_strict 2 24 24) 0
    ∷ line (by_strict 2 4095 19) 2
    ∷ line (by_strict 2 4096 19) 2
    ∷ line (by_strict 2 4096 4096) 0
    ∷ line (by_strict 2 4097 4097) 3
    ∷ line (by_strict 3 20 19) 3
    ∷ line (by_strict 3 21 19) 2
    ∷ line (by_strict 3 21 20) 2
    ∷ line (by_strict 3 21 21) 0
    ∷ line (by_strict 3 22 22) 0
    ∷ line (by_strict 3 4095 19) 2
    ∷ line (by_strict 3 4096 19) 2
    ∷ line (by_strict 3 4096 4096) 0
    ∷ line (by_strict 3 4097 4097) 3
    ∷ line (by_strict 5 22 19) 3
    ∷ line (by_strict 5 23 19) 2
    ∷ line (by_strict 5 23 22) 2
    ∷ line (by_strict 5 23 23) 0
    ∷ line (by_strict 5 24 24) 0
    ∷ line (by_strict 5 4095 19) 2
    ∷ line (by_strict 5 4096 19) 2
    ∷ line (by_strict 5 4096 4096) 0
    ∷ line (by_strict 5 4097 4097) 3
    ∷ line (by_strict 4 18 19) 3
    ∷ line (by_strict 4 19 19) 0
    ∷ line (by_strict 4 20 19) 3
    ∷ line (by_strict 4 20 20) 3
    ∷ line (by_strict 4 4096 19) 3
    -- the writer: 4, then 3, then 11
    ∷ line (written 0 65517 0) 4
    ∷ line (written 6 65517 0) 4
    ∷ line (written 1 9 0) 3
    ∷ line (written 1 10 28) 11
    ∷ line (written 1 10 29) 0
    ∷ line (written 1 11 30) 0
    ∷ line (written 2 3 0) 3
    ∷ line (written 2 4 22) 11
    ∷ line (written 2 4 23) 0
    ∷ line (written 2 5 24) 0
    ∷ line (written 3 1 0) 3
    ∷ line (written 3 2 20) 11
    ∷ line (written 3 2 21) 0
    ∷ line (written 3 3 22) 0
    ∷ line (written 5 3 0) 3
    ∷ line (written 5 4 22) 11
    ∷ line (written 5 4 23) 0
    ∷ line (written 5 5 24) 0
    ∷ line (written 4 0 18) 11
    ∷ line (written 4 0 19) 0
    ∷ line (written 4 1 0) 3
    ∷ line (written 1 4076 4095) 0
    ∷ line (written 1 4077 4096) 0
    ∷ line (written 1 4078 70000) 3
    ∷ line (written 1 4078 0) 3
    ∷ line (written 2 65515 65534) 0
    ∷ line (written 2 65516 65535) 0
    ∷ line (written 2 65517 70000) 3
    ∷ line (written 2 65517 0) 3
    ∷ line (written 3 65515 65534) 0
    ∷ line (written 3 65516 65535) 0
    ∷ line (written 3 65517 70000) 3
    ∷ line (written 3 65517 0) 3
    ∷ line (written 5 65515 65534) 0
    ∷ line (written 5 65516 65535) 0
    ∷ line (written 5 65517 70000) 3
    ∷ line (written 5 65517 0) 3
    ∷ []

-- ---- "The UPDATE body"

-- the refusal number of a body, and of writing rows to withdraw, so many attribute bytes and no rows to announce
abbrev pub body : List ℕ → ℕ
body b = number_in (parts_meaning (parts_of b))

abbrev pub body_written : List ℕ → ℕ → List ℕ → ℕ → ℕ
body_written withdrawn attributes announced places = number_in (count_meaning (body_answer withdrawn (zeros attributes) announced Plain places))

abbrev pub bodies : List Line
bodies =
    -- over 65,516, 1, first
    line (body (zeros 65515)) 0
    ∷ line (body (zeros 65516)) 0
    ∷ line (body (zeros 65517)) 1
    ∷ line (body (255 ∷ 255 ∷ zeros 65514)) 2
    ∷ line (body (255 ∷ 255 ∷ zeros 65515)) 1
    -- each length and each section is all there
    ∷ line (body (0 ∷ [])) 2
    ∷ line (body (0 ∷ 1 ∷ [])) 2
    ∷ line (body (0 ∷ 1 ∷ 0 ∷ 0 ∷ [])) 2
    ∷ line (body (0 ∷ 0 ∷ 0 ∷ [])) 2
    ∷ line (body (0 ∷ 0 ∷ 0 ∷ 1 ∷ [])) 2
    ∷ line (body (0 ∷ 0 ∷ 0 ∷ 0 ∷ [])) 0
    -- the writer: 14 in either list, then 1, then 11
    ∷ line (body_written (0 ∷ []) 65513 [] 0) 14
    ∷ line (body_written [] 65513 (0 ∷ []) 0) 14
    ∷ line (body_written [] 65513 [] 0) 1
    ∷ line (body_written [] 65513 [] 70000) 1
    ∷ line (body_written [] 65512 [] 70000) 0
    ∷ line (body_written [] 65511 [] 70000) 0
    ∷ line (body_written [] 65512 [] 65515) 11
    ∷ line (body_written [] 65512 [] 65516) 0
    ∷ line (body_written [] 0 [] 3) 11
    ∷ line (body_written [] 0 [] 4) 0
    ∷ []

-- ---- "One route, and a list of them"

-- the refusal number of one route, of a list and of a section, and of a list into a store of so many places
abbrev pub route : Afi → Form → List ℕ → ℕ
route family form s = number_in (route_meaning (route_of s (max_of family) form))

abbrev pub list : AddPath → List ℕ → ℕ
list setting s = number_in (count_meaning (routes.count_answer s (list_of s (max_of Ipv4) setting)))

abbrev pub section : AddPath → List ℕ → ℕ
section setting s = number_in (count_meaning (routes.count_answer s (section_of s (max_of Ipv4) setting)))

abbrev pub list_into : List ℕ → ℕ → ℕ
list_into s places = number_in (count_meaning (routes.read_answer s (list_of s (max_of Ipv4) Off) places))

-- of writing rows in a form into so many places
abbrev pub list_written : Form → List ℕ → ℕ → ℕ
list_written form rows places = number_in (count_meaning (route_writer.write_answer rows (max_of Ipv4) form places))

abbrev pub lists : List Line
lists =
    -- the longest prefix, the bytes of an id, what an id adds to the first word, whole octets
    line (max_of Ipv4) 32
    ∷ line (max_of Ipv6) 128
    ∷ line (id_size Plain) 0
    ∷ line (id_size Tagged) 4
    ∷ line (mark_of Plain) 0
    ∷ line (mark_of Tagged) 256
    ∷ line (octets 0) 0
    ∷ line (octets 1) 1
    ∷ line (octets 8) 1
    ∷ line (octets 9) 2
    ∷ line (octets 32) 4
    ∷ line (octets 128) 16
    -- id there, 2; length byte there, 2; length against the maximum, 7; octets there, 2; nothing is 2
    ∷ line (route Ipv4 Plain []) 2
    ∷ line (route Ipv4 Tagged (0 ∷ 0 ∷ 0 ∷ [])) 2
    ∷ line (route Ipv4 Tagged (0 ∷ 0 ∷ 0 ∷ 7 ∷ [])) 2
    ∷ line (route Ipv4 Plain (33 ∷ [])) 7
    ∷ line (route Ipv4 Tagged (0 ∷ 0 ∷ 0 ∷ 7 ∷ 33 ∷ [])) 7
    ∷ line (route Ipv4 Plain (32 ∷ [])) 2
    ∷ line (route Ipv4 Plain (32 ∷ 10 ∷ 0 ∷ 0 ∷ [])) 2
    ∷ line (route Ipv4 Plain (32 ∷ 10 ∷ 0 ∷ 0 ∷ 1 ∷ [])) 0
    ∷ line (route Ipv6 Plain (129 ∷ [])) 7
    ∷ line (route Ipv6 Plain (128 ∷ zeros 15)) 2
    ∷ line (route Ipv6 Plain (128 ∷ zeros 16)) 0
    -- a single route is never 1, and a list is, over 65,535 bytes, before its items
    ∷ line (route Ipv4 Plain (zeros 65536)) 0
    ∷ line (list Off (33 ∷ zeros 65533)) 7
    ∷ line (list Off (33 ∷ zeros 65534)) 7
    ∷ line (list Off (33 ∷ zeros 65535)) 1
    ∷ line (section Off (33 ∷ zeros 65534)) 7
    ∷ line (section Off (33 ∷ zeros 65535)) 1
    -- a section of one nonzero byte is 8, before any item; a list is not
    ∷ line (section Off (33 ∷ [])) 8
    ∷ line (section On (33 ∷ [])) 8
    ∷ line (list Off (33 ∷ [])) 7
    ∷ line (list On (33 ∷ [])) 2
    ∷ line (section Off (0 ∷ [])) 0
    ∷ line (section Off (33 ∷ 0 ∷ [])) 7
    -- all items, then 11; six places to a row, rounded down
    ∷ line (list_into (33 ∷ []) 0) 7
    ∷ line (list_into (0 ∷ []) 5) 11
    ∷ line (list_into (0 ∷ []) 6) 0
    ∷ line (list_into (0 ∷ 0 ∷ []) 11) 11
    ∷ line (list_into (0 ∷ 0 ∷ []) 12) 0
    ∷ line (list_into [] 0) 0
    -- rows to write: whole rows, a length in range, the mark exactly if Add-Path is on, no id is 0, nothing past the octets; 14, then 11
    ∷ line (list_written Plain (32 ∷ 0 ∷ 1 ∷ 0 ∷ 0 ∷ []) 0) 14
    ∷ line (list_written Plain (33 ∷ 0 ∷ 0 ∷ 0 ∷ 0 ∷ 0 ∷ []) 0) 14
    ∷ line (list_written Plain (288 ∷ 0 ∷ 0 ∷ 0 ∷ 0 ∷ 0 ∷ []) 0) 14
    ∷ line (list_written Tagged (32 ∷ 0 ∷ 0 ∷ 0 ∷ 0 ∷ 0 ∷ []) 0) 14
    ∷ line (list_written Plain (32 ∷ 1 ∷ 0 ∷ 0 ∷ 0 ∷ 0 ∷ []) 0) 14
    ∷ line (list_written Plain (8 ∷ 0 ∷ 1 ∷ 0 ∷ 0 ∷ 0 ∷ []) 0) 14
    ∷ line (list_written Plain (32 ∷ 0 ∷ 1 ∷ 1 ∷ 0 ∷ 0 ∷ []) 0) 14
    ∷ line (list_written Plain (32 ∷ 0 ∷ 1 ∷ 0 ∷ 0 ∷ 0 ∷ []) 4) 11
    ∷ line (list_written Plain (32 ∷ 0 ∷ 1 ∷ 0 ∷ 0 ∷ 0 ∷ []) 5) 0
    ∷ line (list_written Tagged (288 ∷ 7 ∷ 1 ∷ 0 ∷ 0 ∷ 0 ∷ []) 8) 11
    ∷ line (list_written Tagged (288 ∷ 7 ∷ 1 ∷ 0 ∷ 0 ∷ 0 ∷ []) 9) 0
    ∷ []

-- ---- "AS_PATH and AGGREGATOR"

abbrev pub path : AsnLength → List ℕ → ℕ
path width s = number_in (path_meaning (paths.count_answer s (path_of known_type (width_of width) s)))

abbrev pub path_into : List ℕ → ℕ → ℕ → ℕ
path_into s pairs numbers = number_in (path_meaning (paths.read_answer s (path_of known_type 2 s) pairs numbers))

abbrev pub path_written : AsnLength → List ℕ → List ℕ → ℕ → ℕ
path_written width pairs numbers places = number_in (count_meaning (path_writer.encode_answer known_type (width_of width) pairs numbers places))

abbrev pub aggregator : List ℕ → ℕ
aggregator value = number_in (aggregator_meaning (aggregator_of value Bits16))

abbrev pub aggregator_into : AsnLength → ℕ → ℕ → ℕ
aggregator_into width asn places = number_in (count_meaning (aggregator_written asn 0 width places))

abbrev pub paths_and_aggregators : List Line
paths_and_aggregators =
    -- types 1 to 4; two bytes or four
    line (path Bits16 (0 ∷ 0 ∷ [])) 9
    ∷ line (path Bits16 (1 ∷ 0 ∷ [])) 0
    ∷ line (path Bits16 (2 ∷ 0 ∷ [])) 0
    ∷ line (path Bits16 (3 ∷ 0 ∷ [])) 0
    ∷ line (path Bits16 (4 ∷ 0 ∷ [])) 0
    ∷ line (path Bits16 (5 ∷ 0 ∷ [])) 9
    ∷ line (path Bits16 (2 ∷ 1 ∷ 0 ∷ 0 ∷ [])) 0
    ∷ line (path Bits32 (2 ∷ 1 ∷ 0 ∷ 0 ∷ 0 ∷ [])) 2
    ∷ line (path Bits32 (2 ∷ 1 ∷ 0 ∷ 0 ∷ 0 ∷ 0 ∷ [])) 0
    -- count there, 2; numbers there, 2; type, 9
    ∷ line (path Bits16 (5 ∷ [])) 2
    ∷ line (path Bits16 (5 ∷ 1 ∷ [])) 2
    ∷ line (path Bits16 (5 ∷ 1 ∷ 0 ∷ [])) 2
    ∷ line (path Bits16 (5 ∷ 1 ∷ 0 ∷ 0 ∷ [])) 9
    -- over 65,535 bytes, 1, first
    ∷ line (path Bits16 (5 ∷ zeros 65533)) 9
    ∷ line (path Bits16 (5 ∷ zeros 65534)) 9
    ∷ line (path Bits16 (5 ∷ zeros 65535)) 1
    -- 11 last, of either store
    ∷ line (path_into (5 ∷ 0 ∷ []) 0 0) 9
    ∷ line (path_into (2 ∷ 0 ∷ []) 1 0) 11
    ∷ line (path_into (2 ∷ 0 ∷ []) 2 0) 0
    ∷ line (path_into (2 ∷ 1 ∷ 0 ∷ 7 ∷ []) 1 1) 11
    ∷ line (path_into (2 ∷ 1 ∷ 0 ∷ 7 ∷ []) 2 0) 11
    ∷ line (path_into (2 ∷ 1 ∷ 0 ∷ 7 ∷ []) 2 1) 0
    -- to write: 14 first; then by segment 9, 12, 13; then 1; then 11
    ∷ line most_numbers 255
    ∷ line (path_written Bits16 (9 ∷ []) [] 0) 14
    ∷ line (path_written Bits16 (9 ∷ 1 ∷ []) [] 0) 14
    ∷ line (path_written Bits16 (9 ∷ 0 ∷ []) (7 ∷ []) 0) 14
    ∷ line (path_written Bits16 (9 ∷ 256 ∷ []) (replicate 256 65536) 0) 9
    ∷ line (path_written Bits16 (2 ∷ 256 ∷ []) (replicate 256 65536) 0) 12
    ∷ line (path_written Bits16 (2 ∷ 255 ∷ []) (replicate 255 65536) 0) 13
    ∷ line (path_written Bits16 (2 ∷ 1 ∷ 9 ∷ 0 ∷ []) (65536 ∷ []) 0) 13
    ∷ line (path_written Bits16 (zeros 65536) [] 0) 9
    ∷ line (path_written Bits16 (2 ∷ 1 ∷ []) (65535 ∷ []) 3) 11
    ∷ line (path_written Bits16 (2 ∷ 1 ∷ []) (65535 ∷ []) 4) 0
    ∷ line (path_written Bits32 (2 ∷ 1 ∷ []) (65536 ∷ []) 5) 11
    ∷ line (path_written Bits32 (2 ∷ 1 ∷ []) (65536 ∷ []) 6) 0
    ∷ line (path_written Bits16 (2 ∷ 255 ∷ []) (zeros 255) 512) 0
    ∷ line (path_written Bits32 (2 ∷ 255 ∷ []) (zeros 255) 1022) 0
    -- AGGREGATOR: 6 bytes or 8, else 10 up to 65,535 bytes, and 1 over them; to write 13, then 11
    ∷ line (aggregator (zeros 5)) 10
    ∷ line (aggregator (zeros 6)) 0
    ∷ line (aggregator (zeros 7)) 10
    ∷ line (aggregator (zeros 8)) 0
    ∷ line (aggregator (zeros 9)) 10
    ∷ line (aggregator (zeros 65534)) 10
    ∷ line (aggregator (zeros 65535)) 10
    ∷ line (aggregator (zeros 65536)) 1
    ∷ line (aggregator_into Bits16 65536 0) 13
    ∷ line (aggregator_into Bits16 65535 5) 11
    ∷ line (aggregator_into Bits16 65535 6) 0
    ∷ line (aggregator_into Bits32 65536 7) 11
    ∷ line (aggregator_into Bits32 65536 8) 0
    ∷ []

-- ---- document 02, K1: "Open the attribute section"

-- what the attribute at a place is told as: whether there is one, flags, type, where its value starts, its length, the next place
abbrev pub told : ℕ → List ℕ → ℕ → ℕ
told i s place = value_in i (attribute_meaning (attribute_at s place))

abbrev pub refused_at : List ℕ → ℕ → ℕ
refused_at s place = number_in (attribute_meaning (attribute_at s place))

-- where the value of the first of a type starts, 0 where there is none
abbrev pub found_from : ℕ → List ℕ → ℕ
found_from kind s = value_in 3 (attribute_meaning (find_answer s kind))

abbrev pub search_refused : ℕ → List ℕ → ℕ
search_refused kind s = number_in (attribute_meaning (find_answer s kind))

-- an ORIGIN of one byte and an AS_PATH of two, whose length has two bytes
abbrev pub origin_and_path : List ℕ
origin_and_path = 0x40 ∷ 0x01 ∷ 0x01 ∷ 0x00 ∷ 0x50 ∷ 0x02 ∷ 0x00 ∷ 0x02 ∷ 0xAA ∷ 0xBB ∷ []

-- an empty MP_REACH_NLRI and an empty MP_UNREACH_NLRI
abbrev pub reach : List ℕ
reach = 0x80 ∷ 0x0E ∷ 0x00 ∷ []

abbrev pub unreach : List ℕ
unreach = 0x80 ∷ 0x0F ∷ 0x00 ∷ []

abbrev pub attributes : List Line
attributes =
    line attribute.as_path 2
    ∷ line attribute.aggregator 7
    ∷ line attribute.as4_path 17
    ∷ line attribute.as4_aggregator 18
    ∷ line attribute.mp_reach_nlri 14
    ∷ line attribute.mp_unreach_nlri 15
    -- the walker: the attribute at a place, and none at the end and past it
    ∷ line (told 0 origin_and_path 0) 1
    ∷ line (told 1 origin_and_path 0) 0x40
    ∷ line (told 2 origin_and_path 0) 1
    ∷ line (told 3 origin_and_path 0) 3
    ∷ line (told 4 origin_and_path 0) 1
    ∷ line (told 5 origin_and_path 0) 4
    ∷ line (told 1 origin_and_path 4) 0x50
    ∷ line (told 2 origin_and_path 4) 2
    ∷ line (told 3 origin_and_path 4) 8
    ∷ line (told 4 origin_and_path 4) 2
    ∷ line (told 5 origin_and_path 4) 10
    ∷ line (told 0 origin_and_path 10) 0
    ∷ line (refused_at origin_and_path 10) 0
    ∷ line (told 0 origin_and_path 11) 0
    ∷ line (refused_at origin_and_path 11) 0
    ∷ line (told 5 [] 0) 0
    ∷ line (refused_at [] 0) 0
    -- two length bytes exactly where 0x10 is set
    ∷ line (told 3 (0xEF ∷ 0x01 ∷ 0x01 ∷ 0x00 ∷ []) 0) 3
    ∷ line (told 3 (0x10 ∷ 0x01 ∷ 0x00 ∷ 0x00 ∷ []) 0) 4
    ∷ line (told 4 (0x10 ∷ 0x01 ∷ (0x01 ∷ 0x00 ∷ zeros 256)) 0) 256
    -- 2 where the head or the value is cut
    ∷ line (refused_at (0x40 ∷ []) 0) 2
    ∷ line (refused_at (0x40 ∷ 0x01 ∷ []) 0) 2
    ∷ line (refused_at (0x40 ∷ 0x01 ∷ 0x01 ∷ []) 0) 2
    ∷ line (refused_at (0x40 ∷ 0x01 ∷ 0x00 ∷ []) 0) 0
    ∷ line (refused_at (0x50 ∷ 0x01 ∷ 0x00 ∷ []) 0) 2
    ∷ line (refused_at (0x50 ∷ 0x01 ∷ 0x00 ∷ 0x00 ∷ []) 0) 0
    -- 1 of the whole section, before 2 and before none left
    ∷ line (refused_at (zeros 65535) 65533) 2
    ∷ line (refused_at (zeros 65536) 65534) 1
    ∷ line (refused_at (zeros 65536) 65536) 1
    -- repeats are listed: 15 is the search's alone
    ∷ line (told 5 (reach ++ reach) 3) 6
    -- the search: the first of a type, or absent; a second ORIGIN is passed over
    ∷ line (found_from 1 origin_and_path) 3
    ∷ line (found_from 2 origin_and_path) 8
    ∷ line (found_from 3 origin_and_path) 0
    ∷ line (search_refused 3 origin_and_path) 0
    ∷ line (found_from 1 (origin_and_path ++ origin_and_path)) 3
    ∷ line (found_from 2 (reach ++ (origin_and_path ++ origin_and_path))) 11
    ∷ line (search_refused 1 []) 0
    -- 15 for a second of either, whatever type is searched; one of each is none
    ∷ line (search_refused 1 (reach ++ unreach)) 0
    ∷ line (found_from 15 (reach ++ unreach)) 6
    ∷ line (search_refused 1 (reach ++ reach)) 15
    ∷ line (search_refused 14 (reach ++ reach)) 15
    ∷ line (search_refused 15 (unreach ++ (reach ++ unreach))) 15
    -- in byte order: a second one that is all there before a cut attribute; one that is cut is 2
    ∷ line (search_refused 14 (reach ++ (reach ++ (0x40 ∷ [])))) 15
    ∷ line (search_refused 14 (reach ++ (0x80 ∷ 0x0E ∷ 0x01 ∷ []))) 2
    ∷ line (search_refused 14 (reach ++ (unreach ++ (0x40 ∷ [])))) 2
    -- 1 before both
    ∷ line (search_refused 14 (reach ++ (reach ++ zeros 65530))) 1
    ∷ line (search_refused 1 (0x50 ∷ 0x01 ∷ 0xFF ∷ 0xFB ∷ zeros 65531)) 0
    ∷ []

-- ---- document 02, K2: "An empty segment is not a path", in place of document 01's sentence that the strict path reading is the crate's

abbrev pub strict_path : AsnLength → List ℕ → ℕ
strict_path width s = number_in (path_meaning (paths.count_answer s (path_of (rule_of Strict) (width_of width) s)))

abbrev pub strict_path_into : List ℕ → ℕ → ℕ → ℕ
strict_path_into s pairs numbers = number_in (path_meaning (paths.read_answer s (path_of (rule_of Strict) 2 s) pairs numbers))

abbrev pub strict_written : List ℕ → List ℕ → ℕ → ℕ
strict_written pairs numbers places = number_in (count_meaning (path_writer.encode_answer (rule_of Strict) 2 pairs numbers places))

-- and by the crate's rule, as a call has it
abbrev pub crate_path : List ℕ → ℕ
crate_path s = number_in (path_meaning (paths.count_answer s (path_of (rule_of Crate) 2 s)))

abbrev pub crate_written : List ℕ → List ℕ → ℕ → ℕ
crate_written pairs numbers places = number_in (count_meaning (path_writer.encode_answer (rule_of Crate) 2 pairs numbers places))

abbrev pub empty_segments : List Line
empty_segments =
    -- a count of 0, whatever the type; the crate's rule keeps it
    line (strict_path Bits16 (1 ∷ 0 ∷ [])) 16
    ∷ line (strict_path Bits16 (2 ∷ 0 ∷ [])) 16
    ∷ line (strict_path Bits16 (3 ∷ 0 ∷ [])) 16
    ∷ line (strict_path Bits16 (4 ∷ 0 ∷ [])) 16
    ∷ line (strict_path Bits32 (2 ∷ 0 ∷ [])) 16
    ∷ line (strict_path Bits16 (2 ∷ 1 ∷ 0 ∷ 7 ∷ [])) 0
    ∷ line (strict_path Bits32 (2 ∷ 1 ∷ 0 ∷ 0 ∷ 0 ∷ 7 ∷ [])) 0
    ∷ line (strict_path Bits16 []) 0
    ∷ line (crate_path (2 ∷ 0 ∷ [])) 0
    ∷ line (crate_path (5 ∷ 0 ∷ [])) 9
    -- in one segment 2, 2, 9, then 16
    ∷ line (strict_path Bits16 (2 ∷ [])) 2
    ∷ line (strict_path Bits16 (2 ∷ 1 ∷ 0 ∷ [])) 2
    ∷ line (strict_path Bits16 (0 ∷ 0 ∷ [])) 9
    ∷ line (strict_path Bits16 (5 ∷ 0 ∷ [])) 9
    -- segment by segment, in byte order
    ∷ line (strict_path Bits16 (2 ∷ 1 ∷ 0 ∷ 7 ∷ 2 ∷ 0 ∷ [])) 16
    ∷ line (strict_path Bits16 (2 ∷ 0 ∷ 2 ∷ [])) 16
    ∷ line (strict_path Bits16 (2 ∷ 0 ∷ 5 ∷ 0 ∷ [])) 16
    ∷ line (strict_path Bits16 (5 ∷ 0 ∷ 2 ∷ 0 ∷ [])) 9
    -- 1 before it, 11 after it
    ∷ line (strict_path Bits16 (2 ∷ zeros 65534)) 16
    ∷ line (strict_path Bits16 (2 ∷ zeros 65535)) 1
    ∷ line (strict_path_into (2 ∷ 0 ∷ []) 0 0) 16
    ∷ line (strict_path_into (2 ∷ 1 ∷ 0 ∷ 7 ∷ []) 1 1) 11
    ∷ line (strict_path_into (2 ∷ 1 ∷ 0 ∷ 7 ∷ []) 2 0) 11
    ∷ line (strict_path_into (2 ∷ 1 ∷ 0 ∷ 7 ∷ []) 2 1) 0
    -- to write: 14 first; then by segment 9, 16, 12, 13; then 1; then 11
    ∷ line (strict_written (2 ∷ 0 ∷ []) [] 2) 16
    ∷ line (crate_written (2 ∷ 0 ∷ []) [] 2) 0
    ∷ line (strict_written (2 ∷ 0 ∷ []) (7 ∷ []) 0) 14
    ∷ line (strict_written (2 ∷ 0 ∷ 2 ∷ []) [] 0) 14
    ∷ line (strict_written (9 ∷ 0 ∷ []) [] 0) 9
    ∷ line (strict_written (9 ∷ 1 ∷ 2 ∷ 0 ∷ []) (7 ∷ []) 0) 9
    ∷ line (strict_written (2 ∷ 0 ∷ 9 ∷ 1 ∷ []) (7 ∷ []) 0) 16
    ∷ line (strict_written (2 ∷ 0 ∷ 2 ∷ 256 ∷ []) (zeros 256) 0) 16
    ∷ line (strict_written (2 ∷ 256 ∷ 2 ∷ 0 ∷ []) (zeros 256) 0) 12
    ∷ line (strict_written (2 ∷ 0 ∷ 2 ∷ 1 ∷ []) (65536 ∷ []) 0) 16
    ∷ line (strict_written (2 ∷ 1 ∷ 2 ∷ 0 ∷ []) (65536 ∷ []) 0) 13
    ∷ line (strict_written (2 ∷ 0 ∷ zeros 65534) [] 0) 16
    ∷ line (strict_written (2 ∷ 0 ∷ []) [] 0) 16
    ∷ line (strict_written (2 ∷ 1 ∷ []) (7 ∷ []) 3) 11
    ∷ line (strict_written (2 ∷ 1 ∷ []) (7 ∷ []) 4) 0
    ∷ line (strict_written [] [] 0) 0
    ∷ []

-- ---- document 02, K3: "Long messages where both ends agreed"

abbrev pub by_long : ℕ → ℕ → ℕ → ℕ
by_long = by_edition Rfc8654 255

-- the refusal numbers of three messages of a type, which claim a length and have a byte less, all of it and a byte more: a byte to each number
abbrev pub around : ℕ → ℕ → ℕ
around kind claimed = be (map (by_long kind claimed) ((claimed - 1) ∷ claimed ∷ (claimed + 1) ∷ []))

abbrev pub long_messages : List Line
long_messages =
    line (limit_of Rfc4271) 4096
    ∷ line (limit_of Rfc8654) 65535
    -- 4,096 and 4,097 bytes, and 65,535: OPEN and KEEPALIVE are not long, the others are by RFC 8654; a byte short is 2
    ∷ line (around 1 4096) 0x020000
    ∷ line (around 1 4097) 0x030303
    ∷ line (by_long 1 65535 19) 3
    ∷ line (around 2 4096) 0x020000
    ∷ line (around 2 4097) 0x020000
    ∷ line (by_long 2 65535 65534) 2
    ∷ line (by_long 2 65535 65535) 0
    ∷ line (around 3 4096) 0x020000
    ∷ line (around 3 4097) 0x020000
    ∷ line (by_long 3 65535 19) 2
    ∷ line (around 4 4096) 0x030303
    ∷ line (around 4 4097) 0x030303
    ∷ line (by_long 4 65535 19) 3
    ∷ line (around 5 4096) 0x020000
    ∷ line (around 5 4097) 0x020000
    ∷ line (by_long 5 65535 19) 2
    ∷ line (by_long 5 65535 65535) 0
    -- the order by RFC 8654: 2; 6; 3 for a length under 19; 4, however long; 3 for the type's own length; 2
    ∷ line (number_in (message_meaning (strict_of Rfc8654 (zeros 18)))) 2
    ∷ line (by_edition Rfc8654 254 9 18 19) 6
    ∷ line (by_edition Rfc8654 254 1 4097 19) 6
    ∷ line (by_long 9 18 19) 3
    ∷ line (by_long 0 4096 19) 4
    ∷ line (by_long 0 4097 19) 4
    ∷ line (by_long 6 4097 19) 4
    ∷ line (by_long 255 65535 19) 4
    ∷ line (by_long 1 4097 19) 3
    ∷ line (by_long 4 4097 19) 3
    ∷ line (by_long 2 4097 19) 2
    ∷ line (by_long 3 4097 19) 2
    ∷ line (by_long 5 4097 19) 2
    -- the least lengths are those of RFC 4271, and a KEEPALIVE is a header
    ∷ line (by_long 1 28 28) 3
    ∷ line (by_long 1 29 29) 0
    ∷ line (by_long 2 22 22) 3
    ∷ line (by_long 2 23 23) 0
    ∷ line (by_long 3 20 20) 3
    ∷ line (by_long 3 21 21) 0
    ∷ line (by_long 4 19 19) 0
    ∷ line (by_long 4 20 20) 3
    ∷ line (by_long 5 22 22) 3
    ∷ line (by_long 5 23 23) 0
    -- all that it claims is taken, and a flag says that a byte follows: C's word of a NOTIFICATION of 65,535 bytes
    ∷ line (word_of (message_fields (strict_of Rfc8654 (header 255 3 65535 65535)))) 0x3FFFFFFFF
    ∷ line (word_of (message_fields (strict_of Rfc8654 (header 255 3 65535 65536)))) 0x403FFFFFFFF
    ∷ []

-- ---- document 02, K4: "Let a reader see the octet count"

-- what a family's table says of a length byte
abbrev pub after : Afi → ℕ → ℕ
after afi length = entry (table_of (max_of afi)) length

abbrev pub octet_counts : List Line
octet_counts =
    line (after Ipv4 0) 0
    ∷ line (after Ipv4 1) 1
    ∷ line (after Ipv4 8) 1
    ∷ line (after Ipv4 9) 2
    ∷ line (after Ipv4 16) 2
    ∷ line (after Ipv4 17) 3
    ∷ line (after Ipv4 24) 3
    ∷ line (after Ipv4 25) 4
    ∷ line (after Ipv4 32) 4
    ∷ line (after Ipv4 33) 255
    ∷ line (after Ipv4 128) 255
    ∷ line (after Ipv4 255) 255
    ∷ line (after Ipv6 0) 0
    ∷ line (after Ipv6 32) 4
    ∷ line (after Ipv6 33) 5
    ∷ line (after Ipv6 64) 8
    ∷ line (after Ipv6 65) 9
    ∷ line (after Ipv6 120) 15
    ∷ line (after Ipv6 121) 16
    ∷ line (after Ipv6 128) 16
    ∷ line (after Ipv6 129) 255
    ∷ line (after Ipv6 255) 255
    ∷ []

-- ---- document 02, K6: "Tell us when host bits are set"

-- whether one route has a host bit
abbrev pub host : Afi → Form → List ℕ → ℕ
host family form s = value_in 7 (route_meaning (route_of s (max_of family) form))

-- rows, 256 for each that has a host bit, and 65,536 times the refusal number: of a list and of a section, and of a list into so many places
abbrev pub in_hex : Answer → ℕ
in_hex a = value_in 0 a + 256 * value_in 1 a + 65536 * number_in a

abbrev pub list_hosts : AddPath → List ℕ → ℕ
list_hosts setting s = in_hex (routes_meaning (count_list (up_to (max_of Ipv4)) s setting))

abbrev pub section_hosts : List ℕ → ℕ
section_hosts s = in_hex (routes_meaning (count_section (up_to (max_of Ipv4)) s Off))

abbrev pub list_hosts_into : List ℕ → ℕ → ℕ
list_hosts_into s places = in_hex (routes_meaning (read_list (up_to (max_of Ipv4)) s Off places))

-- of both sections of a body
abbrev pub body_hosts : List ℕ → ℕ
body_hosts b = word_of (host_fields (count_update b Off))

abbrev pub host_rows : List Line
host_rows =
    -- 10.255.0.0/9 for 10.128.0.0/9; bits before the length's own octet, and what follows the route, play no part
    line (host Ipv4 Plain (9 ∷ 10 ∷ 255 ∷ [])) 1
    ∷ line (host Ipv4 Plain (9 ∷ 10 ∷ 128 ∷ [])) 0
    ∷ line (host Ipv4 Plain (9 ∷ 255 ∷ 128 ∷ [])) 0
    ∷ line (host Ipv4 Plain (9 ∷ 10 ∷ 128 ∷ 255 ∷ [])) 0
    -- the first and the last bit past a length
    ∷ line (host Ipv4 Plain (1 ∷ 0x80 ∷ [])) 0
    ∷ line (host Ipv4 Plain (1 ∷ 0x40 ∷ [])) 1
    ∷ line (host Ipv4 Plain (1 ∷ 0x01 ∷ [])) 1
    ∷ line (host Ipv4 Plain (7 ∷ 0xFE ∷ [])) 0
    ∷ line (host Ipv4 Plain (7 ∷ 0x01 ∷ [])) 1
    ∷ line (host Ipv4 Plain (31 ∷ 0 ∷ 0 ∷ 0 ∷ 0xFE ∷ [])) 0
    ∷ line (host Ipv4 Plain (31 ∷ 0 ∷ 0 ∷ 0 ∷ 0x01 ∷ [])) 1
    -- a multiple of 8 has none past it
    ∷ line (host Ipv4 Plain (0 ∷ [])) 0
    ∷ line (host Ipv4 Plain (8 ∷ 255 ∷ [])) 0
    ∷ line (host Ipv4 Plain (16 ∷ 255 ∷ 255 ∷ [])) 0
    ∷ line (host Ipv4 Plain (24 ∷ 255 ∷ 255 ∷ 255 ∷ [])) 0
    ∷ line (host Ipv4 Plain (32 ∷ 255 ∷ 255 ∷ 255 ∷ 255 ∷ [])) 0
    -- with an id, whose bits play no part; IPv6; a refused route has none
    ∷ line (host Ipv4 Tagged (0 ∷ 0 ∷ 0 ∷ 7 ∷ 9 ∷ 10 ∷ 255 ∷ [])) 1
    ∷ line (host Ipv4 Tagged (255 ∷ 255 ∷ 255 ∷ 255 ∷ 9 ∷ 10 ∷ 128 ∷ [])) 0
    ∷ line (host Ipv6 Plain (33 ∷ 255 ∷ 255 ∷ 255 ∷ 255 ∷ 0x80 ∷ [])) 0
    ∷ line (host Ipv6 Plain (33 ∷ 0 ∷ 0 ∷ 0 ∷ 0 ∷ 0x40 ∷ [])) 1
    ∷ line (host Ipv6 Plain (127 ∷ zeros 15 ++ 1 ∷ [])) 1
    ∷ line (host Ipv6 Plain (128 ∷ zeros 15 ++ 1 ∷ [])) 0
    ∷ line (host Ipv4 Plain (33 ∷ 255 ∷ 255 ∷ 255 ∷ 255 ∷ 255 ∷ [])) 0
    ∷ line (host Ipv4 Plain (9 ∷ 10 ∷ [])) 0
    -- lists: the rows that have one; none where it is refused, whatever stood before the refusal, and none where there is no room
    ∷ line (list_hosts Off (9 ∷ 10 ∷ 255 ∷ 8 ∷ 11 ∷ 9 ∷ 10 ∷ 128 ∷ 1 ∷ 1 ∷ [])) 0x204
    ∷ line (list_hosts On (0 ∷ 0 ∷ 0 ∷ 7 ∷ 9 ∷ 10 ∷ 255 ∷ [])) 0x101
    ∷ line (list_hosts Guess (0 ∷ 0 ∷ 0 ∷ 7 ∷ 9 ∷ 10 ∷ 255 ∷ 8 ∷ 11 ∷ [])) 0x102
    ∷ line (list_hosts Guess (9 ∷ 10 ∷ 255 ∷ [])) 0x101
    ∷ line (list_hosts Off (9 ∷ 10 ∷ 255 ∷ 33 ∷ [])) 0x70000
    ∷ line (list_hosts Off (9 ∷ 10 ∷ 255 ∷ 9 ∷ [])) 0x20000
    ∷ line (section_hosts (9 ∷ 10 ∷ 255 ∷ [])) 0x101
    ∷ line (section_hosts (9 ∷ [])) 0x80000
    ∷ line (list_hosts_into (9 ∷ 10 ∷ 255 ∷ []) 6) 0x101
    ∷ line (list_hosts_into (9 ∷ 10 ∷ 255 ∷ []) 5) 0xB0000
    -- an UPDATE: each section by itself; none of one with a verdict, and none where the body is refused
    ∷ line (body_hosts (0 ∷ 3 ∷ 9 ∷ 10 ∷ 255 ∷ 0 ∷ 0 ∷ 9 ∷ 10 ∷ 128 ∷ [])) 0x1
    ∷ line (body_hosts (0 ∷ 3 ∷ 9 ∷ 10 ∷ 128 ∷ 0 ∷ 0 ∷ 9 ∷ 10 ∷ 255 ∷ 1 ∷ 1 ∷ [])) 0x20000
    ∷ line (body_hosts (0 ∷ 3 ∷ 9 ∷ 10 ∷ 255 ∷ 0 ∷ 0 ∷ 9 ∷ 10 ∷ 255 ∷ 33 ∷ [])) 0x1
    ∷ line (body_hosts (0 ∷ 3 ∷ 9 ∷ 10 ∷ 255 ∷ 0 ∷ 1 ∷ [])) 0x2000000000000
    ∷ []

-- ---- document 02, K8: "Did the peer send this id?"

-- the first word of a row of a list, and what stands there without the mark
abbrev pub first_word : AddPath → List ℕ → ℕ → ℕ
first_word setting s i = get_or (flat words (list_of s (max_of Ipv4) setting).rows) (6 * i) 0

-- rows, and 65,536 times the refusal number, of taking the marks off a store; and a place of it afterwards
abbrev pub cleared_rows : ℕ → ℕ
cleared_rows places = let a = count_meaning (clear_answer places) in value_in 0 a + 65536 * number_in a

abbrev pub cleared_place : List ℕ → ℕ → ℕ
cleared_place ws i = get_or (clear_after ws) i 0

abbrev pub guessed_ids : List Line
guessed_ids =
    -- the mark, and who sets it
    line guessed 512
    ∷ line (guess_mark On Tagged) 0
    ∷ line (guess_mark Off Plain) 0
    ∷ line (guess_mark Guess Plain) 0
    ∷ line (guess_mark Guess Tagged) 512
    -- a list with an id, by each setting; and one whose second item the guess takes without
    ∷ line (first_word On (0 ∷ 0 ∷ 0 ∷ 7 ∷ 8 ∷ 10 ∷ []) 0) 264
    ∷ line (first_word Guess (0 ∷ 0 ∷ 0 ∷ 7 ∷ 8 ∷ 10 ∷ []) 0) 776
    ∷ line (first_word Off (0 ∷ 0 ∷ 0 ∷ 7 ∷ 8 ∷ 10 ∷ []) 3) 7
    ∷ line (first_word Guess (0 ∷ 0 ∷ 0 ∷ 7 ∷ 8 ∷ 10 ∷ 8 ∷ 11 ∷ []) 0) 776
    ∷ line (first_word Guess (0 ∷ 0 ∷ 0 ∷ 7 ∷ 8 ∷ 10 ∷ 8 ∷ 11 ∷ []) 1) 8
    ∷ line (first_word Guess (8 ∷ 10 ∷ []) 0) 8
    -- that one bit, whatever else is there
    ∷ line (marks.unmarked 512) 0
    ∷ line (marks.unmarked 776) 264
    ∷ line (marks.unmarked 264) 264
    ∷ line (marks.unmarked 1023) 511
    ∷ line (marks.unmarked 1024) 1024
    ∷ line (marks.unmarked 0xFFFFFFFF) 0xFFFFFDFF
    -- of every row, and of no other word; 14 for a part of a row, which stays
    ∷ line (cleared_rows 0) 0
    ∷ line (cleared_rows 1) 0xE0000
    ∷ line (cleared_rows 6) 1
    ∷ line (cleared_rows 7) 0xE0000
    ∷ line (cleared_rows 12) 2
    ∷ line (cleared_place (replicate 12 0xFFFFFFFF) 0) 0xFFFFFDFF
    ∷ line (cleared_place (replicate 12 0xFFFFFFFF) 1) 0xFFFFFFFF
    ∷ line (cleared_place (replicate 12 0xFFFFFFFF) 5) 0xFFFFFFFF
    ∷ line (cleared_place (replicate 12 0xFFFFFFFF) 6) 0xFFFFFDFF
    ∷ line (cleared_place (replicate 12 0xFFFFFFFF) 7) 0xFFFFFFFF
    ∷ line (cleared_place (replicate 13 0xFFFFFFFF) 0) 0xFFFFFFFF
    -- C is told the rows in 48 bits
    ∷ line (word_of (cleared_fields (clear_answer 12))) 2
    ∷ line (word_of (cleared_fields (clear_answer 393216))) 0x10000
    ∷ line (word_of (cleared_fields (clear_answer 25769803776))) 0x100000000
    ∷ line (word_of (cleared_fields (clear_answer 13))) 0xE000000000000
    -- a marked row is not written, with Add-Path on or off; without the mark it is
    ∷ line (list_written Tagged (776 ∷ 7 ∷ 0x0A000000 ∷ 0 ∷ 0 ∷ 0 ∷ []) 6) 14
    ∷ line (list_written Plain (520 ∷ 0 ∷ 0x0A000000 ∷ 0 ∷ 0 ∷ 0 ∷ []) 6) 14
    ∷ line (list_written Tagged (264 ∷ 7 ∷ 0x0A000000 ∷ 0 ∷ 0 ∷ 0 ∷ []) 6) 0
    ∷ []

-- ---- the limit of a list and of a path to write: 1 over 65,535 bytes, before 11

abbrev pub limits : List Line
limits =
    line (number_in (count_meaning (limited refusals.list_limit 65534 65534))) 0
    ∷ line (number_in (count_meaning (limited refusals.list_limit 65535 65535))) 0
    ∷ line (number_in (count_meaning (limited refusals.list_limit 65535 65534))) 11
    ∷ line (number_in (count_meaning (limited refusals.list_limit 65536 0))) 1
    ∷ line (number_in (count_meaning (limited refusals.list_limit 65536 70000))) 1
    ∷ []

-- ---- the settings of a slot and of a C call, and C's words

-- a message of a type
abbrev pub message : ℕ → ℕ → ℕ → Bool → Bool → Bool → Result Message Refusal
message kind claimed taken marker cut trailing =
    Ok (record { kind = kind_named kind; claimed = claimed; taken = taken; marker = marker; cut = cut; trailing = trailing })

abbrev pub settings : List Line
settings =
    -- a setting as a settings byte, and settings bytes as they are read
    line (settings_of Off) 0
    ∷ line (settings_of On) 1
    ∷ line (settings_of Guess) 2
    ∷ line (settings_of (mode_of 0)) 0
    ∷ line (settings_of (mode_of 1)) 1
    ∷ line (settings_of (mode_of 2)) 2
    ∷ line (settings_of (mode_of 3)) 1
    ∷ line (settings_of (mode_of 4)) 0
    ∷ line (settings_of (mode_of 252)) 0
    -- 0 is IPv4, no ids, two bytes; any other number IPv6, ids, four bytes
    ∷ line (max_of (family_of 0)) 32
    ∷ line (max_of (family_of 1)) 128
    ∷ line (max_of (family_of 255)) 128
    ∷ line (id_size (form_of 0)) 0
    ∷ line (id_size (form_of 1)) 4
    ∷ line (id_size (form_of 255)) 4
    ∷ line (width_of (asn_length_of 0)) 2
    ∷ line (width_of (asn_length_of 1)) 4
    ∷ line (width_of (asn_length_of 255)) 4
    -- 0 is RFC 4271, any other number RFC 8654; the header's numbers of both
    ∷ line (limit_of (edition_of 0)) 4096
    ∷ line (limit_of (edition_of 1)) 65535
    ∷ line (limit_of (edition_of 255)) 65535
    ∷ line (edition_number Rfc4271) 0
    ∷ line (edition_number Rfc8654) 1
    -- a record: C5 3A, five bytes, settings up to 3
    ∷ line mark_first 0xC5
    ∷ line mark_second 0x3A
    ∷ line record_size 5
    ∷ line settings_limit 3
    -- a word: three fields of 16 bits and the refusal number above them
    ∷ line (word_of (fields 1 0 0 0)) 0x1
    ∷ line (word_of (fields 0 1 0 0)) 0x10000
    ∷ line (word_of (fields 0 0 1 0)) 0x100000000
    ∷ line (word_of (fields 0 0 0 1)) 0x1000000000000
    -- a message: claimed, taken, and the type with the flags 1 marker, 2 cut, 4 trailing above it
    ∷ line (word_of (message_fields (message 2 19 23 false false false))) 0x200170013
    ∷ line (word_of (message_fields (message 2 0 0 true false false))) 0x10200000000
    ∷ line (word_of (message_fields (message 2 0 0 false true false))) 0x20200000000
    ∷ line (word_of (message_fields (message 2 0 0 false false true))) 0x40200000000
    -- an UPDATE: the rows of both sections, and the verdict of the announced one above that of the withdrawn one
    ∷ line (word_of (update_fields (update_of (with_hosts (Ok 3) 2) (with_hosts (Err R.PrefixLength) 2)))) 0x70000000003
    ∷ line (word_of (update_fields (update_of (with_hosts (Err R.Truncated) 2) (with_hosts (Ok 3) 2)))) 0x200030000
    -- the rows with a host bit: of a list above its rows, and of an UPDATE those of both sections by themselves
    ∷ line (word_of (in_fields (routes_meaning (with_hosts (Ok 3) 2)))) 0x20003
    ∷ line (word_of (in_fields (routes_meaning (with_hosts (Err R.PrefixLength) 2)))) 0x7000000000000
    ∷ line (word_of (host_fields (update_of (with_hosts (Ok 3) 2) (with_hosts (Ok 5) 4)))) 0x40002
    ∷ line (word_of (host_fields (update_of (with_hosts (Err R.PrefixLength) 2) (with_hosts (Ok 5) 4)))) 0x40000
    -- a slot: the kept bytes and the settings of a record, 0; more bytes are needed, 1; no record, 2; the end, 3
    ∷ line (word_of (slot_fields (Slot 65535 Off))) 0xFFFF
    ∷ line (word_of (slot_fields (Slot 3 On))) 0x10003
    ∷ line (word_of (slot_fields (Slot 3 Guess))) 0x20003
    ∷ line (word_of (slot_fields More)) 0x100000000
    ∷ line (word_of (slot_fields Stop)) 0x200000000
    ∷ line (word_of (slot_fields End)) 0x300000000
    -- the words of a row, of a segment's pair and of an AGGREGATOR; the most bytes kept, and rows of a body
    ∷ line row_words 6
    ∷ line (length (words (front_row []))) 6
    ∷ line pair_words 2
    ∷ line (length (pair_of (segment_at 2 []))) 2
    ∷ line aggregator_size 2
    ∷ line kept_limit 65535
    ∷ line body_rows 65512
    -- the version of the calls for C
    ∷ line (word_of version_fields) 0x10002
    -- an attribute: where its value starts, its length, its type and its flags
    ∷ line (word_of (attribute_fields (Ok (Some (record { flags = 0x50; kind = 2; start = 8; length = 3; next = 11 }))))) 0x500200030008
    ∷ line (word_of (attribute_fields (Ok None))) 0
    ∷ line (word_of (attribute_fields (Err R.RepeatedMpNlri))) 0xF000000000000
    -- other answers: their values in order
    ∷ line (word_of (in_fields (given (1 ∷ 2 ∷ 3 ∷ [])))) 0x300020001
    ∷ line (word_of (in_fields (refusal 11))) 0xB000000000000
    ∷ []

-- ---- "The lister"

-- a record with settings 0: its kept bytes are an all-FF marker and the bytes after it
abbrev pub kept : List ℕ → List ℕ
kept after = replicate 16 255 ++ after

abbrev pub slot : List ℕ → List ℕ
slot after = 0xC5 ∷ 0x3A ∷ 0 ∷ (length (kept after) ∷ (0 ∷ kept after))

-- the document's three records: a KEEPALIVE, an UPDATE, and the same less its last byte
abbrev pub three_slots : List ℕ
three_slots =
    slot (0x00 ∷ 0x13 ∷ 0x04 ∷ [])
    ++ (slot (0x00 ∷ 0x1B ∷ 0x02 ∷ 0 ∷ 0 ∷ 0 ∷ 0 ∷ 0x18 ∷ 0x0A ∷ 0x01 ∷ 0x08 ∷ [])
    ++ slot (0x00 ∷ 0x1B ∷ 0x02 ∷ 0 ∷ 0 ∷ 0 ∷ 0 ∷ 0x18 ∷ 0x0A ∷ 0x01 ∷ []))

-- its text, the bytes of which are read as one number
abbrev pub lister : List Line
lister =
    -- "no type claimed kept state withdrawn announced host"
    line (be heading_text) 0x6E6F207479706520636C61696D6564206B6570742073746174652077697468647261776E20616E6E6F756E63656420686F73740A
    -- "1 4 19 19 whole - - -", "2 2 27 27 whole 0/0 1/0 0", "3 2 27 26 cut 0/0 0/2 0"
    ∷ line (be (lines_of 1 three_slots)) 0x3120342031392031392077686F6C65202D202D202D0A3220322032372032372077686F6C6520302F3020312F3020300A3320322032372032362063757420302F3020302F3220300A
    -- "4 refused 3", of a header that claims 18; "5 4 19 20 trailing - - -", of a KEEPALIVE and a byte
    ∷ line (be (line_of 4 (kept (0x00 ∷ 0x12 ∷ 0x09 ∷ [])) Off)) 0x34207265667573656420330A
    ∷ line (be (line_of 5 (kept (0x00 ∷ 0x13 ∷ 0x04 ∷ 0xC5 ∷ [])) Off)) 0x35203420313920323020747261696C696E67202D202D202D0A
    -- "7 2 32 32 whole 1/0 2/0 3", of three routes with host bits: one is withdrawn, two are announced
    ∷ line (be (line_of 7 (kept (0x00 ∷ 0x20 ∷ 0x02 ∷ 0 ∷ 3 ∷ 9 ∷ 10 ∷ 255 ∷ 0 ∷ 0 ∷ 9 ∷ 10 ∷ 255 ∷ 9 ∷ 10 ∷ 129 ∷ [])) Off)) 0x3720322033322033322077686F6C6520312F3020322F3020330A
    -- "stop 6": a wrong mark, a settings byte over 3, a short record; no byte is a plain end
    ∷ line (be (lines_of 6 (0xC5 ∷ 0x3B ∷ []))) 0x73746F7020360A
    ∷ line (be (lines_of 6 (0xC5 ∷ 0x3A ∷ 0 ∷ 0 ∷ 4 ∷ []))) 0x73746F7020360A
    ∷ line (be (lines_of 6 (0xC5 ∷ 0x3A ∷ 0 ∷ 1 ∷ 3 ∷ []))) 0x73746F7020360A
    ∷ line (length (lines_of 6 [])) 0
    -- how it ended: "whole", "stop 6 87", "unread 87", "unwritten"
    ∷ line (be (ending_text Ending.Whole)) 0x77686F6C650A
    ∷ line (be (ending_text (Ending.Stop 6 87))) 0x73746F7020362038370A
    ∷ line (be (ending_text (Ending.Unread 87))) 0x756E726561642038370A
    ∷ line (be (ending_text Ending.Unwritten)) 0x756E7772697474656E0A
    ∷ []

-- ---- "K5. Old and new AS numbers side by side"

-- which of two AGGREGATORs stands, 1 or 2; 256 times the refusal number where they are refused
abbrev pub stood : List ℕ → List ℕ → ℕ
stood one two = value_in 0 (standing_meaning (as4.standing one two)) + 256 * number_in (standing_meaning (as4.standing one two))

-- the refusal number of a merge into stores of so many places
abbrev pub merged_into : List ℕ → List ℕ → List ℕ → List ℕ → ℕ → ℕ → ℕ
merged_into path four one two pairs numbers = number_in (path_meaning (merge_answer (built_of path four one two) pairs numbers))

-- the pairs of the path that is built, a byte each, and the number at a place of its numbers
abbrev pub built_pairs : List ℕ → List ℕ → ℕ
built_pairs path four = be (flat pair_of (built_of path four [] []).rows)

abbrev pub built_number : List ℕ → List ℕ → ℕ → ℕ
built_number path four i = get_or (flat asns_of (built_of path four [] []).rows) i 0

-- a sequence of 65001 23456 23456, of two bytes each, and one of 70000 70001, of four
abbrev pub old_example : List ℕ
old_example = 2 ∷ 3 ∷ 253 ∷ 233 ∷ 91 ∷ 160 ∷ 91 ∷ 160 ∷ []

abbrev pub new_example : List ℕ
new_example = 2 ∷ 2 ∷ 0 ∷ 1 ∷ 17 ∷ 112 ∷ 0 ∷ 1 ∷ 17 ∷ 113 ∷ []

-- AGGREGATORs of AS_TRANS, of another number, and one of four bytes whose second half is AS_TRANS
abbrev pub trans_old : List ℕ
trans_old = 91 ∷ 160 ∷ zeros 4

abbrev pub other_old : List ℕ
other_old = 91 ∷ 161 ∷ zeros 4

abbrev pub trans_new : List ℕ
trans_new = 0 ∷ 0 ∷ 91 ∷ 160 ∷ zeros 4

abbrev pub old_and_new : List Line
old_and_new =
    line as_trans 23456
    -- both are there: the first unless its number is 23456, whatever the second has; else the first, which may be absent
    ∷ line (stood trans_old (zeros 8)) 2
    ∷ line (stood other_old (zeros 8)) 1
    ∷ line (stood trans_old trans_new) 2
    ∷ line (stood other_old trans_new) 1
    ∷ line (stood trans_old []) 1
    ∷ line (stood [] (zeros 8)) 1
    ∷ line (stood [] []) 1
    -- 10 for every other length of either
    ∷ line (stood (zeros 5) []) 2560
    ∷ line (stood (zeros 7) []) 2560
    ∷ line (stood (zeros 8) (zeros 8)) 2560
    ∷ line (stood [] (zeros 6)) 2560
    ∷ line (stood [] (zeros 7)) 2560
    ∷ line (stood (zeros 6) (zeros 9)) 2560
    -- "Sequence 65001 23456 23456 with 70000 70001 gives a sequence of 65001, then one of 70000 70001"
    ∷ line (built_pairs old_example new_example) 0x02010202
    ∷ line (built_number old_example new_example 0) 65001
    ∷ line (built_number old_example new_example 1) 70000
    ∷ line (built_number old_example new_example 2) 70001
    -- its room: two places a segment, one a number
    ∷ line (merged_into old_example new_example [] [] 3 3) 11
    ∷ line (merged_into old_example new_example [] [] 4 2) 11
    ∷ line (merged_into old_example new_example [] [] 4 3) 0
    -- an ignored AS4_PATH, an absent one, and one that counts more
    ∷ line (be (flat pair_of (built_of old_example new_example other_old (zeros 8)).rows)) 0x0203
    ∷ line (built_pairs old_example []) 0x0203
    ∷ line (built_pairs (2 ∷ 0 ∷ []) new_example) 0x0200
    -- a set counts one, an empty one too; a confederation segment counts none
    ∷ line (built_pairs (1 ∷ 2 ∷ 0 ∷ 1 ∷ 0 ∷ 2 ∷ 2 ∷ 1 ∷ 0 ∷ 3 ∷ []) (2 ∷ 1 ∷ zeros 4)) 0x01020201
    ∷ line (built_pairs (1 ∷ 0 ∷ 2 ∷ 1 ∷ 0 ∷ 3 ∷ []) (1 ∷ 0 ∷ [])) 0x01000100
    ∷ line (built_pairs (3 ∷ 1 ∷ 0 ∷ 1 ∷ 2 ∷ 1 ∷ 0 ∷ 3 ∷ []) (2 ∷ 1 ∷ zeros 4)) 0x03010201
    -- those of AS4_PATH are dropped, and if nothing is then left AS_PATH stands alone
    ∷ line (built_pairs old_example (3 ∷ 0 ∷ 2 ∷ 1 ∷ zeros 4)) 0x02020201
    ∷ line (built_pairs old_example (4 ∷ 0 ∷ [])) 0x0203
    -- one of AS_PATH is taken on the way and where nothing is left to make up, but not after a split; an empty sequence ends it then
    ∷ line (built_pairs (1 ∷ 0 ∷ 4 ∷ 0 ∷ 1 ∷ 0 ∷ []) (1 ∷ 0 ∷ [])) 0x010004000100
    ∷ line (built_pairs (2 ∷ 2 ∷ 0 ∷ 1 ∷ 0 ∷ 2 ∷ 4 ∷ 0 ∷ []) (2 ∷ 1 ∷ zeros 4)) 0x02010201
    ∷ line (built_pairs (1 ∷ 0 ∷ 2 ∷ 0 ∷ 4 ∷ 0 ∷ 1 ∷ 0 ∷ []) (1 ∷ 0 ∷ [])) 0x01000100
    -- 10 comes first, then the refusal of AS_PATH, then that of AS4_PATH, even if it is ignored, then 11
    ∷ line (merged_into (5 ∷ []) (5 ∷ 0 ∷ []) (zeros 5) [] 0 0) 10
    ∷ line (merged_into (5 ∷ []) (5 ∷ 0 ∷ []) [] [] 0 0) 2
    ∷ line (merged_into (5 ∷ 0 ∷ []) (5 ∷ []) [] [] 0 0) 9
    ∷ line (merged_into (2 ∷ 0 ∷ []) (5 ∷ 0 ∷ []) other_old (zeros 8) 0 0) 9
    ∷ line (merged_into (zeros 65536) (5 ∷ []) [] [] 0 0) 1
    ∷ line (merged_into (2 ∷ 0 ∷ []) (zeros 65536) other_old (zeros 8) 0 0) 1
    ∷ line (merged_into (2 ∷ 0 ∷ []) [] [] [] 0 0) 11
    ∷ []

-- ---- "K7. IPv6 announcements"

-- MP_REACH_NLRI of a next hop of so many zeros, a reserved byte and a list
abbrev pub announcement : ℕ → ℕ → List ℕ → List ℕ
announcement hop reserved list = 0 ∷ 2 ∷ 1 ∷ hop ∷ zeros hop ++ (reserved ∷ list)

-- MP_UNREACH_NLRI of a list
abbrev pub withdrawal : List ℕ → List ℕ
withdrawal list = 0 ∷ 2 ∷ 1 ∷ list

-- C's word of each that is counted: the rows, those with a host bit, the next hop's length and 256 for the reserved byte, the refusal number
abbrev pub reach_word : AddPath → List ℕ → ℕ
reach_word setting v = word_of (reach_fields (count_reach v setting))

abbrev pub unreach_word : AddPath → List ℕ → ℕ
unreach_word setting v = word_of (in_fields (routes_meaning (count_unreach v setting)))

-- the refusal number of each that is counted, and that is read into a store of so many places
abbrev pub reach_fault : List ℕ → ℕ
reach_fault v = number_in (reach_meaning (count_reach v Off))

abbrev pub unreach_fault : List ℕ → ℕ
unreach_fault v = number_in (routes_meaning (count_unreach v Off))

abbrev pub reach_into : List ℕ → ℕ → ℕ
reach_into v places = number_in (reach_meaning (read_reach v Off places))

abbrev pub unreach_into : List ℕ → ℕ → ℕ
unreach_into v places = number_in (routes_meaning (read_unreach v Off places))

-- of writing rows after a next hop of so many bytes, and without one, into so many places
abbrev pub reach_written : ℕ → List ℕ → ℕ → ℕ
reach_written hop rows places = number_in (count_meaning (write_reach hop rows Plain places))

abbrev pub unreach_written : List ℕ → ℕ → ℕ
unreach_written rows places = number_in (count_meaning (write_unreach rows Plain places))

-- 2001:db8::/32 as a row, and one that no writer takes
abbrev pub documentation : List ℕ
documentation = 32 ∷ 0 ∷ 0x20010DB8 ∷ 0 ∷ 0 ∷ 0 ∷ []

abbrev pub unwritable : List ℕ
unwritable = 129 ∷ zeros 5

abbrev pub announcements : List Line
announcements =
    -- a next hop of 16 bytes or 32, the reserved byte flagged; the rows and those with a host bit
    line (reach_word Off (announcement 16 0 [])) 0x1000000000
    ∷ line (reach_word Off (announcement 32 0 [])) 0x2000000000
    ∷ line (reach_word Off (announcement 16 1 [])) 0x11000000000
    ∷ line (reach_word Off (announcement 32 255 [])) 0x12000000000
    ∷ line (reach_word Off (announcement 16 0 (32 ∷ 0x20 ∷ 1 ∷ 0x0D ∷ 0xB8 ∷ 0 ∷ []))) 0x1000000002
    ∷ line (reach_word Off (announcement 16 0 (33 ∷ zeros 4 ++ 0x40 ∷ []))) 0x1000010001
    ∷ line (unreach_word Off (withdrawal [])) 0
    ∷ line (unreach_word Off (withdrawal (32 ∷ 0x20 ∷ 1 ∷ 0x0D ∷ 0xB8 ∷ 0 ∷ []))) 2
    ∷ line (unreach_word Off (withdrawal (1 ∷ 0x40 ∷ []))) 0x10001
    -- with ids, and by the guess
    ∷ line (reach_word On (announcement 16 0 (0 ∷ 0 ∷ 0 ∷ 7 ∷ 8 ∷ 0x20 ∷ []))) 0x1000000001
    ∷ line (reach_word Guess (announcement 16 0 (0 ∷ 0 ∷ 0 ∷ 7 ∷ 8 ∷ 0x20 ∷ []))) 0x1000000001
    ∷ line (reach_word Off (announcement 16 0 (0 ∷ 0 ∷ 0 ∷ 7 ∷ 8 ∷ 0x20 ∷ []))) 0x2000000000000
    ∷ line (unreach_word On (withdrawal (0 ∷ 0 ∷ 0 ∷ 7 ∷ 8 ∷ 0x20 ∷ []))) 1
    ∷ line (unreach_word Guess (withdrawal (0 ∷ 0 ∷ 0 ∷ 7 ∷ 8 ∷ 0x20 ∷ []))) 1
    -- 2 under three bytes, whatever they are
    ∷ line (reach_fault []) 2
    ∷ line (reach_fault (9 ∷ 9 ∷ [])) 2
    ∷ line (unreach_fault []) 2
    ∷ line (unreach_fault (0 ∷ 1 ∷ [])) 2
    -- 17 for another pair, be more there or not: another family by either byte, both bytes exchanged, another subfamily
    ∷ line (reach_fault (0 ∷ 1 ∷ 1 ∷ [])) 17
    ∷ line (reach_fault (1 ∷ 2 ∷ 1 ∷ [])) 17
    ∷ line (reach_fault (2 ∷ 0 ∷ 1 ∷ [])) 17
    ∷ line (reach_fault (0 ∷ 2 ∷ 0 ∷ [])) 17
    ∷ line (reach_fault (0 ∷ 2 ∷ 2 ∷ [])) 17
    ∷ line (reach_fault (0 ∷ 2 ∷ 128 ∷ 24 ∷ zeros 25)) 17
    ∷ line (unreach_fault (0 ∷ 1 ∷ 1 ∷ [])) 17
    ∷ line (unreach_fault (1 ∷ 2 ∷ 1 ∷ [])) 17
    ∷ line (unreach_fault (0 ∷ 2 ∷ 2 ∷ 129 ∷ [])) 17
    -- no length byte, 2; another length, 18, be its bytes there or not; the next hop or the reserved byte not there, 2
    ∷ line (reach_fault (0 ∷ 2 ∷ 1 ∷ [])) 2
    ∷ line (reach_fault (0 ∷ 2 ∷ 1 ∷ 0 ∷ [])) 18
    ∷ line (reach_fault (0 ∷ 2 ∷ 1 ∷ 4 ∷ [])) 18
    ∷ line (reach_fault (0 ∷ 2 ∷ 1 ∷ 24 ∷ [])) 18
    ∷ line (reach_fault (announcement 0 0 [])) 18
    ∷ line (reach_fault (announcement 4 0 [])) 18
    ∷ line (reach_fault (announcement 15 0 [])) 18
    ∷ line (reach_fault (announcement 17 0 [])) 18
    ∷ line (reach_fault (announcement 24 0 [])) 18
    ∷ line (reach_fault (announcement 31 0 [])) 18
    ∷ line (reach_fault (announcement 33 0 [])) 18
    ∷ line (reach_fault (announcement 48 0 [])) 18
    ∷ line (reach_fault (announcement 255 0 [])) 18
    ∷ line (reach_fault (0 ∷ 2 ∷ 1 ∷ 16 ∷ [])) 2
    ∷ line (reach_fault (0 ∷ 2 ∷ 1 ∷ 16 ∷ zeros 16)) 2
    ∷ line (reach_fault (0 ∷ 2 ∷ 1 ∷ 32 ∷ zeros 32)) 2
    -- the list's own, by IPv6's longest prefix: no rule of one byte
    ∷ line (reach_fault (announcement 16 0 (8 ∷ []))) 2
    ∷ line (reach_fault (announcement 16 0 (0 ∷ []))) 0
    ∷ line (reach_fault (announcement 16 0 (128 ∷ zeros 16))) 0
    ∷ line (reach_fault (announcement 16 0 (129 ∷ zeros 17))) 7
    ∷ line (unreach_fault (withdrawal (8 ∷ []))) 2
    ∷ line (unreach_fault (withdrawal (129 ∷ zeros 17))) 7
    -- 1 before all, and 11 last: six places a row
    ∷ line (reach_fault (zeros 65536)) 1
    ∷ line (unreach_fault (zeros 65536)) 1
    ∷ line (reach_into (announcement 16 0 (0 ∷ [])) 6) 0
    ∷ line (reach_into (announcement 16 0 (0 ∷ [])) 5) 11
    ∷ line (reach_into (announcement 16 0 (0 ∷ 8 ∷ [])) 0) 2
    ∷ line (unreach_into (withdrawal (0 ∷ [])) 6) 0
    ∷ line (unreach_into (withdrawal (0 ∷ [])) 5) 11
    ∷ line (unreach_into (withdrawal (0 ∷ 129 ∷ [])) 0) 7
    -- written: the pair, the length, the next hop, a reserved byte of 0, the routes
    ∷ line (be (reach_bytes (zeros 15 ++ 7 ∷ []) (route_bytes documentation Plain))) 0x0002011000000000000000000000000000000007002020010DB8
    ∷ line (length (reach_bytes (zeros 32) [])) 37
    ∷ line (be (unreach_bytes (route_bytes documentation Plain))) 0x0002012020010DB8
    -- 18 first, then 14, then 11
    ∷ line (reach_written 15 unwritable 0) 18
    ∷ line (reach_written 24 unwritable 0) 18
    ∷ line (reach_written 16 unwritable 0) 14
    ∷ line (reach_written 32 unwritable 0) 14
    ∷ line (reach_written 16 documentation 25) 11
    ∷ line (reach_written 16 documentation 26) 0
    ∷ line (reach_written 32 [] 36) 11
    ∷ line (reach_written 32 [] 37) 0
    ∷ line (unreach_written unwritable 0) 14
    ∷ line (unreach_written documentation 7) 11
    ∷ line (unreach_written documentation 8) 0
    ∷ []

-- ---- an index beside a list (document 02, K9)

-- the index of a list of IPv4, and its place i; 1,000 times the refusal number and the places that building answers
abbrev pub index_place : Form → List ℕ → ℕ → ℕ
index_place form s i = get_or (index_by (up_to (max_of Ipv4)) s form) i 0

abbrev pub built_places : List ℕ → ℕ → ℕ
built_places s places = let a = count_meaning (build_index (up_to (max_of Ipv4)) s Plain places) in value_in 0 a + 1000 * number_in a

-- 1,000 times the refusal number and the first word of route n of a list, by an index
abbrev pub route_at : List ℕ → List ℕ → ℕ → ℕ
route_at s index n = let a = route_meaning (route_by (up_to (max_of Ipv4)) Plain s index n) in value_in 1 a + 1000 * number_in a

-- the same by the list's own index; a list of 17 default routes and one of /8
abbrev pub own_route : List ℕ → ℕ → ℕ
own_route s n = route_at s (index_by (up_to (max_of Ipv4)) s Plain) n

abbrev pub eighteen : List ℕ
eighteen = zeros 17 ++ 8 ∷ 10 ∷ []

abbrev pub indexes : List Line
indexes =
    -- a place for each sixteen items, from the first, where these start
    line (built_places [] 0) 0
    ∷ line (built_places (zeros 1) 9) 1
    ∷ line (built_places (zeros 16) 9) 1
    ∷ line (built_places (zeros 17) 9) 2
    ∷ line (built_places (zeros 32) 9) 2
    ∷ line (built_places (zeros 33) 9) 3
    ∷ line (index_place Plain (zeros 33) 0) 0
    ∷ line (index_place Plain (zeros 33) 1) 16
    ∷ line (index_place Plain (zeros 33) 2) 32
    ∷ line (index_place Plain (8 ∷ 10 ∷ zeros 16) 1) 17
    ∷ line (index_place Tagged (zeros 85) 1) 80
    -- sixteen items apart; the most places, which are those of the longest list of the shortest items
    ∷ line index_spacing 16
    ∷ line index_places 4096
    -- the list's refusals, and no rule of one byte; then 11
    ∷ line (built_places (zeros 65536) 0) 1000
    ∷ line (built_places (8 ∷ []) 0) 2000
    ∷ line (built_places (zeros 17 ++ 33 ∷ []) 0) 7000
    ∷ line (built_places (zeros 17) 1) 11000
    ∷ line (built_places (zeros 17) 2) 2
    -- each route by the list's own index, and none past the last
    ∷ line (own_route eighteen 0) 0
    ∷ line (own_route eighteen 15) 0
    ∷ line (own_route eighteen 16) 0
    ∷ line (own_route eighteen 17) 8
    ∷ line (own_route eighteen 18) 20000
    ∷ line (own_route eighteen 32) 20000
    ∷ line (own_route eighteen 0xFFFFFFFF) 20000
    ∷ line (own_route [] 0) 20000
    -- 1; 19 where it does not rise from 0, or has a place at the end or past it
    ∷ line (route_at (zeros 65536) (1 ∷ []) 0) 1000
    ∷ line (route_at (zeros 9) (1 ∷ []) 0) 19000
    ∷ line (route_at (zeros 9) (0 ∷ 0 ∷ []) 0) 19000
    ∷ line (route_at (zeros 9) (0 ∷ 5 ∷ 4 ∷ []) 0) 19000
    ∷ line (route_at (zeros 9) (0 ∷ 9 ∷ []) 0) 19000
    ∷ line (route_at (zeros 9) (0 ∷ 8 ∷ []) 0) 0
    ∷ line (route_at [] (0 ∷ []) 0) 19000
    -- then 20 where the start is lacking, and not before 19
    ∷ line (route_at (zeros 9) (1 ∷ []) 16) 19000
    ∷ line (route_at (zeros 9) (0 ∷ []) 16) 20000
    ∷ line (route_at (zeros 9) [] 0) 20000
    -- then the items' refusals in byte order, and 20 where they run out
    ∷ line (route_at (0 ∷ 33 ∷ []) (0 ∷ []) 1) 7000
    ∷ line (route_at (0 ∷ 33 ∷ []) (0 ∷ []) 2) 7000
    ∷ line (route_at (0 ∷ 8 ∷ []) (0 ∷ []) 1) 2000
    ∷ line (route_at (zeros 9) (0 ∷ []) 8) 0
    ∷ line (route_at (zeros 9) (0 ∷ []) 9) 20000
    -- from the place that is named, whatever stands there
    ∷ line (route_at eighteen (0 ∷ 17 ∷ []) 16) 8
    ∷ line (route_at eighteen (0 ∷ 18 ∷ []) 16) 2000
    ∷ line (route_at eighteen (0 ∷ 17 ∷ []) 17) 20000
    ∷ []

abbrev pub table : List Line
table = refusal_numbers ++ (headers ++ (bodies ++ (lists ++ (paths_and_aggregators ++ (old_and_new ++ (attributes ++ (empty_segments ++ (long_messages ++ (octet_counts ++ (host_rows ++ (announcements ++ (guessed_ids ++ (indexes ++ (limits ++ (settings ++ lister)))))))))))))))

-- every line of the table holds
pub numbers : agree table ≡ true
unfolding agree zeros starts sixteenths index_by is_index route_from route_by count_index build_index cleared_from clear_answer clear_after pair_fault head_of count_reach read_reach count_unreach read_unreach reach_head reach_bytes unreach_bytes route_writer.write_after write_reach table_of be_at read_all walk notes flat mode_of word_at row_of item_row prefix_of host_bits route_of hosts_by in_form guess_form step_by list_by section_by routes.count_answer routes.read_answer four_words row_bytes all_zero writable front_row write_step writing bytes_of measured route_writer.write_answer limited span aggregator_of aggregator_bytes aggregator_written type_fault numbers_of segment_at segment_of path_of paths.count_answer paths.read_answer segment_bytes adds_up all_fit write_fault lent_of lent_path path_bytes path_writer.lent_bytes path_writer.encode_answer least_length most_length crate_limit is_outside is_unknown kind_named kind_read all_ff message_of strict_within message_writer.write_message is_extended length_size head_size attribute_front attribute_of attribute.section_of standing attribute_at first_of count_of verdict_of judged find_answer parts_of withdrawn_of announced_of count_update body_sized body_answer word_of family_of form_of asn_length_of edition_of tally found slot_of digits fields_text section_text entry_of entry_text line_of stop_text heading_text lines_of ending_text size_fault as4.standing ignored Merge.kept Merge.leading Merge.joint fault_of both_of built_of
numbers = refl

-- the limit of a list and of a path to write is of their bytes, whatever they are
pub list_limit_lem : (rows : List ℕ) (max : ℕ) (form : Form) (places : ℕ) → (writing rows max form).verdict ≡ fine
    → route_writer.write_answer rows max form places ≡ limited refusals.list_limit (length (bytes_of rows max form)) places
unfolding route_writer.write_answer
list_limit_lem rows max form places e = rw e

pub path_limit : (rule : PathRule) (width : AsnLength) (pairs numbers : List ℕ) (places : ℕ) → adds_up pairs (length numbers) ≡ true
    → (lent_path (rule_of rule) (width_of width) pairs numbers).verdict ≡ fine
    → path_writer.encode_answer (rule_of rule) (width_of width) pairs numbers places
    ≡ limited refusals.list_limit (length (path_writer.lent_bytes (rule_of rule) (width_of width) pairs numbers)) places
unfolding path_writer.encode_answer
path_limit rule width pairs numbers places adds e = rw (adds, e)

-- and that of MP_REACH_NLRI and MP_UNREACH_NLRI is of the whole value
pub reach_limit : (hop : ℕ) (rows : List ℕ) (form : Form) (places : ℕ) → is_hop_size hop ≡ true → (writing rows (max_of Ipv6) form).verdict ≡ fine
    → write_reach hop rows form places ≡ limited refusals.list_limit (4 + hop + 1 + length (route_bytes rows form)) places
unfolding write_reach route_writer.write_after
reach_limit hop rows form places size e = rw (size, e)

pub unreach_limit : (rows : List ℕ) (form : Form) (places : ℕ) → (writing rows (max_of Ipv6) form).verdict ≡ fine
    → write_unreach rows form places ≡ limited refusals.list_limit (3 + length (route_bytes rows form)) places
unfolding route_writer.write_after
unreach_limit rows form places e = rw e
