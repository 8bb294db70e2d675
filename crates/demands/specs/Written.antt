-- Written and read again, of the calls themselves: what a writer wrote is read as what it was given, a message whatever follows it; and what keeps
-- the limits is written, given room, so that no writer refuses too much.
use Rattle.std.specs.Prelude.{ℕ, ◌+◌, ◌/◌, ◌^◌, ◌≤◌, ◌<◌, ◌≡◌, true, false, take, ltb, Result, Ok}
use Rattle.std.proofs.Math.Path.{sym, ap}
use Rattle.std.proofs.Common.{ap₂, ◌∙◌, arith}
use mathlib.Core.List.{List, ◌++◌}
use Rattle.std.proofs.Math.ListN.{length}
use Rattle.wire.specs.Number.{Words}
use Rattle.wire.specs.Extent.{within}
use Rattle.wire.specs.Refusal.{list_limit, body_limit}
use Rattle.wire.specs.Store.{laid}
use Rattle.wire.specs.Verdict.{fine}
use Rattle.wire.specs.declared.refusal.Refusal.{Refusal}
use Rattle.wire.proofs.AnswerLaws.{limited_fits}
use Rattle.wire.proofs.AnswerLaws.{written_front}
use Rattle.messages.specs.Header.{open_kind, route_refresh_kind, kind_named, header_size, limit_of, least_length, most_length, message_of, strict_of, body_at}
use Rattle.messages.specs.Written.{message_bytes, write_message}
use Rattle.messages.specs.declared.Edition.{Edition}
use Rattle.messages.specs.declared.Edition.TheVariants.{Rfc8654}
use Rattle.messages.specs.declared.Message.{Message}
use Rattle.messages.proofs.WrittenLaws.{most_small, written_fit, fit_written, message_front}
use Rattle.messages.proofs.Framing.{Framed, written_accepted, written_whole}
use Rattle.messages.proofs.encode_bgp_message.Reads as encode_bgp_message
use Rattle.messages.proofs.parse_bgp_message.Reads as parse_bgp_message
use Rattle.messages.proofs.parse_bgp_message_strict.Reads as parse_bgp_message_strict
use Rattle.messages.proofs.message_body.Reads as message_body
use Rattle.messages.proofs.message_body_strict.Reads as message_body_strict
use Rattle.families.specs.Family.{max_of}
use Rattle.families.specs.declared.Afi.TheVariants.{Ipv4}
use Rattle.families.specs.declared.AddPath.{AddPath}
use Rattle.families.specs.declared.Form.{Form}
use Rattle.routes.specs.List.{fixed, hosts_of}
use Rattle.routes.specs.declared.Routes.{Routes}
use Rattle.route_bytes.specs.Encode.{writing, bytes_of}
use Rattle.route_writer.specs.Promises.{write_answer}
use Rattle.route_writer.proofs.encode_nlri_prefixes.Reads as encode_nlri_prefixes
use Rattle.updates.specs.Body.{parts_of, withdrawn_of, attributes_of, announced_of}
use Rattle.updates.specs.Update.{count_update, read_update, withdrawn_after, announced_after}
use Rattle.updates.specs.declared.Update.{Update}
use Rattle.updates.proofs.BodyLaws.{holds_withdrawn, holds_attributes, holds_announced}
use Rattle.updates.proofs.update_parts.Reads as update_parts
use Rattle.updates.proofs.withdrawn_part.Reads as withdrawn_part
use Rattle.updates.proofs.attribute_part.Reads as attribute_part
use Rattle.updates.proofs.announced_part.Reads as announced_part
use Rattle.updates.proofs.count_bgp_update_message.Reads as count_bgp_update_message
use Rattle.updates.proofs.parse_bgp_update_message.Reads as parse_bgp_update_message
use Rattle.update_writer.specs.Body.{body_size, body_bytes, body_answer}
use Rattle.update_writer.proofs.RoundTrip.{Reads}
use Rattle.update_writer.proofs.RoundTrip as Bodies
use Rattle.update_writer.proofs.encode_bgp_update_message.Reads as encode_bgp_update_message
use Rattle.asns.specs.Asn.{width_of}
use Rattle.asns.specs.Aggregator.{unlike, aggregator_of, aggregator_bytes, aggregator_written, aggregator_left}
use Rattle.asns.specs.declared.AsnLength.{AsnLength}
use Rattle.asns.proofs.AggregatorLaws.{bytes_length}
use Rattle.asns.proofs.RoundTrip as Aggregators
use Rattle.asns.proofs.encode_aggregator.Reads as encode_aggregator
use Rattle.asns.proofs.parse_aggregator.Reads as parse_aggregator
use Rattle.paths.specs.Segment.{Rule, rule_of}
use Rattle.path_writer.specs.Write.{adds_up, lent_path}
use Rattle.path_writer.specs.Promises as Paths
use Rattle.path_writer.proofs.encode_as_path.Reads as encode_as_path

-- ---- messages

-- any call that writes a message
module _ (κs : _) (given : _) (answer : _) (exit : _) (call : encode_bgp_message.Learnt κs given answer exit) where
  abbrev kind : ℕ
  kind = given.0

  abbrev body : List ℕ
  body = given.1.0.now

  abbrev out : List ℕ
  out = given.1.1.0.now

  abbrev left : List ℕ
  left = exit.1.1.0.now

  -- a known type and a length that the type allows are written, given room
  pub message_is_written : open_kind ≤ kind → kind ≤ route_refresh_kind → least_length kind ≤ header_size + length body → header_size + length body ≤ most_length kind
      → header_size + length body ≤ length out → answer ≡ Ok (header_size + length body)
  message_is_written low high least most room = call.0 ∙ fit_written kind body (length out) low high least most room

  -- what it wrote, and any bytes after it
  module _ (n : ℕ) (wrote : answer ≡ Ok n) (rest : List ℕ) where
    -- the answer of a reading: that type, all of what was written, and no flag but that bytes follow
    abbrev again : Result Message Refusal
    again = Ok (record { kind = kind_named kind; claimed = n; taken = n; marker = false; cut = false; trailing = ltb 0 (length rest) })

    written : write_message kind body (length out) ≡ Ok n
    written = sym call.0 ∙ wrote

    size : n ≡ header_size + length body
    size = (written_fit kind body (length out) n written).size

    -- the bytes that are read
    bytes : (s : List ℕ) → s ≡ take n left ++ rest → s ≡ message_bytes kind body ++ rest
    bytes s e = e ∙ ap (λ (l : List ℕ). l ++ rest) (ap (take n) call.1 ∙ message_front kind body out n written)

    -- the crate's reading
    pub message_again : (κs' : _) (given' : _) (answer' : _) (exit' : _) → parse_bgp_message.Learnt κs' given' answer' exit' → given'.0.now ≡ take n left ++ rest → answer' ≡ again
    message_again κs' given' answer' exit' read same =
        read
        ∙ ap message_of (bytes given'.0.now same)
        ∙ (written_accepted kind body rest (length out) n written).same
        ∙ ap (λ (m : ℕ). Ok (record { kind = kind_named kind; claimed = m; taken = m; marker = false; cut = false; trailing = ltb 0 (length rest) })) (sym size)

    pub body_again : (κs' : _) (given' : _) (part : _) (exit' : _) → message_body.Learnt κs' given' part exit' → given'.0.now ≡ take n left ++ rest → part.now ≡ body
    body_again κs' given' part exit' read same =
        read.holds
        ∙ ap (λ (s : List ℕ). within (body_at (message_of s)) s) (bytes given'.0.now same)
        ∙ (written_accepted kind body rest (length out) n written).content

    -- the strict one, by an edition whose limit it keeps: RFC 8654's always
    pub keeps_extended : n ≤ limit_of Rfc8654
    keeps_extended = omega (arith, size, (written_fit kind body (length out) n written).most, most_small kind)

    module _ (edition : Edition) (short : n ≤ limit_of edition) where
      framed : Framed kind body rest (strict_of edition (message_bytes kind body ++ rest))
      framed = written_whole kind body rest (length out) n written (limit_of edition) (omega (arith, size))

      pub strict_message_again : (κs' : _) (s : _) (answer' : _) (exit' : _) → parse_bgp_message_strict.Learnt κs' (s, (edition, tt)) answer' exit' → s.now ≡ take n left ++ rest
          → answer' ≡ again
      strict_message_again κs' s answer' exit' read same =
          read ∙ ap (strict_of edition) (bytes s.now same) ∙ framed.same ∙ ap (λ (m : ℕ). Ok (record { kind = kind_named kind; claimed = m; taken = m; marker = false; cut = false; trailing = ltb 0 (length rest) })) (sym size)

      pub strict_body_again : (κs' : _) (s : _) (part : _) (exit' : _) → message_body_strict.Learnt κs' (s, (edition, tt)) part exit' → s.now ≡ take n left ++ rest → part.now ≡ body
      strict_body_again κs' s part exit' read same =
          read.holds ∙ ap (λ (t : List ℕ). within (body_at (strict_of edition t)) t) (bytes s.now same) ∙ framed.content

-- ---- UPDATE bodies

-- any call that writes one
module _ (κs : _) (given : _) (answer : _) (exit : _) (call : encode_bgp_update_message.Learnt κs given answer exit) where
  abbrev withdrawn : List ℕ
  withdrawn = given.0.now

  abbrev attributes : List ℕ
  attributes = given.1.0.now

  abbrev announced : List ℕ
  announced = given.1.1.0.now

  abbrev form : Form
  form = given.1.1.1.0

  abbrev out_body : List ℕ
  out_body = given.1.1.1.1.0.now

  abbrev left_body : List ℕ
  left_body = exit.1.1.1.1.0.now

  -- the bytes of the two lists
  abbrev withdrawn_bytes : List ℕ
  withdrawn_bytes = bytes_of withdrawn (max_of Ipv4) form

  abbrev announced_bytes : List ℕ
  announced_bytes = bytes_of announced (max_of Ipv4) form

  abbrev total : ℕ
  total = body_size (length withdrawn_bytes) (length attributes) (length announced_bytes)

  -- two lists that can be written, in sections that keep the limits, are written, given room
  pub update_is_written : (writing withdrawn (max_of Ipv4) form).verdict ≡ fine → (writing announced (max_of Ipv4) form).verdict ≡ fine
      → length withdrawn_bytes ≤ list_limit → length attributes ≤ list_limit → total ≤ body_limit → total ≤ length out_body → answer ≡ Ok total
  update_is_written good good' low middle whole room =
      call.0 ∙ Bodies.fit_written withdrawn attributes announced form (length out_body) good good' (record { low = low; middle = middle; whole = whole; room = room })

  -- what it wrote
  module _ (n : ℕ) (wrote : answer ≡ Ok n) where
    abbrev update_body : List ℕ
    update_body = body_bytes withdrawn attributes announced form

    wrote_body : body_answer withdrawn attributes announced form (length out_body) ≡ Ok n
    wrote_body = sym call.0 ∙ wrote

    reads : Reads withdrawn_bytes attributes announced_bytes update_body
    reads = Bodies.written_read withdrawn attributes announced form (length out_body) n wrote_body

    body_read : (s : List ℕ) → s ≡ take n left_body → s ≡ update_body
    body_read s e = e ∙ ap (take n) call.1 ∙ written_front answer n update_body out_body wrote (Bodies.written_size withdrawn attributes announced form (length out_body) n wrote_body)

    -- its sections are the bytes of the withdrawn rows, the attributes, and the bytes of the announced rows
    pub parts_again : (κs' : _) (given' : _) (answer' : _) (exit' : _) → update_parts.Learnt κs' given' answer' exit' → given'.0.now ≡ take n left_body
        → answer' ≡ Ok (record { withdrawn = length withdrawn_bytes; attributes = length attributes; announced = length announced_bytes })
    parts_again κs' given' answer' exit' read same = read ∙ ap parts_of (body_read given'.0.now same) ∙ reads.parts

    pub withdrawn_part_again : (κs' : _) (given' : _) (part : _) (exit' : _) → withdrawn_part.Learnt κs' given' part exit' → given'.0.now ≡ take n left_body → part.now ≡ withdrawn_bytes
    withdrawn_part_again κs' given' part exit' read same = holds_withdrawn given'.0 part read ∙ ap withdrawn_of (body_read given'.0.now same) ∙ reads.withdrawn

    pub attribute_part_again : (κs' : _) (given' : _) (part : _) (exit' : _) → attribute_part.Learnt κs' given' part exit' → given'.0.now ≡ take n left_body → part.now ≡ attributes
    attribute_part_again κs' given' part exit' read same = holds_attributes given'.0 part read ∙ ap attributes_of (body_read given'.0.now same) ∙ reads.attributes

    pub announced_part_again : (κs' : _) (given' : _) (part : _) (exit' : _) → announced_part.Learnt κs' given' part exit' → given'.0.now ≡ take n left_body → part.now ≡ announced_bytes
    announced_part_again κs' given' part exit' read same = holds_announced given'.0 part read ∙ ap announced_of (body_read given'.0.now same) ∙ reads.announced

    -- its rows are those that were written, under the setting of their form, and those of their bytes have a host bit; six numbers are a row
    module _ (wide : Words withdrawn) (wide' : Words announced) where
      abbrev rows_of : List ℕ → List ℕ → Result Routes Refusal
      rows_of ws bytes = Ok (record { rows = length ws / 6; hosts = hosts_of bytes (max_of Ipv4) (fixed form) })

      abbrev counts : Result Update Refusal
      counts = Ok (record { withdrawn = rows_of withdrawn withdrawn_bytes; announced = rows_of announced announced_bytes })

      pub update_counted_again : (κs' : _) (given' : _) (answer' : _) (exit' : _) → count_bgp_update_message.Learnt κs' given' answer' exit'
          → given'.0.now ≡ take n left_body → given'.1.0 ≡ fixed form → answer' ≡ counts
      update_counted_again κs' given' answer' exit' read same setting =
          read
          ∙ ap₂ (λ (b : List ℕ) (m : AddPath). count_update b m) (body_read given'.0.now same) setting
          ∙ Bodies.update_counted withdrawn attributes announced form (length out_body) n wrote_body wide wide'

      -- in stores that have room for them
      module _ (κs' : _) (given' : _) (answer' : _) (exit' : _) (read : parse_bgp_update_message.Learnt κs' given' answer' exit')
          (same : given'.0.now ≡ take n left_body) (setting : given'.1.0 ≡ fixed form)
          (room : length withdrawn ≤ length given'.1.1.0.now) (room' : length announced ≤ length given'.1.1.1.0.now) where
        pub update_read_again : answer' ≡ counts
        update_read_again =
            read.0
            ∙ ap₂ (λ (b : List ℕ) (m : AddPath). read_update b m (length given'.1.1.0.now) (length given'.1.1.1.0.now)) (body_read given'.0.now same) setting
            ∙ Bodies.update_read withdrawn attributes announced form (length out_body) n wrote_body wide wide' (length given'.1.1.0.now) (length given'.1.1.1.0.now) room room'

        pub withdrawn_rows_again : exit'.1.1.0.now ≡ laid given'.1.1.0.now 0 withdrawn
        withdrawn_rows_again =
            read.1.0
            ∙ ap (λ (u : Result Update Refusal). withdrawn_after u given'.0.now given'.1.0 given'.1.1.0.now) update_read_again
            ∙ ap₂ (λ (b : List ℕ) (m : AddPath). withdrawn_after counts b m given'.1.1.0.now) (body_read given'.0.now same) setting
            ∙ ap (laid given'.1.1.0.now 0) (Bodies.withdrawn_again withdrawn attributes announced form (length out_body) n wrote_body wide wide')

        pub announced_rows_again : exit'.1.1.1.0.now ≡ laid given'.1.1.1.0.now 0 announced
        announced_rows_again =
            read.1.1
            ∙ ap (λ (u : Result Update Refusal). announced_after u given'.0.now given'.1.0 given'.1.1.1.0.now) update_read_again
            ∙ ap₂ (λ (b : List ℕ) (m : AddPath). announced_after counts b m given'.1.1.1.0.now) (body_read given'.0.now same) setting
            ∙ ap (laid given'.1.1.1.0.now 0) (Bodies.announced_again withdrawn attributes announced form (length out_body) n wrote_body wide wide')

-- ---- AGGREGATOR

-- any call that writes one
module _ (κs : _) (given : _) (answer : _) (exit : _) (call : encode_aggregator.Learnt κs given answer exit) where
  abbrev asn : ℕ
  asn = given.0

  abbrev identifier : ℕ
  identifier = given.1.0

  abbrev width : AsnLength
  width = given.1.1.0

  abbrev out_aggregator : List ℕ
  out_aggregator = given.1.1.1.0.now

  abbrev left_aggregator : List ℕ
  left_aggregator = exit.1.1.1.0.now

  -- a number that the width holds is written, given room
  pub aggregator_is_written : asn < 256 ^ width_of width → width_of width + 4 ≤ length out_aggregator → answer ≡ Ok (width_of width + 4)
  aggregator_is_written fits room = call.0 ∙ Aggregators.fits_written asn identifier width (length out_aggregator) fits room

  -- what it wrote is read as the number and the identifier, with the flag exactly if another width is configured
  pub aggregator_again : (n : ℕ) → answer ≡ Ok n → identifier < 2 ^ 32
      → (κs' : _) (given' : _) (answer' : _) (exit' : _) → parse_aggregator.Learnt κs' given' answer' exit' → given'.0.now ≡ take n left_aggregator
      → answer' ≡ Ok (record { asn = asn; identifier = identifier; differs = unlike width given'.1.0 })
  unfolding aggregator_left
  aggregator_again n wrote small κs' given' answer' exit' read same =
      let e : aggregator_written asn identifier width (length out_aggregator) ≡ Ok n = sym call.0 ∙ wrote in
      let fit = Aggregators.written_fits asn identifier width (length out_aggregator) n e in
      let size : length (aggregator_bytes width asn identifier) ≡ n = bytes_length asn identifier width ∙ sym fit.1 in
      let bytes : given'.0.now ≡ aggregator_bytes width asn identifier =
      same ∙ ap (take n) call.1 ∙ written_front (aggregator_written asn identifier width (length out_aggregator)) n (aggregator_bytes width asn identifier) out_aggregator e size in
      read ∙ ap (λ (s : List ℕ). aggregator_of s given'.1.0) bytes ∙ Aggregators.written_read asn identifier width given'.1.0 fit.0 small

-- ---- lists of routes, and paths: what keeps the limits is written; Routes and Paths have the rest

-- any call that writes a list
module _ (κs : _) (given : _) (answer : _) (exit : _) (call : encode_nlri_prefixes.Learnt κs given answer exit) where
  abbrev rows : List ℕ
  rows = given.0.now

  abbrev list_bytes : List ℕ
  list_bytes = bytes_of rows (max_of given.1.0) given.1.1.0

  -- rows that can be written, of up to 65,535 bytes, are written, given room
  pub list_is_written : (writing rows (max_of given.1.0) given.1.1.0).verdict ≡ fine → length list_bytes ≤ list_limit → length list_bytes ≤ length given.1.1.1.0.now
      → answer ≡ Ok (length list_bytes)
  unfolding write_answer
  list_is_written good short room = call.0 ∙ rw good (limited_fits list_limit (length list_bytes) (length given.1.1.1.0.now) short room)

-- any call that writes a path
module _ (κs : _) (given : _) (answer : _) (exit : _) (call : encode_as_path.Learnt κs given answer exit) where
  abbrev pairs : List ℕ
  pairs = given.0.now

  abbrev numbers : List ℕ
  numbers = given.1.0.now

  abbrev number_size : ℕ
  number_size = width_of given.1.1.0

  abbrev path_rule : Rule
  path_rule = rule_of given.1.1.1.0

  abbrev path_size : ℕ
  path_size = length (Paths.lent_bytes path_rule number_size pairs numbers)

  -- whole pairs whose counts use up the numbers, in segments that can be written, of up to 65,535 bytes, are written, given room
  pub path_is_written : adds_up pairs (length numbers) ≡ true → (lent_path path_rule number_size pairs numbers).verdict ≡ fine → path_size ≤ list_limit
      → path_size ≤ length given.1.1.1.1.0.now → answer ≡ Ok path_size
  unfolding Paths.encode_answer
  path_is_written whole good short room = call.0 ∙ rw (whole, good) (limited_fits list_limit path_size (length given.1.1.1.1.0.now) short room)
