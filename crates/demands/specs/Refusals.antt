-- Every call that is lent a store or an output, of the calls themselves: a refusal counts nothing and leaves what was lent as it was; after success
-- what lies past the counted places is as it was.
-- Assumes nothing.
use Prim.Native.Nat.{ℕ, ◌+◌, ◌*◌, ◌/◌, ◌%◌, ◌≤◌, ◌<◌}
use Rattle.std.specs.Prelude.{◌≡◌, false, take, drop, ltb, Result, Ok, Err}
use Rattle.std.proofs.Math.Path.{refl, ap}
use Rattle.std.proofs.Common.{sym, subst, ◌∙◌, arith, drop_of_length-le}
use mathlib.Core.List.{List, [], ◌∷◌}
use Rattle.std.proofs.Math.Decide.{dec_le}
use Rattle.std.proofs.Math.ListN.{length}
use Rattle.wire.specs.Answer.{Answer, given, refusal, value_in, filled, count_meaning}
use Rattle.wire.specs.Number.{to_be}
use Rattle.wire.specs.Refusal.{number_of}
use Rattle.wire.specs.Store.{laid, placed}
use Rattle.wire.specs.Walk.{Reading, flat}
use Rattle.wire.specs.declared.refusal.Refusal.{Refusal}
use Rattle.wire.proofs.ChoiceLaws.{pick_any, pick_unless}
use Rattle.wire.proofs.NumberLaws.{length_to_be}
use Rattle.wire.proofs.StoreLaws.{drop_laid_front, drop_laid_past, length_laid, placed_not}
use Rattle.outputs.proofs.put_u16.Reads as put_u16
use Rattle.outputs.proofs.put_u32.Reads as put_u32
use Rattle.outputs.proofs.put_octets.Reads as put_octets
use Rattle.copies.proofs.copy_at.Reads as copy_at
use Rattle.families.specs.Family.{max_of, mode_of}
use Rattle.families.specs.declared.Afi.TheVariants.{Ipv4, Ipv6}
use Rattle.families.specs.declared.AddPath.{AddPath}
use Rattle.families.specs.declared.Form.{Form}
use Rattle.routes.specs.List.{Reader, up_to, list_of, hosts_of, section_of}
use Rattle.routes.specs.Prefix.{words}
use Rattle.routes.specs.Promises.{count_answer, read_answer, store_after, with_hosts, read_list, routes_meaning, rows_in}
use Rattle.routes.specs.declared.Row.{Row}
use Rattle.routes.specs.declared.Routes.{Routes}
use Rattle.routes.specs.declared.Route.{Route}
use Rattle.routes.proofs.ListLaws.{Fair, fair, counted_places, read_places, store_by, told_list}
use Rattle.route_reader.specs.Pair.{first_meaning, second_meaning, read_pair, read_pair_first, read_pair_second}
use Rattle.route_reader.specs.declared.Sections.{Sections}
use Rattle.route_reader.proofs.PairLaws.{pair_counted}
use Rattle.route_reader.proofs.parse_nlri_list.Reads as parse_nlri_list
use Rattle.route_reader.proofs.read_nlri.Reads as read_nlri
use Rattle.route_reader.proofs.read_nlri_pair.Reads as read_nlri_pair
use Rattle.route_bytes.specs.Encode.{bytes_of}
use Rattle.route_marks.specs.Marks.{cleared}
use Rattle.route_marks.specs.Promises.{clear_answer, clear_after}
use Rattle.route_marks.proofs.ClearLaws.{cleared_length, clear_whole, clear_part}
use Rattle.route_marks.proofs.clear_guessed.Reads as clear_guessed
use Rattle.route_index.specs.Index.{index_by, route_by}
use Rattle.route_index.specs.Promises.{build_index, index_after}
use Rattle.route_index.proofs.OwnLaws.{built}
use Rattle.route_index.proofs.build_index.Reads as build_index_call
use Rattle.route_writer.specs.Pair.{lists_meaning, write_pair_end, write_pair_after}
use Rattle.route_writer.specs.declared.Lists.{Lists}
use Rattle.route_writer.specs.Promises.{filled_after, write_answer, out_after}
use Rattle.route_writer.proofs.PairLaws.{write_pair_fits}
use Rattle.route_writer.proofs.PromiseLaws.{after_written, written_bytes}
use Rattle.route_bytes.proofs.PromiseLaws.{measured_bytes}
use Rattle.route_writer.proofs.encode_nlri_after.Reads as encode_nlri_after
use Rattle.route_writer.proofs.encode_nlri_prefixes.Reads as encode_nlri_prefixes
use Rattle.route_writer.proofs.encode_nlri_pair.Reads as encode_nlri_pair
use Rattle.mp_nlri.specs.Value.{head_of, reach_bytes, unreach_bytes}
use Rattle.mp_nlri.specs.Read.{reach_meaning, reach_list, unreach_list, ipv6, rows_of, read_reach, reach_after, read_unreach}
use Rattle.mp_nlri.specs.Write.{route_bytes, write_reach, write_unreach}
use Rattle.mp_nlri.specs.declared.Reach.{Reach}
use Rattle.mp_nlri.proofs.MpTheorems.{answer_is, reach_is, unreach_is}
use Rattle.mp_nlri.proofs.WriteTheorems as Values
use Rattle.mp_nlri.proofs.parse_mp_reach_nlri.Reads as parse_mp_reach_nlri
use Rattle.mp_nlri.proofs.parse_mp_unreach_nlri.Reads as parse_mp_unreach_nlri
use Rattle.mp_nlri.proofs.encode_mp_reach_nlri.Reads as encode_mp_reach_nlri
use Rattle.mp_nlri.proofs.encode_mp_unreach_nlri.Reads as encode_mp_unreach_nlri
use Rattle.asns.specs.Asn.{width_of, fits_width, with_number}
use Rattle.asns.specs.Aggregator.{aggregator_meaning, aggregator_of, aggregator_bytes, aggregator_written, aggregator_left}
use Rattle.asns.specs.declared.AsnLength.{AsnLength}
use Rattle.asns.proofs.AggregatorLaws.{bytes_length}
use Rattle.asns.proofs.RoundTrip as Aggregators
use Rattle.asns.proofs.encode_aggregator.Reads as encode_aggregator
use Rattle.asns.proofs.put_number.Reads as put_number
use Rattle.paths.specs.Segment.{Segment, Rule, pair_of, asns_of}
use Rattle.paths.specs.Promises as Paths
use Rattle.paths.specs.Promises.{path_meaning, pairs_after, numbers_after}
use Rattle.paths.specs.declared.Path.{Path}
use Rattle.paths.proofs.PromiseLaws.{read_path, pairs_length}
use Rattle.paths.proofs.PromiseLaws.{asns_past}
use Rattle.paths.proofs.read_asns.Reads as read_asns
use Rattle.paths.proofs.parse_as_path.Reads as parse_as_path
use Rattle.as4.specs.Promises.{merge_answer, merged_pairs, merged_numbers}
use Rattle.as4.proofs.MergeStores.{as_read}
use Rattle.as4.proofs.merge_as_path.Reads as merge_as_path
use Rattle.path_writer.specs.Promises as Writer
use Rattle.path_writer.specs.Promises.{encode_answer, encode_left}
use Rattle.path_writer.proofs.PromiseLaws.{encode_written}
use Rattle.path_writer.proofs.encode_as_path.Reads as encode_as_path
use Rattle.messages.specs.Written.{message_bytes, write_message, message_after}
use Rattle.messages.proofs.WrittenLaws.{message_length_lem, out_by}
use Rattle.messages.proofs.encode_bgp_message.Reads as encode_bgp_message
use Rattle.updates.specs.Body.{withdrawn_of, announced_of}
use Rattle.updates.specs.Update.{withdrawn_meaning, announced_meaning, read_update, withdrawn_after, announced_after}
use Rattle.updates.specs.declared.Update.{Update}
use Rattle.updates.proofs.Sections.{counted_sections, read_is_count}
use Rattle.updates.proofs.parse_bgp_update_message.Reads as parse_bgp_update_message
use Rattle.update_writer.specs.Body.{body_bytes, body_answer}
use Rattle.update_writer.proofs.RoundTrip as Bodies
use Rattle.update_writer.proofs.encode_bgp_update_message.Reads as encode_bgp_update_message
use Rattle.words.specs.Settings.{family_of, form_of, asn_length_of}
use Rattle.words.specs.Word.{in_fields, word_of}
use Rattle.firmware.specs.Fields.{update_fields, reach_fields, cleared_fields, row_words, route_stored, route_words, aggregator_size, aggregator_stored, aggregator_words}
use Rattle.firmware.proofs.list.doorbramble_parse_nlri_list.Reads as c_parse_nlri_list
use Rattle.firmware.proofs.list.doorbramble_encode_nlri_prefixes.Reads as c_encode_nlri_prefixes
use Rattle.firmware.proofs.list.doorbramble_clear_guessed.Reads as c_clear_guessed
use Rattle.firmware.proofs.index.doorbramble_build_index.Reads as c_build_index
use Rattle.firmware.proofs.index.doorbramble_route_at.Reads as c_route_at
use Rattle.firmware.proofs.mp.doorbramble_parse_mp_reach_nlri.Reads as c_parse_mp_reach_nlri
use Rattle.firmware.proofs.mp.doorbramble_parse_mp_unreach_nlri.Reads as c_parse_mp_unreach_nlri
use Rattle.firmware.proofs.mp.doorbramble_encode_mp_reach_nlri.Reads as c_encode_mp_reach_nlri
use Rattle.firmware.proofs.mp.doorbramble_encode_mp_unreach_nlri.Reads as c_encode_mp_unreach_nlri
use Rattle.firmware.proofs.path.doorbramble_parse_as_path.Reads as c_parse_as_path
use Rattle.firmware.proofs.merge.doorbramble_merge_as_path.Reads as c_merge_as_path
use Rattle.firmware.proofs.path.doorbramble_encode_as_path.Reads as c_encode_as_path
use Rattle.firmware.proofs.path.doorbramble_parse_as_path_strict.Reads as c_parse_as_path_strict
use Rattle.firmware.proofs.path.doorbramble_encode_as_path_strict.Reads as c_encode_as_path_strict
use Rattle.firmware.proofs.aggregator.doorbramble_parse_aggregator.Reads as c_parse_aggregator
use Rattle.firmware.proofs.aggregator.doorbramble_encode_aggregator.Reads as c_encode_aggregator
use Rattle.firmware.proofs.message.doorbramble_encode_bgp_message.Reads as c_encode_bgp_message
use Rattle.firmware.proofs.update.doorbramble_parse_bgp_update_message.Reads as c_parse_bgp_update_message
use Rattle.firmware.proofs.update.doorbramble_encode_bgp_update_message.Reads as c_encode_bgp_update_message
use Rattle.demands.specs.Routes.{told}
use Rattle.demands.specs.MpNlri.{rows_told}

-- ---- what a call leaves of a lent list, by its answer as document 01 has it and the places that it counts

pub record Kept (answer : Answer) (counted : ℕ) (before after : List ℕ) : Type 0 where
  pub refused : (n : ℕ) → answer ≡ refusal n → (counted ≡ 0) × (after ≡ before)
  pub past : drop counted after ≡ drop counted before

-- places that hold values from the front on, as many as are counted
kept : (answer : Answer) (count : Answer → ℕ) (values before after : List ℕ) → ((n : ℕ) → count (refusal n) ≡ 0)
    → ((fields : List ℕ) → answer ≡ given fields → length values ≡ count answer) → after ≡ filled answer values before → Kept answer (count answer) before after
kept (given fields) count values before after none all e = record {
  refused = λ n f. (let z : ◌≡◌ {A = ℕ} 0 1 = cc in absurd (omega arith));
  past =
      ap (drop (count (given fields))) e
      ∙ ap (λ (k : ℕ). drop k (filled (given fields) values before)) (sym (all fields refl))
      ∙ drop_laid_front before values
      ∙ ap (λ (k : ℕ). drop k before) (all fields refl);
}
kept (refusal m) count values before after none all e = record { refused = λ n f. (none m, e); past = ap (drop (count (refusal m))) e }

-- a store that a refusal leaves
refusal_kept : (n : ℕ) (before after : List ℕ) → after ≡ before → Kept (refusal n) 0 before after
refusal_kept n before after e = record { refused = λ m f. (refl, e); past = e }

-- ---- readers into one store: six places a row

list_kept : (s : List ℕ) (r : Reading Row) (before after : List ℕ) (a : Result ℕ Refusal) → a ≡ read_answer s r (length before) → after ≡ store_after s r before
    → Kept (count_meaning a) (6 * value_in 0 (count_meaning a)) before after
list_kept s r before after a e f =
    kept (count_meaning a) (λ x. 6 * value_in 0 x) (flat words r.rows) before after (λ n. refl) (λ fields g. read_places s r (length before) a fields (sym e) g)
    (f ∙ store_by s r before a (sym e))

-- the same where the rows with a host bit are told too
with_hosts_kept : (z : Result Routes Refusal) (before after : List ℕ) → Kept (count_meaning (told z)) (6 * value_in 0 (count_meaning (told z))) before after
    → Kept (routes_meaning z) (6 * rows_in z) before after
with_hosts_kept (Ok n) before after k = record { refused = λ m f. (let z : ◌≡◌ {A = ℕ} 0 1 = cc in absurd (omega arith)); past = k.past }
with_hosts_kept (Err n) before after k = k

routes_kept : (s : List ℕ) (r : Reading Row) (hosts : ℕ) (before after : List ℕ) (z : Result Routes Refusal) → z ≡ with_hosts (read_answer s r (length before)) hosts → after ≡ store_after s r before
    → Kept (routes_meaning z) (6 * rows_in z) before after
routes_kept s r hosts before after z e f = with_hosts_kept z before after (list_kept s r before after (told z) (told_list (read_answer s r (length before)) hosts z e) f)

module _ (κs : _) (lent : _) (answer : _) (exit : _) where
  pub parse_nlri_list_kept : parse_nlri_list.Learnt κs lent answer exit → Kept (routes_meaning answer) (6 * rows_in answer) lent.1.1.1.0.now exit.1.1.1.0.now
  parse_nlri_list_kept call =
      let s = lent.0.now in
      let max = max_of lent.1.0 in
      let mode = lent.1.1.0 in
      routes_kept s (list_of s max mode) (hosts_of s max mode) _ _ answer call.0 call.1

module _ (κs : _) (lent : _) (answer : _) (exit : _) where
  pub read_nlri_kept : read_nlri.Learnt κs lent answer exit → Kept (routes_meaning answer) (6 * rows_in answer) lent.1.1.1.0.now exit.1.1.1.0.now
  read_nlri_kept call =
      let s = lent.0.now in
      let max = max_of lent.1.0 in
      let mode = lent.1.1.0 in
      routes_kept s (section_of s max mode) (hosts_of s max mode) _ _ answer call.0 call.1

-- ---- marks taken off: the rows that are counted are all of the store

cleared_kept : (before after : List ℕ) (a : Result ℕ Refusal) → a ≡ clear_answer (length before) → after ≡ clear_after before → Kept (count_meaning a) (6 * value_in 0 (count_meaning a)) before after
cleared_kept before after a e f =
    elim (dec_le (length before % 6) 0) [
      | yes whole ↦
          let c = clear_whole before (omega (arith, whole)) in
          let is : after ≡ cleared before = f ∙ sym c.1 in
          let size : length after ≡ length before = ap length is ∙ cleared_length 0 before in
          let counted : ℕ = 6 * (length before / 6) in
          let all : length before ≤ counted = omega (arith, whole) in
          let all_after : length after ≤ counted = omega (arith, all, size) in
          subst (λ (x : Result ℕ Refusal). Kept (count_meaning x) (6 * value_in 0 (count_meaning x)) before after) (c.0 ∙ sym e)
          (record {
            refused = λ n g. (let z : ◌≡◌ {A = ℕ} 0 1 = cc in absurd (omega arith));
            past = drop_of_length-le after all_after ∙ sym (drop_of_length-le before all);
          })
      | no part ↦
          let c = clear_part before (λ z. part (omega (arith, z))) in
          subst (λ (x : Result ℕ Refusal). Kept (count_meaning x) (6 * value_in 0 (count_meaning x)) before after) (c.0 ∙ sym e) (refusal_kept _ before after (f ∙ sym c.1))
    ]

module _ (κs : _) (lent : _) (answer : _) (exit : _) where
  pub clear_guessed_kept : clear_guessed.Learnt κs lent answer exit → Kept (count_meaning answer) (6 * value_in 0 (count_meaning answer)) lent.0.now exit.0.now
  clear_guessed_kept call = cleared_kept _ _ answer call.0 call.1

-- ---- an index: a place each

index_kept : (read : Reader) (s : List ℕ) (form : Form) (before after : List ℕ) (a : Result ℕ Refusal) → Fair read → a ≡ build_index read s form (length before) → after ≡ index_after read s form before
    → Kept (count_meaning a) (value_in 0 (count_meaning a)) before after
unfolding index_after
index_kept read s form before after a fair e f =
    kept (count_meaning a) (value_in 0) (index_by read s form) before after (λ n. refl) (by a e) (f ∙ ap (λ (x : Result ℕ Refusal). filled (count_meaning x) (index_by read s form) before) (sym e))
  where
    by : (x : Result ℕ Refusal) → x ≡ build_index read s form (length before) → (fields : List ℕ) → count_meaning x ≡ given fields → length (index_by read s form) ≡ value_in 0 (count_meaning x)
    by (Ok n) g fields h = (built read fair s form before n (sym g)).2
    by (Err n) g fields h = let z : ◌≡◌ {A = ℕ} 0 1 = cc in absurd (omega arith)

module _ (κs : _) (lent : _) (answer : _) (exit : _) where
  pub build_index_kept : build_index_call.Learnt κs lent answer exit → Kept (count_meaning answer) (value_in 0 (count_meaning answer)) lent.1.1.1.0.now exit.1.1.1.0.now
  build_index_kept call =
      index_kept (up_to (max_of lent.1.0)) lent.0.now lent.1.1.0 lent.1.1.1.0.now _ answer (fair (max_of lent.1.0)) call.0 call.1

-- ---- writers: a place a byte

write_kept : (a : Result ℕ Refusal) (bytes before after : List ℕ) → ((n : ℕ) → a ≡ Ok n → length bytes ≡ n) → after ≡ filled (count_meaning a) bytes before
    → Kept (count_meaning a) (value_in 0 (count_meaning a)) before after
write_kept (Ok n) bytes before after size e = kept (given (n ∷ [])) (value_in 0) bytes before after (λ m. refl) (λ fields f. size n refl) e
write_kept (Err n) bytes before after size e =
    kept (refusal (number_of n)) (value_in 0) bytes before after (λ m. refl) (λ fields f. let z : ◌≡◌ {A = ℕ} 0 1 = cc in absurd (omega arith)) e

-- a written list, path, AGGREGATOR, message and UPDATE body, by their definitions
list_written_lem : (rows : List ℕ) (max : ℕ) (form : Form) (before after : List ℕ) (a : Result ℕ Refusal) → a ≡ write_answer rows max form (length before) → after ≡ out_after rows max form before
    → Kept (count_meaning a) (value_in 0 (count_meaning a)) before after
unfolding out_after
list_written_lem rows max form before after a e f =
    write_kept a (bytes_of rows max form) before after (λ n g. (written_bytes rows max form before n (sym e ∙ g)).1)
    (f ∙ ap (λ (x : Result ℕ Refusal). filled (count_meaning x) (bytes_of rows max form) before) (sym e))

path_written_lem : (rule : Rule) (w : ℕ) (pairs numbers before after : List ℕ) (a : Result ℕ Refusal) → a ≡ encode_answer rule w pairs numbers (length before)
    → after ≡ encode_left rule w pairs numbers before → Kept (count_meaning a) (value_in 0 (count_meaning a)) before after
unfolding encode_left
path_written_lem rule w pairs numbers before after a e f =
    write_kept a (Writer.lent_bytes rule w pairs numbers) before after (λ n g. (encode_written rule w pairs numbers (length before) n (sym e ∙ g)).2)
    (f ∙ ap (λ (x : Result ℕ Refusal). filled (count_meaning x) (Writer.lent_bytes rule w pairs numbers) before) (sym e))

aggregator_written_lem : (asn identifier : ℕ) (width : AsnLength) (before after : List ℕ) (a : Result ℕ Refusal) → a ≡ aggregator_written asn identifier width (length before)
    → after ≡ aggregator_left asn identifier width before → Kept (count_meaning a) (value_in 0 (count_meaning a)) before after
unfolding aggregator_left
aggregator_written_lem asn identifier width before after a e f =
    write_kept a (aggregator_bytes width asn identifier) before after
    (λ n g. bytes_length asn identifier width ∙ sym (Aggregators.written_fits asn identifier width (length before) n (sym e ∙ g)).1)
    (f ∙ ap (λ (x : Result ℕ Refusal). filled (count_meaning x) (aggregator_bytes width asn identifier) before) (sym e))

message_written : (kind : ℕ) (body before after : List ℕ) (a : Result ℕ Refusal) → a ≡ write_message kind body (length before) → after ≡ message_after kind body before
    → Kept (count_meaning a) (value_in 0 (count_meaning a)) before after
message_written kind body before after a e f =
    write_kept a (message_bytes kind body) before after (λ n g. message_length_lem kind body (length before) n (sym e ∙ g)) (f ∙ out_by kind body before a (sym e))

update_written : (withdrawn attributes announced : List ℕ) (form : Form) (before after : List ℕ) (a : Result ℕ Refusal) → a ≡ body_answer withdrawn attributes announced form (length before)
    → after ≡ filled (count_meaning a) (body_bytes withdrawn attributes announced form) before → Kept (count_meaning a) (value_in 0 (count_meaning a)) before after
update_written withdrawn attributes announced form before after a e f =
    write_kept a (body_bytes withdrawn attributes announced form) before after
    (λ n g. Bodies.written_size withdrawn attributes announced form (length before) n (sym e ∙ g)) f

module _ (κs : _) (lent : _) (answer : _) (exit : _) where
  pub encode_nlri_prefixes_kept : encode_nlri_prefixes.Learnt κs lent answer exit
      → Kept (count_meaning answer) (value_in 0 (count_meaning answer)) lent.1.1.1.0.now exit.1.1.1.0.now
  encode_nlri_prefixes_kept call = list_written_lem _ _ _ _ _ answer call.0 call.1

module _ (κs : _) (lent : _) (answer : _) (exit : _) where
  pub encode_as_path_kept : encode_as_path.Learnt κs lent answer exit
      → Kept (count_meaning answer) (value_in 0 (count_meaning answer)) lent.1.1.1.1.0.now exit.1.1.1.1.0.now
  encode_as_path_kept call = path_written_lem _ _ _ _ _ _ answer call.0 call.1

module _ (κs : _) (lent : _) (answer : _) (exit : _) where
  pub encode_aggregator_kept : encode_aggregator.Learnt κs lent answer exit
      → Kept (count_meaning answer) (value_in 0 (count_meaning answer)) lent.1.1.1.0.now exit.1.1.1.0.now
  encode_aggregator_kept call = aggregator_written_lem _ _ _ _ _ answer call.0 call.1

module _ (κs : _) (lent : _) (answer : _) (exit : _) where
  pub encode_bgp_message_kept : encode_bgp_message.Learnt κs lent answer exit
      → Kept (count_meaning answer) (value_in 0 (count_meaning answer)) lent.1.1.0.now exit.1.1.0.now
  encode_bgp_message_kept call = message_written _ _ _ _ answer call.0 call.1

module _ (κs : _) (lent : _) (answer : _) (exit : _) where
  pub encode_bgp_update_message_kept : encode_bgp_update_message.Learnt κs lent answer exit
      → Kept (count_meaning answer) (value_in 0 (count_meaning answer)) lent.1.1.1.1.0.now exit.1.1.1.1.0.now
  encode_bgp_update_message_kept call = update_written _ _ _ _ _ _ answer call.0 call.1

-- two lists with room before and between them: nothing is written by a refusal, and nothing past the second list
module _ (κs : _) (lent : _) (answer : _) (exit : _) (call : encode_nlri_pair.Learnt κs lent answer exit) where
  abbrev start : ℕ
  start = lent.1.1.1.1.0

  abbrev between : ℕ
  between = lent.1.1.1.1.1.0

  abbrev first_bytes : List ℕ
  first_bytes = bytes_of lent.0.now (max_of lent.1.1.0) lent.1.1.1.0

  abbrev second_bytes : List ℕ
  second_bytes = bytes_of lent.1.0.now (max_of lent.1.1.0) lent.1.1.1.0

  abbrev out : List ℕ
  out = lent.1.1.1.1.1.1.1.0.now

  abbrev out_at_exit : List ℕ
  out_at_exit = exit.1.1.1.1.1.1.1.0.now

  pub encode_nlri_pair_refused : (n : ℕ) → lists_meaning answer ≡ refusal n → out_at_exit ≡ out
  encode_nlri_pair_refused n e = call.1 ∙ ap (λ (x : Answer). write_pair_after x start between first_bytes second_bytes out) e

  pub encode_nlri_pair_past : (sizes : Lists) → answer ≡ Ok sizes
      → drop (write_pair_end start between sizes.first sizes.second) out_at_exit ≡ drop (write_pair_end start between sizes.first sizes.second) out
  encode_nlri_pair_past sizes e =
      let a : ℕ = sizes.first in
      let b : ℕ = sizes.second in
      let fits = write_pair_fits start between _ (length out) sizes _ _ _ _ (sym call.0 ∙ e) in
      let m : length first_bytes ≡ a = (measured_bytes _ _ _ a fits.first).1 in
      let n : length second_bytes ≡ b = (measured_bytes _ _ _ b fits.second).1 in
      let end : ℕ = write_pair_end start between a b in
      let room : end ≤ length out = fits.room in
      ap (drop end) (call.1 ∙ ap (λ (x : Result Lists Refusal). write_pair_after (lists_meaning x) start between first_bytes second_bytes out) e)
      ∙ drop_laid_past (laid out start first_bytes) (start + a + between) second_bytes end (omega arith) (omega (arith, length_laid out start first_bytes (omega arith)))
      ∙ drop_laid_past out start first_bytes end (omega arith) (omega arith)

-- a list at the end of a value: the same, with what stands before it counted
module _ (κs : _) (lent : _) (answer : _) (exit : _) (call : encode_nlri_after.Learnt κs lent answer exit) where
  abbrev value_out : List ℕ
  value_out = lent.1.1.1.1.0.now

  abbrev list_bytes : List ℕ
  list_bytes = bytes_of lent.1.0.now (max_of lent.1.1.0) lent.1.1.1.0

  pub encode_nlri_after_refused : (why : Refusal) → answer ≡ Err why → exit.1.1.1.1.0.now ≡ value_out
  encode_nlri_after_refused why e = call.1 ∙ ap (λ (x : Result ℕ Refusal). filled_after (count_meaning x) lent.0 list_bytes value_out) e

  pub encode_nlri_after_past : (n : ℕ) → answer ≡ Ok n → drop n exit.1.1.1.1.0.now ≡ drop n value_out
  encode_nlri_after_past n e =
      let w = after_written lent.0 lent.1.0.now (max_of lent.1.1.0) lent.1.1.1.0 (length value_out) n (sym call.0 ∙ e) in
      ap (drop n) (call.1 ∙ ap (λ (x : Result ℕ Refusal). filled_after (count_meaning x) lent.0 list_bytes value_out) e)
      ∙ drop_laid_past value_out lent.0 list_bytes n (omega (arith, w.1)) (omega (arith, w.1, w.3))

-- ---- MP_REACH_NLRI and MP_UNREACH_NLRI

-- the words of rows that were read
rows_read : (l : List ℕ) (mode : AddPath) (places rows hosts : ℕ) → read_list ipv6 l mode places ≡ rows_told rows hosts → length (flat words (rows_of l mode)) ≡ 6 * rows
rows_read l mode places rows hosts e =
    let r : Reading Row = list_of l (max_of Ipv6) mode in
    read_places l r places (Ok rows) (rows ∷ []) (answer_is (read_answer l r places) _ rows hosts e).0 refl

module _ (v : List ℕ) (mode : AddPath) (before after : List ℕ) where
  reach_kept : (a : Result Reach Refusal) → a ≡ read_reach v mode (length before) → after ≡ reach_after a v mode before → Kept (reach_meaning a) (6 * value_in 2 (reach_meaning a)) before after
  unfolding read_reach
  reach_kept (Ok reach) e f =
      kept (reach_meaning (Ok reach)) (λ x. 6 * value_in 2 x) (flat words (rows_of (reach_list v) mode)) before after (λ n. refl)
      (λ _ _. rows_read (reach_list v) mode (length before) reach.rows reach.hosts (reach_is reach.next_hop reach.reserved reach.rows reach.hosts (head_of v) _ (sym e)).1) f
  reach_kept (Err n) e f = refusal_kept (number_of n) before after f

  unreach_kept : (a : Result Routes Refusal) → a ≡ read_unreach v mode (length before)
      → after ≡ filled (routes_meaning a) (flat words (rows_of (unreach_list v) mode)) before → Kept (routes_meaning a) (6 * rows_in a) before after
  unfolding read_unreach
  unreach_kept (Ok routes) e f =
      kept (routes_meaning (Ok routes)) (λ x. 6 * value_in 0 x) (flat words (rows_of (unreach_list v) mode)) before after (λ _. refl)
      (λ _ _. rows_read (unreach_list v) mode (length before) routes.rows routes.hosts (unreach_is v _ routes.rows routes.hosts (sym e)).1) f
  unreach_kept (Err n) e f = refusal_kept (number_of n) before after f

module _ (κs : _) (lent : _) (answer : _) (exit : _) where
  pub parse_mp_reach_nlri_kept : parse_mp_reach_nlri.Learnt κs lent answer exit → Kept (reach_meaning answer) (6 * value_in 2 (reach_meaning answer)) lent.1.1.0.now exit.1.1.0.now
  parse_mp_reach_nlri_kept call = reach_kept _ _ _ _ answer call.0 call.1

module _ (κs : _) (lent : _) (answer : _) (exit : _) where
  pub parse_mp_unreach_nlri_kept : parse_mp_unreach_nlri.Learnt κs lent answer exit → Kept (routes_meaning answer) (6 * rows_in answer) lent.1.1.0.now exit.1.1.0.now
  parse_mp_unreach_nlri_kept call = unreach_kept _ _ _ _ answer call.0 call.1

reach_written_lem : (hop rows : List ℕ) (form : Form) (before after : List ℕ) (a : Result ℕ Refusal) → a ≡ write_reach (length hop) rows form (length before)
    → after ≡ filled (count_meaning a) (reach_bytes hop (route_bytes rows form)) before → Kept (count_meaning a) (value_in 0 (count_meaning a)) before after
reach_written_lem hop rows form before after a e f =
    write_kept a (reach_bytes hop (route_bytes rows form)) before after (λ n g. (Values.reach_wrote hop rows form (length before) n (sym e ∙ g)).2) f

unreach_written_lem : (rows : List ℕ) (form : Form) (before after : List ℕ) (a : Result ℕ Refusal) → a ≡ write_unreach rows form (length before)
    → after ≡ filled (count_meaning a) (unreach_bytes (route_bytes rows form)) before → Kept (count_meaning a) (value_in 0 (count_meaning a)) before after
unreach_written_lem rows form before after a e f =
    write_kept a (unreach_bytes (route_bytes rows form)) before after (λ n g. (Values.unreach_wrote rows form (length before) n (sym e ∙ g)).1) f

module _ (κs : _) (lent : _) (answer : _) (exit : _) where
  pub encode_mp_reach_nlri_kept : encode_mp_reach_nlri.Learnt κs lent answer exit
      → Kept (count_meaning answer) (value_in 0 (count_meaning answer)) lent.1.1.1.0.now exit.1.1.1.0.now
  encode_mp_reach_nlri_kept call = reach_written_lem _ _ _ _ _ answer call.0 call.1

module _ (κs : _) (lent : _) (answer : _) (exit : _) where
  pub encode_mp_unreach_nlri_kept : encode_mp_unreach_nlri.Learnt κs lent answer exit
      → Kept (count_meaning answer) (value_in 0 (count_meaning answer)) lent.1.1.0.now exit.1.1.0.now
  encode_mp_unreach_nlri_kept call = unreach_written_lem _ _ _ _ answer call.0 call.1

-- ---- readers into two stores

-- a path in its stores, by its definitions: two places a segment, and a place a number
path_lengths : (value : List ℕ) (path : Reading Segment) (places places' : ℕ) (a : Result Path Refusal) (fields : List ℕ) → Paths.read_answer value path places places' ≡ a → path_meaning a ≡ given fields
    → (length (flat pair_of path.rows) ≡ 2 * value_in 0 (path_meaning a)) × (length (flat asns_of path.rows) ≡ value_in 1 (path_meaning a))
path_lengths value path places places' (Ok p) fields e f =
    let h = read_path value path p places places' e in
    (pairs_length path.rows ∙ ap (λ (x : Path). 2 * x.segments) h.2, ap (λ (x : Path). x.numbers) h.2)
path_lengths value path places places' (Err m) fields e f = let z : ◌≡◌ {A = ℕ} 0 1 = cc in absurd (omega arith)

module _ (value : List ℕ) (path : Reading Segment) (pairs numbers : List ℕ) (a : Result Path Refusal) (e : a ≡ Paths.read_answer value path (length pairs) (length numbers)) (after : List ℕ) where
  pairs_kept : after ≡ pairs_after value path pairs (length numbers) → Kept (path_meaning a) (2 * value_in 0 (path_meaning a)) pairs after
  unfolding pairs_after
  pairs_kept f =
      kept (path_meaning a) (λ x. 2 * value_in 0 x) (flat pair_of path.rows) pairs after (λ n. refl)
      (λ fields g. (path_lengths value path (length pairs) (length numbers) a fields (sym e) g).0)
      (f ∙ ap (λ (x : Result Path Refusal). filled (path_meaning x) (flat pair_of path.rows) pairs) (sym e))

  numbers_kept : after ≡ numbers_after value path (length pairs) numbers → Kept (path_meaning a) (value_in 1 (path_meaning a)) numbers after
  unfolding numbers_after
  numbers_kept f =
      kept (path_meaning a) (value_in 1) (flat asns_of path.rows) numbers after (λ n. refl)
      (λ fields g. (path_lengths value path (length pairs) (length numbers) a fields (sym e) g).1)
      (f ∙ ap (λ (x : Result Path Refusal). filled (path_meaning x) (flat asns_of path.rows) numbers) (sym e))

module _ (κs : _) (lent : _) (answer : _) (exit : _) (call : parse_as_path.Learnt κs lent answer exit) where
  pub parse_as_path_pairs_kept : Kept (path_meaning answer) (2 * value_in 0 (path_meaning answer)) lent.1.1.1.0.now exit.1.1.1.0.now
  parse_as_path_pairs_kept = pairs_kept _ _ lent.1.1.1.0.now lent.1.1.1.1.0.now answer call.0 _ call.1.0

  pub parse_as_path_numbers_kept : Kept (path_meaning answer) (value_in 1 (path_meaning answer)) lent.1.1.1.1.0.now exit.1.1.1.1.0.now
  parse_as_path_numbers_kept = numbers_kept _ _ lent.1.1.1.0.now lent.1.1.1.1.0.now answer call.0 _ call.1.1

-- a path that is merged, in its stores
module _ (r : Reading Segment) (pairs numbers : List ℕ) (a : Result Path Refusal) (e : a ≡ merge_answer r (length pairs) (length numbers)) (after : List ℕ) where
  merged_pairs_kept : after ≡ merged_pairs r pairs (length numbers) → Kept (path_meaning a) (2 * value_in 0 (path_meaning a)) pairs after
  merged_pairs_kept f = let alike = as_read r pairs numbers in pairs_kept [] r pairs numbers a (e ∙ alike.0) after (f ∙ alike.1.0)

  merged_numbers_kept : after ≡ merged_numbers r (length pairs) numbers → Kept (path_meaning a) (value_in 1 (path_meaning a)) numbers after
  merged_numbers_kept f = let alike = as_read r pairs numbers in numbers_kept [] r pairs numbers a (e ∙ alike.0) after (f ∙ alike.1.1)

module _ (κs : _) (lent : _) (answer : _) (exit : _) (call : merge_as_path.Learnt κs lent answer exit) where
  pub merge_as_path_pairs_kept : Kept (path_meaning answer) (2 * value_in 0 (path_meaning answer)) lent.1.1.1.1.0.now exit.1.1.1.1.0.now
  merge_as_path_pairs_kept = merged_pairs_kept _ lent.1.1.1.1.0.now lent.1.1.1.1.1.0.now answer call.0 _ call.1.0

  pub merge_as_path_numbers_kept : Kept (path_meaning answer) (value_in 1 (path_meaning answer)) lent.1.1.1.1.1.0.now exit.1.1.1.1.1.0.now
  merge_as_path_numbers_kept = merged_numbers_kept _ lent.1.1.1.1.0.now lent.1.1.1.1.1.0.now answer call.0 _ call.1.1

-- the numbers at the front of a segment, in a store: it is as long as it was, and as it was past them
module _ (κs : _) (lent : _) (answer : _) (exit : _) (call : read_asns.Learnt κs lent answer exit) where
  pub read_asns_past : drop lent.1.0 exit.1.1.1.0.now ≡ drop lent.1.0 lent.1.1.1.0.now
  read_asns_past = ap (drop lent.1.0) call ∙ asns_past (width_of lent.1.1.0) lent.0.now lent.1.0 lent.1.1.1.0.now

-- a section that was counted, in a store
section_kept : (s : List ℕ) (r : Reading Row) (a : Result Routes Refusal) (before after : List ℕ) → count_answer s r ≡ told a → after ≡ filled (count_meaning (told a)) (flat words r.rows) before
    → Kept (count_meaning (told a)) (6 * value_in 0 (count_meaning (told a))) before after
section_kept s r (Ok a) before after e f =
    kept (count_meaning (Ok a.rows)) (λ x. 6 * value_in 0 x) (flat words r.rows) before after (λ n. refl) (λ fields g. counted_places s r (Ok a.rows) fields e g) f
section_kept s r (Err why) before after e f = refusal_kept (number_of why) before after f

-- the sections of an UPDATE in their stores, by its definitions
module _ (body : List ℕ) (mode : AddPath) (places places' : ℕ) (before after : List ℕ) where
  withdrawn_kept : (u : Result Update Refusal) → u ≡ read_update body mode places places' → after ≡ withdrawn_after u body mode before
      → Kept (withdrawn_meaning u) (6 * value_in 0 (withdrawn_meaning u)) before after
  withdrawn_kept (Ok u) e f =
      section_kept (withdrawn_of body) (section_of (withdrawn_of body) (max_of Ipv4) mode) u.withdrawn before after
      (sym (told_list _ (hosts_of (withdrawn_of body) (max_of Ipv4) mode) u.withdrawn (sym (counted_sections body mode u (read_is_count body mode places places' u (sym e))).0))) f
  withdrawn_kept (Err n) e f = refusal_kept (number_of n) before after f

  announced_kept : (u : Result Update Refusal) → u ≡ read_update body mode places places' → after ≡ announced_after u body mode before
      → Kept (announced_meaning u) (6 * value_in 0 (announced_meaning u)) before after
  announced_kept (Ok u) e f =
      section_kept (announced_of body) (section_of (announced_of body) (max_of Ipv4) mode) u.announced before after
      (sym (told_list _ (hosts_of (announced_of body) (max_of Ipv4) mode) u.announced (sym (counted_sections body mode u (read_is_count body mode places places' u (sym e))).1))) f
  announced_kept (Err n) e f = refusal_kept (number_of n) before after f

-- each section by itself: a malformed one leaves its own store as it was, and a refusal of the UPDATE both
module _ (κs : _) (lent : _) (answer : _) (exit : _) (call : parse_bgp_update_message.Learnt κs lent answer exit) where
  pub update_withdrawn_kept : Kept (withdrawn_meaning answer) (6 * value_in 0 (withdrawn_meaning answer)) lent.1.1.0.now exit.1.1.0.now
  update_withdrawn_kept = withdrawn_kept _ _ _ _ _ _ answer call.0 call.1.0

  pub update_announced_kept : Kept (announced_meaning answer) (6 * value_in 0 (announced_meaning answer)) lent.1.1.1.0.now exit.1.1.1.0.now
  update_announced_kept = announced_kept _ _ _ _ _ _ answer call.0 call.1.1

-- the same of two sections of any bytes and family
module _ (s t : List ℕ) (max : ℕ) (mode : AddPath) (places places' : ℕ) (before after : List ℕ) where
  first_kept : (p : Result Sections Refusal) → p ≡ read_pair s t max mode places places' → after ≡ read_pair_first p (section_of s max mode) before
      → Kept (first_meaning p) (6 * value_in 0 (first_meaning p)) before after
  unfolding read_pair
  first_kept (Ok p) e f =
      section_kept s (section_of s max mode) p.first before after (sym (told_list _ (hosts_of s max mode) p.first (sym (pair_counted _ _ places places' p (sym e)).0))) f
  first_kept (Err n) e f = refusal_kept (number_of n) before after f

  second_kept : (p : Result Sections Refusal) → p ≡ read_pair s t max mode places places' → after ≡ read_pair_second p (section_of t max mode) before
      → Kept (second_meaning p) (6 * value_in 0 (second_meaning p)) before after
  unfolding read_pair
  second_kept (Ok p) e f =
      section_kept t (section_of t max mode) p.second before after (sym (told_list _ (hosts_of t max mode) p.second (sym (pair_counted _ _ places places' p (sym e)).1))) f
  second_kept (Err n) e f = refusal_kept (number_of n) before after f

module _ (κs : _) (lent : _) (answer : _) (exit : _) (call : read_nlri_pair.Learnt κs lent answer exit) where
  pub read_nlri_pair_first_kept : Kept (first_meaning answer) (6 * value_in 0 (first_meaning answer)) lent.1.1.1.1.0.now exit.1.1.1.1.0.now
  read_nlri_pair_first_kept = first_kept _ _ _ _ _ _ _ _ answer call.0 call.1.0

  pub read_nlri_pair_second_kept : Kept (second_meaning answer) (6 * value_in 0 (second_meaning answer)) lent.1.1.1.1.1.0.now exit.1.1.1.1.1.0.now
  read_nlri_pair_second_kept = second_kept _ _ _ _ _ _ _ _ answer call.0 call.1.1

-- ---- the calls for C: the word is that of an answer of document 01, and what was lent is kept by that answer

pub record WordKept (word : ℕ) (counted : Answer → ℕ) (before after : List ℕ) : Type 0 where
  pub answer : Answer
  pub is : word ≡ word_of (in_fields answer)
  pub keeps : Kept answer (counted answer) before after

word_kept : (word : ℕ) (a : Answer) (counted : Answer → ℕ) (before after : List ℕ) → word ≡ word_of (in_fields a) → Kept a (counted a) before after → WordKept word counted before after
word_kept word a counted before after e k = record { answer = a; is = e; keeps = k }

module _ (κs : _) (lent : _) (word : _) (exit : _) where
  pub c_parse_nlri_list_kept : c_parse_nlri_list.Learnt κs lent word exit → WordKept word (λ a. 6 * value_in 0 a) lent.1.1.1.0.now exit.1.1.1.0.now
  c_parse_nlri_list_kept call = word_kept word _ (λ a. 6 * value_in 0 a) _ _ call.0 (routes_kept _ _ _ _ _ _ refl call.1)

module _ (κs : _) (lent : _) (word : _) (exit : _) where
  pub c_encode_nlri_prefixes_kept : c_encode_nlri_prefixes.Learnt κs lent word exit → WordKept word (value_in 0) lent.1.1.1.0.now exit.1.1.1.0.now
  c_encode_nlri_prefixes_kept call = word_kept word _ (value_in 0) _ _ call.0 (list_written_lem _ _ _ _ _ _ refl call.1)

module _ (κs : _) (lent : _) (word : _) (exit : _) (call : c_parse_as_path.Learnt κs lent word exit) where
  pub c_parse_as_path_pairs_kept : WordKept word (λ a. 2 * value_in 0 a) lent.1.1.0.now exit.1.1.0.now
  c_parse_as_path_pairs_kept = word_kept word _ (λ a. 2 * value_in 0 a) _ _ call.0 (pairs_kept _ _ lent.1.1.0.now lent.1.1.1.0.now _ refl _ call.1.0)

  pub c_parse_as_path_numbers_kept : WordKept word (value_in 1) lent.1.1.1.0.now exit.1.1.1.0.now
  c_parse_as_path_numbers_kept = word_kept word _ (value_in 1) _ _ call.0 (numbers_kept _ _ lent.1.1.0.now lent.1.1.1.0.now _ refl _ call.1.1)

module _ (κs : _) (lent : _) (word : _) (exit : _) (call : c_merge_as_path.Learnt κs lent word exit) where
  pub c_merge_as_path_pairs_kept : WordKept word (λ a. 2 * value_in 0 a) lent.1.1.1.1.0.now exit.1.1.1.1.0.now
  c_merge_as_path_pairs_kept =
      word_kept word _ (λ a. 2 * value_in 0 a) _ _ call.0 (merged_pairs_kept _ lent.1.1.1.1.0.now lent.1.1.1.1.1.0.now _ refl _ call.1.0)

  pub c_merge_as_path_numbers_kept : WordKept word (value_in 1) lent.1.1.1.1.1.0.now exit.1.1.1.1.1.0.now
  c_merge_as_path_numbers_kept =
      word_kept word _ (value_in 1) _ _ call.0 (merged_numbers_kept _ lent.1.1.1.1.0.now lent.1.1.1.1.1.0.now _ refl _ call.1.1)

module _ (κs : _) (lent : _) (word : _) (exit : _) where
  pub c_encode_as_path_kept : c_encode_as_path.Learnt κs lent word exit → WordKept word (value_in 0) lent.1.1.1.0.now exit.1.1.1.0.now
  c_encode_as_path_kept call = word_kept word _ (value_in 0) _ _ call.0 (path_written_lem _ _ _ _ _ _ _ refl call.1)

-- the strict ones
module _ (κs : _) (lent : _) (word : _) (exit : _) (call : c_parse_as_path_strict.Learnt κs lent word exit) where
  pub c_parse_as_path_strict_pairs_kept : WordKept word (λ a. 2 * value_in 0 a) lent.1.1.0.now exit.1.1.0.now
  c_parse_as_path_strict_pairs_kept = word_kept word _ (λ a. 2 * value_in 0 a) _ _ call.0 (pairs_kept _ _ lent.1.1.0.now lent.1.1.1.0.now _ refl _ call.1.0)

  pub c_parse_as_path_strict_numbers_kept : WordKept word (value_in 1) lent.1.1.1.0.now exit.1.1.1.0.now
  c_parse_as_path_strict_numbers_kept = word_kept word _ (value_in 1) _ _ call.0 (numbers_kept _ _ lent.1.1.0.now lent.1.1.1.0.now _ refl _ call.1.1)

module _ (κs : _) (lent : _) (word : _) (exit : _) where
  pub c_encode_as_path_strict_kept : c_encode_as_path_strict.Learnt κs lent word exit → WordKept word (value_in 0) lent.1.1.1.0.now exit.1.1.1.0.now
  c_encode_as_path_strict_kept call = word_kept word _ (value_in 0) _ _ call.0 (path_written_lem _ _ _ _ _ _ _ refl call.1)

module _ (κs : _) (lent : _) (word : _) (exit : _) where
  pub c_encode_aggregator_kept : c_encode_aggregator.Learnt κs lent word exit → WordKept word (value_in 0) lent.1.1.1.0.now exit.1.1.1.0.now
  c_encode_aggregator_kept call = word_kept word _ (value_in 0) _ _ call.0 (aggregator_written_lem _ _ _ _ _ _ refl call.1)

-- an AGGREGATOR read is two words
aggregator_stored_lem : (m : Answer) (before after : List ℕ) → after ≡ filled (aggregator_stored m (length before)) (aggregator_words m) before
    → Kept (aggregator_stored m (length before)) (value_in 0 (aggregator_stored m (length before))) before after
aggregator_stored_lem m before after e =
    kept (aggregator_stored m (length before)) (value_in 0) (aggregator_words m) before after (λ n. refl) (two m (length before)) e
  where
    two : (x : Answer) (places : ℕ) (fields : List ℕ) → aggregator_stored x places ≡ given fields → 2 ≡ value_in 0 (aggregator_stored x places)
    two (given values) places fields =
        pick_unless (λ (a : Answer). a ≡ given fields → 2 ≡ value_in 0 a) (ltb places aggregator_size) _ _
        (λ f. let z : ◌≡◌ {A = ℕ} 0 1 = cc in absurd (omega arith)) (λ _ f. refl)
    two (refusal n) places fields = λ f. let z : ◌≡◌ {A = ℕ} 0 1 = cc in absurd (omega arith)

module _ (κs : _) (lent : _) (word : _) (exit : _) where
  pub c_parse_aggregator_kept : c_parse_aggregator.Learnt κs lent word exit → WordKept word (value_in 0) lent.1.1.0.now exit.1.1.0.now
  c_parse_aggregator_kept call = word_kept word _ (value_in 0) _ _ call.0 (aggregator_stored_lem (aggregator_meaning (aggregator_of lent.0.now (asn_length_of lent.1.0))) lent.1.1.0.now _ call.1)

module _ (κs : _) (lent : _) (word : _) (exit : _) where
  pub c_encode_bgp_message_kept : c_encode_bgp_message.Learnt κs lent word exit → WordKept word (value_in 0) lent.1.1.0.now exit.1.1.0.now
  c_encode_bgp_message_kept call = word_kept word _ (value_in 0) _ _ call.0 (message_written _ _ _ _ _ refl call.1)

module _ (κs : _) (lent : _) (word : _) (exit : _) where
  pub c_encode_bgp_update_message_kept : c_encode_bgp_update_message.Learnt κs lent word exit → WordKept word (value_in 0) lent.1.1.1.1.0.now exit.1.1.1.1.0.now
  c_encode_bgp_update_message_kept call = word_kept word _ (value_in 0) _ _ call.0 (update_written _ _ _ _ _ _ _ refl call.1)

-- an UPDATE's word is that of an answer, and each store is kept by the answer of its section
module _ (κs : _) (lent : _) (word : _) (exit : _) (call : c_parse_bgp_update_message.Learnt κs lent word exit) where
  pub c_update_kept : (u : Result Update Refusal) × (word ≡ word_of (update_fields u))
      × Kept (withdrawn_meaning u) (6 * value_in 0 (withdrawn_meaning u)) lent.1.1.0.now exit.1.1.0.now
      × Kept (announced_meaning u) (6 * value_in 0 (announced_meaning u)) lent.1.1.1.0.now exit.1.1.1.0.now
  c_update_kept =
      let u : Result Update Refusal = read_update lent.0.now (mode_of lent.1.0) (length lent.1.1.0.now) (length lent.1.1.1.0.now) in
      (u, call.0, withdrawn_kept _ _ _ _ _ _ _ refl call.1.0, announced_kept _ _ _ _ _ _ _ refl call.1.1)

-- MP_REACH_NLRI's word is that of an answer too, which keeps the store
module _ (κs : _) (lent : _) (word : _) (exit : _) (call : c_parse_mp_reach_nlri.Learnt κs lent word exit) where
  pub c_reach_kept : (a : Result Reach Refusal) × (word ≡ word_of (reach_fields a)) × Kept (reach_meaning a) (6 * value_in 2 (reach_meaning a)) lent.1.1.0.now exit.1.1.0.now
  c_reach_kept = (read_reach lent.0.now (mode_of lent.1.0) (length lent.1.1.0.now), call.0, reach_kept _ _ _ _ _ refl call.1)

module _ (κs : _) (lent : _) (word : _) (exit : _) where
  pub c_parse_mp_unreach_nlri_kept : c_parse_mp_unreach_nlri.Learnt κs lent word exit → WordKept word (λ a. 6 * value_in 0 a) lent.1.1.0.now exit.1.1.0.now
  c_parse_mp_unreach_nlri_kept call = word_kept word _ (λ a. 6 * value_in 0 a) _ _ call.0 (unreach_kept _ _ _ _ _ refl call.1)

module _ (κs : _) (lent : _) (word : _) (exit : _) where
  pub c_encode_mp_reach_nlri_kept : c_encode_mp_reach_nlri.Learnt κs lent word exit → WordKept word (value_in 0) lent.1.1.1.0.now exit.1.1.1.0.now
  c_encode_mp_reach_nlri_kept call = word_kept word _ (value_in 0) _ _ call.0 (reach_written_lem lent.0.now _ _ _ _ _ refl call.1)

module _ (κs : _) (lent : _) (word : _) (exit : _) where
  pub c_encode_mp_unreach_nlri_kept : c_encode_mp_unreach_nlri.Learnt κs lent word exit → WordKept word (value_in 0) lent.1.1.0.now exit.1.1.0.now
  c_encode_mp_unreach_nlri_kept call = word_kept word _ (value_in 0) _ _ call.0 (unreach_written_lem _ _ _ _ _ refl call.1)

-- an index, and the row of a route found by one: six places
module _ (κs : _) (lent : _) (word : _) (exit : _) where
  pub c_build_index_kept : c_build_index.Learnt κs lent word exit → WordKept word (value_in 0) lent.1.1.1.0.now exit.1.1.1.0.now
  c_build_index_kept call =
      let read : Reader = up_to (max_of (family_of lent.1.0)) in
      word_kept word _ (value_in 0) _ _ call.0 (index_kept read lent.0.now (form_of lent.1.1.0) lent.1.1.1.0.now _ _ (fair (max_of (family_of lent.1.0))) refl call.1)

-- the places of a row
abbrev pub row_places : Answer → ℕ
row_places (given values) = row_words
row_places (refusal n) = 0

route_stored_lem : (a : Result Route Refusal) (before after : List ℕ) → after ≡ filled (route_stored a (length before)) (route_words a) before
    → Kept (route_stored a (length before)) (row_places (route_stored a (length before))) before after
route_stored_lem a before after e = kept (route_stored a (length before)) row_places (route_words a) before after (λ n. refl) (by a) e
  where
    by : (x : Result Route Refusal) (fields : List ℕ) → route_stored x (length before) ≡ given fields → length (route_words x) ≡ row_places (route_stored x (length before))
    by (Ok found) fields f = sym (ap row_places f)
    by (Err why) fields f = let z : ◌≡◌ {A = ℕ} 0 1 = cc in absurd (omega arith)

module _ (κs : _) (lent : _) (word : _) (exit : _) where
  pub c_route_at_kept : c_route_at.Learnt κs lent word exit → WordKept word row_places lent.1.1.1.1.1.0.now exit.1.1.1.1.1.0.now
  c_route_at_kept call =
      let a : Result Route Refusal = route_by (up_to (max_of (family_of lent.1.1.1.0))) (form_of lent.1.1.1.1.0) lent.0.now lent.1.0.now lent.1.1.0 in
      word_kept word _ row_places _ _ call.0 (route_stored_lem a lent.1.1.1.1.1.0.now _ call.1)

-- so is that of taking marks off, with its rows in 48 bits
module _ (κs : _) (lent : _) (word : _) (exit : _) (call : c_clear_guessed.Learnt κs lent word exit) where
  pub c_clear_guessed_kept : (a : Result ℕ Refusal) × (word ≡ word_of (cleared_fields a)) × Kept (count_meaning a) (6 * value_in 0 (count_meaning a)) lent.0.now exit.0.now
  c_clear_guessed_kept = (clear_answer (length lent.0.now), call.0, cleared_kept _ _ _ refl call.1)

-- ---- numbers and bytes put at a place: there is no refusal number, and where there is no room nothing is put

module _ (κs : _) (lent : _) (answer : _) (exit : _) where
  pub put_u16_no_room : put_u16.Learnt κs lent answer exit → length lent.0.now < lent.1.0 + 2 → exit.0.now ≡ lent.0.now
  put_u16_no_room call h = call ∙ placed_not lent.0.now lent.1.0 (to_be 2 lent.1.1.0) h

module _ (κs : _) (lent : _) (answer : _) (exit : _) where
  pub put_u32_no_room : put_u32.Learnt κs lent answer exit → length lent.0.now < lent.1.0 + 4 → exit.0.now ≡ lent.0.now
  put_u32_no_room call h = call ∙ placed_not lent.0.now lent.1.0 (to_be 4 lent.1.1.0) h

module _ (κs : _) (lent : _) (answer : _) (exit : _) where
  pub put_octets_no_room : put_octets.Learnt κs lent answer exit → length lent.0.now < lent.1.0 + length (take lent.1.1.1.0 (to_be 4 lent.1.1.0))
      → exit.0.now ≡ lent.0.now
  put_octets_no_room call h = call ∙ placed_not lent.0.now lent.1.0 (take lent.1.1.1.0 (to_be 4 lent.1.1.0)) h

-- an AS number is not put either where the width does not hold it
module _ (κs : _) (lent : _) (answer : _) (exit : _) (call : put_number.Learnt κs lent answer exit) where
  pub put_number_no_room : length lent.0.now < lent.1.0 + width_of lent.1.1.1.0 → exit.0.now ≡ lent.0.now
  unfolding with_number
  put_number_no_room h =
      let digits : List ℕ = to_be (width_of lent.1.1.1.0) lent.1.1.0 in
      let size : length digits ≡ width_of lent.1.1.1.0 = length_to_be (width_of lent.1.1.1.0) lent.1.1.0 in
      let full : placed lent.0.now lent.1.0 digits ≡ lent.0.now = placed_not lent.0.now lent.1.0 digits (omega (arith, size, h)) in
      call ∙ pick_any (λ (l : List ℕ). l ≡ lent.0.now) (fits_width lent.1.1.0 lent.1.1.1.0) _ _ full refl

  pub put_number_too_wide : fits_width lent.1.1.0 lent.1.1.1.0 ≡ false → exit.0.now ≡ lent.0.now
  unfolding with_number
  put_number_too_wide wide = call ∙ rw wide

module _ (κs : _) (lent : _) (answer : _) (exit : _) where
  pub copy_at_no_room : copy_at.Learnt κs lent answer exit → length lent.0.now < lent.1.0 + length lent.1.1.0.now → exit.0.now ≡ lent.0.now
  copy_at_no_room call h = call ∙ placed_not lent.0.now lent.1.0 lent.1.1.0.now h
