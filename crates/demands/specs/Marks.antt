-- The mark of a guessed path id (document 02, K8), of the calls themselves: which rows have it, what taking it off leaves, and that no row that has it is written.
-- Assumes nothing.
use Prim.Native.Nat.{ℕ, ◌+◌, ◌*◌, ◌/◌, ◌%◌, ◌≤◌, ◌<◌}
use Rattle.std.specs.Prelude.{◌≡◌, refl, List, map, true, false, get_or, take, Result, Ok, Err}
use Rattle.std.proofs.Math.Path.{sym, ap}
use Rattle.std.proofs.Common.{ap₂, ◌∙◌, arith, eqb-true}
use Rattle.std.specs.Borrow.{MutBor}
use Rattle.std.proofs.Math.ListN.{length}
use Rattle.wire.specs.Answer.{flag, filled, count_meaning}
use Rattle.wire.specs.Cutting.{Each}
use Rattle.wire.specs.Number.{Bytes}
use Rattle.wire.specs.Store.{laid}
use Rattle.wire.specs.Walk.{Reading, read_all, notes, tally, flat}
use Rattle.wire.specs.Verdict.{fine}
use Rattle.wire.specs.declared.refusal.Refusal.{Refusal}
use Rattle.wire.specs.declared.refusal.Refusal.TheVariants.{NotWritable}
use Rattle.families.specs.Family.{max_of, guessed}
use Rattle.families.specs.declared.Afi.{Afi}
use Rattle.families.specs.declared.Afi.TheVariants.{Ipv4, Ipv6}
use Rattle.families.specs.declared.AddPath.{AddPath}
use Rattle.families.specs.declared.AddPath.TheVariants.{Guess}
use Rattle.families.specs.declared.Form.{Form}
use Rattle.families.specs.declared.Form.TheVariants.{Plain, Tagged}
use Rattle.families.proofs.FamilyLaws.{max_small}
use Rattle.routes.specs.List.{up_to, list_of, hosts_of, section_of}
use Rattle.routes.specs.Prefix.{item_row, words, host_bits}
use Rattle.routes.specs.Promises.{count_answer, read_answer, routes_meaning}
use Rattle.routes.specs.declared.Row.{Row}
use Rattle.routes.specs.declared.Routes.{Routes}
use Rattle.routes.specs.declared.Route.{Route}
use Rattle.routes.proofs.ListLaws.{count_rows, count_short, read_rows, read_stored, section_counted, told_list}
use Rattle.routes.proofs.try_parse_prefix.Reads as try_parse_prefix
use Rattle.route_reader.proofs.parse_nlri_list.Reads as parse_nlri_list
use Rattle.route_reader.proofs.read_nlri.Reads as read_nlri
use Rattle.route_marks.specs.Marks.{has_mark, unmarked, bare, by_guess, forms_taken, step_before, cleared}
use Rattle.route_marks.specs.Promises.{clear_answer, clear_after}
use Rattle.route_marks.proofs.ClearLaws.{unmarked_bits, cleared_length, cleared_first, cleared_other, clear_whole, clear_part, clear_rows}
use Rattle.route_marks.proofs.MarkLaws as Laws
use Rattle.route_marks.proofs.clear_guessed.Reads as clear_guessed
use Rattle.route_bytes.specs.Encode.{bytes_of}
use Rattle.route_bytes.specs.Promises.{measured}
use Rattle.route_bytes.proofs.PromiseLaws.{measured_bad}
use Rattle.route_bytes.proofs.RowLaws.{marked_stops}
use Rattle.route_writer.specs.Promises.{write_answer, out_after}
use Rattle.route_writer.proofs.PromiseLaws.{after_refused, write_front}
use Rattle.route_writer.proofs.RouteTheorems as Routes
use Rattle.route_writer.proofs.encode_nlri_prefixes.Reads as encode_nlri_prefixes
use Rattle.mp_nlri.specs.Value.{is_hop_size, hop_start}
use Rattle.mp_nlri.specs.Write.{write_reach}
use Rattle.mp_nlri.specs.Read.{reach_list, unreach_list, reach_after}
use Rattle.mp_nlri.specs.declared.Reach.{Reach}
use Rattle.mp_nlri.proofs.parse_mp_reach_nlri.Reads as parse_mp_reach_nlri
use Rattle.mp_nlri.proofs.parse_mp_unreach_nlri.Reads as parse_mp_unreach_nlri
use Rattle.mp_nlri.proofs.encode_mp_reach_nlri.Reads as encode_mp_reach_nlri
use Rattle.mp_nlri.proofs.encode_mp_unreach_nlri.Reads as encode_mp_unreach_nlri
use Rattle.updates.specs.Body.{withdrawn_of, announced_of}
use Rattle.updates.specs.Update.{counted, withdrawn_after, announced_after}
use Rattle.updates.specs.declared.Update.{Update}
use Rattle.updates.proofs.Sections.{counted_sections, read_is_count}
use Rattle.updates.proofs.parse_bgp_update_message.Reads as parse_bgp_update_message
use Rattle.update_writer.specs.Body.{body_answer}
use Rattle.update_writer.proofs.encode_bgp_update_message.Reads as encode_bgp_update_message
use Rattle.demands.specs.Routes.{bytes, family, setting, store, rows, form_asked, output, told}
use Rattle.demands.specs.MpNlri as Mp

-- ---- the words of the statements

-- the call that takes the marks off: the store that it is lent
abbrev pub lent : {R : Type 0} → MutBor (List ℕ) × R → List ℕ
lent given = given.0.now

-- the rows and the refusal of a list as they were read before there was a mark, and its rows with a host bit
abbrev pub read_before : Afi → AddPath → List ℕ → Reading Row
read_before afi mode s = read_all (step_before (max_of afi) mode) Plain s

abbrev pub hosts_before : Afi → AddPath → List ℕ → ℕ
hosts_before afi mode s = tally flag (notes host_bits (step_before (max_of afi) mode) Plain s)

-- ---- 1. Nothing else is another than before there was a mark: without the marks the rows are those, and the refusals and the rows with a host bit are the same.

pub only_marks : (afi : Afi) (mode : AddPath) (s : List ℕ)
    → let now_read = list_of s (max_of afi) mode in
    (read_before afi mode s ≡ record { rows = map bare now_read.rows; verdict = now_read.verdict }) × (hosts_before afi mode s ≡ hosts_of s (max_of afi) mode)
only_marks afi mode s = Laws.list_before (max_of afi) (max_small afi) mode s

-- ---- 2. A row has the mark exactly if the guess took its item with an id: with Add-Path on, or the guess off, none has.

-- a store after a reading of bytes: rows from its front of which that is so, one by one, and which are those read before but for it
pub record MarkedRows (afi : Afi) (mode : AddPath) (s d d' : List ℕ) : Type 0 where
  pub read : List Row
  pub stored : d' ≡ laid d 0 (flat words read)
  pub marks : map (λ (r : Row). has_mark r.first) read ≡ map (by_guess mode) (forms_taken (max_of afi) mode s)
  pub before : map bare read ≡ (read_before afi mode s).rows

marked_rows : (afi : Afi) (mode : AddPath) (s d d' : List ℕ) (r : Reading Row) → r ≡ list_of s (max_of afi) mode → d' ≡ laid d 0 (flat words r.rows) → MarkedRows afi mode s d d'
marked_rows afi mode s d d' r is left = record {
  read = r.rows;
  stored = left;
  marks = ap (λ (x : Reading Row). map (λ (q : Row). has_mark q.first) x.rows) is ∙ Laws.list_marks (max_of afi) (max_small afi) mode s;
  before = ap (λ (x : Reading Row). map bare x.rows) is ∙ ap (λ (x : Reading Row). x.rows) (sym (only_marks afi mode s).0);
}

module _ (κs : _) (given : _) (answer : _) (exit : _) (call : parse_nlri_list.Learnt κs given answer exit) where
  read_list_lem : told answer ≡ read_answer (bytes given) (list_of (bytes given) (max_of (family given)) (setting given)) (length (store given))
  read_list_lem = told_list _ (hosts_of (bytes given) (max_of (family given)) (setting given)) answer call.0

  pub list_marks : (n : ℕ) → told answer ≡ Ok n → MarkedRows (family given) (setting given) (bytes given) (store given) (store exit)
  list_marks n said =
      let r = list_of (bytes given) (max_of (family given)) (setting given) in
      marked_rows (family given) (setting given) (bytes given) (store given) (store exit) r refl (call.1 ∙ (read_stored (bytes given) r (store given) n (sym read_list_lem ∙ said)).1)

module _ (κs : _) (given : _) (answer : _) (exit : _) (call : read_nlri.Learnt κs given answer exit) where
  pub section_marks : (n : ℕ) → told answer ≡ Ok n → MarkedRows (family given) (setting given) (bytes given) (store given) (store exit)
  section_marks n said =
      let r = section_of (bytes given) (max_of (family given)) (setting given) in
      let e = sym (told_list _ (hosts_of (bytes given) (max_of (family given)) (setting given)) answer call.0) ∙ said in
      marked_rows (family given) (setting given) (bytes given) (store given) (store exit) r
      (section_counted (up_to (max_of (family given))) (bytes given) (setting given) n (read_rows (bytes given) r n (length (store given)) e).0)
      (call.1 ∙ (read_stored (bytes given) r (store given) n e).1)

-- what a section, and a list, that is good leaves
told_filled : (a : Result ℕ Refusal) (n : ℕ) (values d : List ℕ) → a ≡ Ok n → filled (count_meaning a) values d ≡ laid d 0 values
told_filled a n values d good = ap (λ (x : Result ℕ Refusal). filled (count_meaning x) values d) good

told_routes : (z : Result Routes Refusal) (n : ℕ) (values d : List ℕ) → told z ≡ Ok n → filled (routes_meaning z) values d ≡ laid d 0 values
told_routes (Ok r) n values d good = refl
told_routes (Err why) n values d good = let z : ◌≡◌ {A = ℕ} 0 1 = cc in absurd (omega arith)

-- each section of an UPDATE
module _ (κs : _) (given : _) (answer : _) (exit : _) (call : parse_bgp_update_message.Learnt κs given answer exit) (update : Update) (said : answer ≡ Ok update) where
  abbrev body : List ℕ
  body = given.0.now

  abbrev mode : AddPath
  mode = given.1.0

  both : (counted (withdrawn_of body) mode ≡ update.withdrawn) × (counted (announced_of body) mode ≡ update.announced)
  both = counted_sections body mode update (read_is_count body mode _ _ update (sym call.0 ∙ said))

  -- the rows of one that is good, in its store
  one_section : (s d d' : List ℕ) (z : Result Routes Refusal) → counted s mode ≡ z → (n : ℕ) → told z ≡ Ok n
      → d' ≡ filled (count_meaning (told z)) (flat words (section_of s (max_of Ipv4) mode).rows) d → MarkedRows Ipv4 mode s d d'
  one_section s d d' z is n good left =
      let r = section_of s (max_of Ipv4) mode in
      let e : count_answer s r ≡ Ok n = sym (told_list (count_answer s r) (hosts_of s (max_of Ipv4) mode) z (sym is)) ∙ good in
      marked_rows Ipv4 mode s d d' r (section_counted (up_to (max_of Ipv4)) s mode n e) (left ∙ told_filled (told z) n (flat words r.rows) d good)

  pub withdrawn_marks : (n : ℕ) → told update.withdrawn ≡ Ok n → MarkedRows Ipv4 mode (withdrawn_of body) given.1.1.0.now exit.1.1.0.now
  withdrawn_marks n good =
      one_section (withdrawn_of body) _ _ update.withdrawn both.0 n good (call.1.0 ∙ ap (λ (u : Result Update Refusal). withdrawn_after u body mode given.1.1.0.now) said)

  pub announced_marks : (n : ℕ) → told update.announced ≡ Ok n → MarkedRows Ipv4 mode (announced_of body) given.1.1.1.0.now exit.1.1.1.0.now
  announced_marks n good =
      one_section (announced_of body) _ _ update.announced both.1 n good (call.1.1 ∙ ap (λ (u : Result Update Refusal). announced_after u body mode given.1.1.1.0.now) said)

-- the routes of an announcement and of a withdrawal of IPv6
module _ (κs : _) (given : _) (answer : _) (exit : _) (call : parse_mp_reach_nlri.Learnt κs given answer exit) where
  pub reach_marks : (reach : Reach) → answer ≡ Ok reach
      → MarkedRows Ipv6 (Mp.setting given) (reach_list (Mp.value given)) (Mp.store given) (Mp.store exit)
  reach_marks reach said =
      marked_rows Ipv6 (Mp.setting given) (reach_list (Mp.value given)) (Mp.store given) (Mp.store exit) _ refl
      (call.1 ∙ ap (λ (a : Result Reach Refusal). reach_after a (Mp.value given) (Mp.setting given) (Mp.store given)) said)

module _ (κs : _) (given : _) (answer : _) (exit : _) (call : parse_mp_unreach_nlri.Learnt κs given answer exit) where
  pub unreach_marks : (n : ℕ) → told answer ≡ Ok n → MarkedRows Ipv6 (Mp.setting given) (unreach_list (Mp.value given)) (Mp.store given) (Mp.store exit)
  unreach_marks n said =
      marked_rows Ipv6 (Mp.setting given) (unreach_list (Mp.value given)) (Mp.store given) (Mp.store exit) _ refl
      (call.1 ∙ told_routes answer n _ (Mp.store given) said)

-- the call for one route, which is told its form, sets none
module _ (κs : _) (given : _) (answer : _) (exit : _) (call : try_parse_prefix.Learnt κs given answer exit) where
  pub route_unmarked : (route : Route) → answer ≡ Ok route → has_mark route.prefix.row.first ≡ false
  route_unmarked route said = Laws.route_unmarked (bytes given) (max_of given.1.0) (max_small given.1.0) given.1.1.0 route (sym call ∙ said)

-- ---- 3. Taking the marks off

-- a number loses that one bit: those below it and those above it stay
pub one_bit : (w : ℕ) → (has_mark (unmarked w) ≡ false) × (unmarked w % guessed ≡ w % guessed) × (unmarked w / (2 * guessed) ≡ w / (2 * guessed))
one_bit = unmarked_bits

-- whatever the words hold: the first of each six has the bit off, and every other word stays; a store that is not whole rows is as it was
module _ (κs : _) (given : _) (answer : _) (exit : _) (call : clear_guessed.Learnt κs given answer exit) where
  pub cleared_places : length (lent given) % 6 ≡ 0
      → (answer ≡ Ok (length (lent given) / 6)) × (length (lent exit) ≡ length (lent given))
      × (((i : ℕ) → i % 6 ≡ 0 → get_or (lent exit) i 0 ≡ unmarked (get_or (lent given) i 0))
      × ((i : ℕ) → (i % 6 ≡ 0 → ⊥) → get_or (lent exit) i 0 ≡ get_or (lent given) i 0))
  cleared_places whole =
      let w = clear_whole (lent given) whole in
      let is : lent exit ≡ cleared (lent given) = call.1 ∙ sym w.1 in (
        call.0 ∙ sym w.0,
        ap length is ∙ cleared_length 0 (lent given),
        (
          λ i first. ap (λ (l : List ℕ). get_or l i 0) is ∙ cleared_first (lent given) i first,
          λ i other. ap (λ (l : List ℕ). get_or l i 0) is ∙ cleared_other (lent given) i other,
        ),
      )

  pub cleared_refused : (length (lent given) % 6 ≡ 0 → ⊥) → (answer ≡ Err NotWritable) × (lent exit ≡ lent given)
  cleared_refused part = let w = clear_part (lent given) part in (call.0 ∙ sym w.0, call.1 ∙ sym w.1)

  -- of rows it leaves the same without the marks, whichever call put them
  pub cleared_rows_lem : (read : List Row) → lent given ≡ flat words read → (answer ≡ Ok (length read)) × (lent exit ≡ flat words (map bare read))
  cleared_rows_lem read is =
      let w = clear_rows read in
      (call.0 ∙ ap (λ (l : List ℕ). clear_answer (length l)) is ∙ w.0, call.1 ∙ ap clear_after is ∙ w.1)

-- so of what a list's reading stored it leaves the rows that were read before there was a mark, as many and word for word
module _ (κs : _) (given : _) (answer : _) (exit : _) (call : parse_nlri_list.Learnt κs given answer exit)
    (κs' : _) (given' : _) (answer' : _) (exit' : _) (call' : clear_guessed.Learnt κs' given' answer' exit') (n : ℕ) (said : told answer ≡ Ok n) (same : lent given' ≡ take (6 * n) (store exit)) where
  abbrev reading : Reading Row
  reading = list_of (bytes given) (max_of (family given)) (setting given)

  cleared_list : (answer' ≡ Ok n) × (lent exit' ≡ flat words (map bare reading.rows))
  cleared_list =
      let h = read_stored (bytes given) reading (store given) n (sym (read_list_lem κs given answer exit call) ∙ said) in
      let c = cleared_rows_lem κs' given' answer' exit' call' reading.rows (same ∙ ap (take (6 * n)) call.1 ∙ h.2) in
      (c.0 ∙ ap Ok h.0, c.1)

  pub list_cleared : (answer' ≡ Ok n) × (lent exit' ≡ flat words (read_before (family given) (setting given) (bytes given)).rows)
  list_cleared =
      let before = (only_marks (family given) (setting given) (bytes given)).0 in
      (cleared_list.0, cleared_list.1 ∙ ap (λ (r : Reading Row). flat words r.rows) (sym before))

  -- where the guess took every item with an id, they can be written with Add-Path on, and give the bytes back
  module _ (κs'' : _) (given'' : _) (answer'' : _) (exit'' : _) (call'' : encode_nlri_prefixes.Learnt κs'' given'' answer'' exit'') where
    pub cleared_written : setting given ≡ Guess → Each (λ (form : Form). form ≡ Tagged) (forms_taken (max_of (family given)) Guess (bytes given))
        → rows given'' ≡ lent exit' → family given'' ≡ family given → form_asked given'' ≡ Tagged → Bytes (bytes given) → length (bytes given) ≤ length (output given'')
        → (answer'' ≡ Ok (length (bytes given))) × (output exit'' ≡ laid (output given'') 0 (bytes given))
    cleared_written on each back alike form octets room =
        let s : List ℕ = bytes given in
        let max : ℕ = max_of (family given) in
        let count = (read_rows s reading n (length (store given)) (sym (read_list_lem κs given answer exit call) ∙ said)).0 in
        let guess : reading ≡ list_of s max Guess = ap (list_of s max) on in
        let good : (list_of s max Guess).verdict ≡ fine = sym (ap (λ (r : Reading Row). r.verdict) guess) ∙ (count_rows s reading n count).0 in
        let tagged = Laws.list_tagged max (max_small (family given)) s good each in
        let c = Routes.cut_tagged max s (ap (λ (r : Reading Row). r.verdict) tagged) in
        let is : rows given'' ≡ flat words (map (item_row Tagged) c.0) =
        back ∙ cleared_list.1 ∙ ap (λ (r : Reading Row). flat words (map bare r.rows)) guess
        ∙ ap (λ (r : Reading Row). flat words r.rows) (sym tagged ∙ c.2) in
        let o = Routes.items_out max (max_small (family given)) Tagged s c.0 octets c.1 (count_short s reading n count) (output given'') room in (
          call''.0 ∙ ap₂ (λ (ws : List ℕ) (afi : Afi). write_answer ws (max_of afi) (form_asked given'') (length (output given''))) is alike
              ∙ ap (λ (f : Form). write_answer (flat words (map (item_row Tagged) c.0)) max f (length (output given''))) form ∙ o.0,
          call''.1 ∙ ap₂ (λ (ws : List ℕ) (afi : Afi). out_after ws (max_of afi) (form_asked given'') (output given'')) is alike
              ∙ ap (λ (f : Form). out_after (flat words (map (item_row Tagged) c.0)) max f (output given'')) form ∙ o.1,
        )

-- ---- 4. No marked row is written: a store that has the mark on a row, whichever and whatever else it holds, is refused with 14, and the output is as it was.

-- a store with the mark on a row
pub record Marked (ws : List ℕ) : Type 0 where
  pub row : ℕ
  pub there : 6 * row < length ws
  pub mark : has_mark (get_or ws (6 * row) 0) ≡ true

marked_measured : (afi : Afi) (form : Form) (ws : List ℕ) → Marked ws → measured ws (max_of afi) form ≡ Err NotWritable
marked_measured afi form ws h =
    measured_bad ws (max_of afi) form NotWritable (marked_stops (max_of afi) form (max_small afi) h.row ws h.there (eqb-true _ _ h.mark))

-- what a writer that refuses leaves
refused_with : (a : Result ℕ Refusal) (why : Refusal) (octets before after : List ℕ) → a ≡ Err why → after ≡ filled (count_meaning a) octets before → (a ≡ Err why) × (after ≡ before)
refused_with a why octets before after e f = (e, f ∙ ap (λ (x : Result ℕ Refusal). filled (count_meaning x) octets before) e)

module _ (κs : _) (given : _) (answer : _) (exit : _) (call : encode_nlri_prefixes.Learnt κs given answer exit) where
  pub list_not_written : Marked (rows given) → (answer ≡ Err NotWritable) × (output exit ≡ output given)
  unfolding out_after
  list_not_written h =
      let after = after_refused 0 (rows given) (max_of (family given)) (form_asked given) (length (output given)) NotWritable (marked_measured (family given) (form_asked given) (rows given) h) in
      let e = call.0 ∙ sym (write_front (rows given) (max_of (family given)) (form_asked given) (length (output given))) ∙ sym after in
      refused_with answer NotWritable (bytes_of (rows given) (max_of (family given)) (form_asked given)) (output given) (output exit) e
      (call.1 ∙ ap (λ (a : Result ℕ Refusal). filled (count_meaning a) (bytes_of (rows given) (max_of (family given)) (form_asked given)) (output given)) (sym call.0))

-- nor in either section of an UPDATE
module _ (κs : _) (given : _) (answer : _) (exit : _) (call : encode_bgp_update_message.Learnt κs given answer exit) where
  pub withdrawn_not_written : Marked given.0.now → (answer ≡ Err NotWritable) × (exit.1.1.1.1.0.now ≡ given.1.1.1.1.0.now)
  unfolding body_answer
  withdrawn_not_written h =
      refused_with answer NotWritable _ _ _ (call.0 ∙ rw (marked_measured Ipv4 given.1.1.1.0 given.0.now h) refl) call.1

  pub announced_not_written : (n : ℕ) → measured given.0.now (max_of Ipv4) given.1.1.1.0 ≡ Ok n → Marked given.1.1.0.now
      → (answer ≡ Err NotWritable) × (exit.1.1.1.1.0.now ≡ given.1.1.1.1.0.now)
  unfolding body_answer
  announced_not_written n good h =
      refused_with answer NotWritable _ _ _ (call.0 ∙ rw (good, marked_measured Ipv4 given.1.1.1.0 given.1.1.0.now h) refl) call.1

-- nor in a withdrawal of IPv6, nor in an announcement with a good next hop
module _ (κs : _) (given : _) (answer : _) (exit : _) (call : encode_mp_unreach_nlri.Learnt κs given answer exit) where
  pub unreach_not_written : Marked (Mp.rows given) → (answer ≡ Err NotWritable) × (Mp.out exit ≡ Mp.out given)
  unreach_not_written h =
      refused_with answer NotWritable _ _ _
      (call.0 ∙ sym (after_refused 3 (Mp.rows given) (max_of Ipv6) (Mp.form given) (length (Mp.out given)) NotWritable (marked_measured Ipv6 (Mp.form given) (Mp.rows given) h))) call.1

module _ (κs : _) (given : _) (answer : _) (exit : _) (call : encode_mp_reach_nlri.Learnt κs given answer exit) where
  pub reach_not_written : is_hop_size (length (Mp.next_hop given)) ≡ true → Marked (Mp.rows given.1) → (answer ≡ Err NotWritable) × (Mp.out exit.1 ≡ Mp.out given.1)
  unfolding write_reach
  reach_not_written good h =
      let hop : ℕ = length (Mp.next_hop given) in
      let after = after_refused (hop_start + hop + 1) (Mp.rows given.1) (max_of Ipv6) (Mp.form given.1) (length (Mp.out given.1)) NotWritable (marked_measured Ipv6 (Mp.form given.1) (Mp.rows given.1) h) in
      refused_with answer NotWritable _ _ _ (call.0 ∙ rw good (sym after)) call.1
