-- What slot records and the lines of their table mean, of the calls themselves: a record is found again, however the input is cut into
-- blocks; a line is put whole or not at all; and however the input is cut into blocks and the output into writes, what is put in all is the table of
-- the whole input.
-- Assumes nothing.
use Rattle.std.specs.Prelude.{ℕ, ◌+◌, ◌-◌, ◌^◌, ◌≤◌, ◌<◌, ◌≡◌, List, [], ◌++◌, Bool, true, false, length, take, drop, Option, Some, None}
use Rattle.std.proofs.Common.{sym, ap, ap₂, ◌∙◌, subst, append_assoc, append-nil, lt_of_not-le}
use Rattle.std.proofs.Math.Decide.{dec_le}
use Rattle.std.proofs.lemmas.Bool.{false≢true}
use Rattle.wire.specs.Number.{Bytes}
use Rattle.wire.specs.Store.{laid}
use Rattle.families.specs.Family.{mode_of}
use Rattle.families.specs.declared.AddPath.{AddPath}
use Rattle.copies.proofs.Fronts.{front_kept}
use Rattle.copies.proofs.to_front.Reads as to_front
use Rattle.slots.specs.Slot.{record_size, settings_limit, slot_of, Decided, record_of}
use Rattle.slots.specs.declared.SlotAnswer.TheVariants.{Slot, More}
use Rattle.slots.proofs.BlockLaws.{decided, record_read, record_kept, record_rest}
use Rattle.slots.proofs.SlotLaws.{slot_fits}
use Rattle.slots.proofs.next_slot.Reads as next_slot
use Rattle.words.specs.Settings.{is_yes, settings_of}
use Rattle.words.specs.Word.{fields, word_of}
use Rattle.words.proofs.SettingsLaws as SettingsLaws
use Rattle.firmware.specs.Fields.{slot_record, slot_fields, kept_limit}
use Rattle.firmware.proofs.SlotBounds.{more_short}
use Rattle.firmware.proofs.slot.doorbramble_next_slot.Reads as c_next_slot
use Rattle.slot_table.specs.Line.{number, numeral, heading_text, line_room, put_count, put_out}
use Rattle.slot_table.proofs.LineLaws.{heading_few, put_not, put_given, put_front, put_past}
use Rattle.slot_table.proofs.TableLaws.{ending_few}
use Rattle.slot_table.proofs.NumeralLaws.{number_value}
use Rattle.slot_table.proofs.put_heading.Reads as put_heading
use Rattle.slot_table.specs.Table.{ending_text, Listing, lines_of, table_of, listing, listed_of}
use Rattle.slot_table.specs.declared.Then.{Then}
use Rattle.slot_table.specs.declared.Then.TheVariants.{Write, Read, Whole, Stop}
use Rattle.slot_table.specs.declared.Listed.{Listed}
use Rattle.slot_table.proofs.TableLaws.{onwards, listing_parts, listing_within, listing_goes, front_lines}
use Rattle.slot_table.proofs.put_records.Reads as put_records
use Rattle.slot_table.proofs.put_ending.Reads as put_ending

-- ---- records

-- any call: what it was given and answered is all that its promise allows
module _ (κs : _) (given : _) (answer : _) (exit : _) (call : next_slot.Learnt κs given answer exit) where
  abbrev bytes : List ℕ
  bytes = given.0.now

  abbrev last : Bool
  last = given.1.0

  -- what the bytes in hand decide is answered again, whatever follows them and whenever the input ends
  pub decided_again : last ≡ false → Decided answer → (rest : List ℕ) (κs' : _) (given' : _) (answer' : _) (exit' : _)
      → next_slot.Learnt κs' given' answer' exit' → given'.0.now ≡ bytes ++ rest → answer' ≡ answer
  decided_again more there rest κs' given' answer' exit' call' e =
      let first : answer ≡ slot_of bytes false = call ∙ ap (slot_of bytes) more in
      call' ∙ ap (λ (s : List ℕ). slot_of s given'.1.0) e ∙ decided bytes rest given'.1.0 (subst Decided first there) ∙ sym first

  -- a record at the front is found, with its setting
  pub record_found : (settings : ℕ) (kept rest : List ℕ) → settings ≤ settings_limit → length kept ≤ 65535
      → bytes ≡ record_of settings kept ++ rest → answer ≡ Slot (length kept) (mode_of settings)
  record_found settings kept rest s k e = call ∙ ap (λ (b : List ℕ). slot_of b last) e ∙ record_read settings kept s k rest last

  -- its kept bytes stand after the five octets, and what follows them is the rest
  pub record_taken : (settings : ℕ) (kept rest : List ℕ) → settings ≤ settings_limit → length kept ≤ 65535
      → bytes ≡ record_of settings kept ++ rest
      → (take (length kept) (drop record_size bytes) ≡ kept) × (drop (record_size + length kept) bytes ≡ rest)
  record_taken settings kept rest s k e = (
    ap (λ (b : List ℕ). take (length kept) (drop record_size b)) e ∙ record_kept settings kept s k rest,
    ap (drop (record_size + length kept)) e ∙ record_rest settings kept s k rest,
  )

  -- the kept bytes of a record that is found are there
  pub found_whole : (kept : ℕ) (mode : _) → answer ≡ Slot kept mode → record_size + kept ≤ length bytes
  found_whole kept mode e = slot_fits bytes last kept mode (sym call ∙ e)

  -- more bytes are asked for of fewer than the longest record has, and of no more
  pub more_of_few : Bytes bytes → answer ≡ More → length bytes < record_size + kept_limit
  more_of_few b e = more_short bytes last b (sym call ∙ e)

-- the call for C tells a record at the front by its kept bytes and by a settings byte,
module _ (κs : _) (given : _) (word : _) (exit : _) (call : c_next_slot.Learnt κs given word exit) where
  pub c_record_found : (settings : ℕ) (kept rest : List ℕ) → settings ≤ settings_limit → length kept ≤ 65535
      → given.0.now ≡ record_of settings kept ++ rest → word ≡ word_of (fields (length kept) (settings_of (mode_of settings)) slot_record 0)
  c_record_found settings kept rest s k e =
      call ∙ ap (λ (b : List ℕ). word_of (slot_fields (slot_of b (is_yes given.1.0)))) e
      ∙ ap (λ a. word_of (slot_fields a)) (record_read settings kept s k rest (is_yes given.1.0))

-- which every call reads as the record's setting
pub settings_read : (mode : AddPath) → mode_of (settings_of mode) ≡ mode
settings_read = SettingsLaws.settings_read

-- ---- lines

-- an output with too few places is as it was, and no byte is counted
abbrev pub NotPut : Option ℕ → List ℕ → List ℕ → Type 0
NotPut answer before after = (answer ≡ None) × (after ≡ before)

-- what lies past the counted bytes is as it was, and all where none are counted
abbrev pub PastKept : Option ℕ → List ℕ → List ℕ → Type 0
PastKept (Some n) before after = drop n after ≡ drop n before
PastKept None before after = after ≡ before

put_kept : (line before : List ℕ) → length line ≤ line_room → PastKept (put_count line (length before)) before (put_out line before)
put_kept line before few =
    let Kept : Option ℕ → Type 0 = λ a. PastKept a before (put_out line before) in
    elim (dec_le line_room (length before)) [
      | yes room ↦ (let g = put_given line before room in subst Kept (sym g) (put_past line before (length line) few g))
      | no short ↦ (let n = put_not line before (lt_of_not-le short) in subst Kept n.0 (sym n.1))
    ]

module _ (line before after : List ℕ) (answer : Option ℕ) (e : answer ≡ put_count line (length before)) (f : after ≡ put_out line before) where
  not_put : length before < line_room → NotPut answer before after
  not_put h = let n = put_not line before h in (e ∙ sym n.0, f ∙ sym n.1)

  past_kept : length line ≤ line_room → PastKept answer before after
  past_kept few = rw (e, f) (put_kept line before few)

module _ (κs : _) (given : _) (answer : _) (exit : _) (call : put_heading.Learnt κs given answer exit) where
  pub heading_not_put : length given.0.now < line_room → NotPut answer given.0.now exit.0.now
  heading_not_put = not_put heading_text _ _ answer call.0 call.1

  -- where there is room, the output begins with it
  pub heading_put : line_room ≤ length given.0.now → (n : ℕ) × (answer ≡ Some n) × (take n exit.0.now ≡ heading_text)
  heading_put room =
      let g = put_given heading_text given.0.now room in
      (length heading_text, call.0 ∙ g, ap (take (length heading_text)) call.1 ∙ put_front heading_text given.0.now (length heading_text) g)

  pub heading_past : PastKept answer given.0.now exit.0.now
  heading_past = past_kept heading_text _ _ answer call.0 call.1 heading_few

module _ (κs : _) (given : _) (answer : _) (exit : _) (call : put_ending.Learnt κs given answer exit) where
  pub ending_not_put : length given.1.0.now < line_room → NotPut answer given.1.0.now exit.1.0.now
  ending_not_put = not_put (ending_text given.0) _ _ answer call.0 call.1

  pub ending_past : PastKept answer given.1.0.now exit.1.0.now
  ending_past = past_kept (ending_text given.0) _ _ answer call.0 call.1 (ending_few given.0)

-- the digits of a number in a line stand for it, so that no two numbers have the same
pub number_told : (n : ℕ) → n < 2 ^ 64 → numeral 0 (number n []) ≡ n
number_told = number_value

-- ---- the whole table

-- a call of put_records on a block, which answered so and put those bytes
pub record Put (last : Bool) (nth : ℕ) (block written : List ℕ) (answer : Listed) : Type 1 where
  pub κs : _
  pub given : _
  pub exit : _
  pub call : put_records.Learnt κs given answer exit
  pub of_block : given.0.now ≡ block
  pub of_last : given.1.0 ≡ last
  pub of_nth : given.1.1.0 ≡ nth
  pub is_written : written ≡ take answer.put exit.1.1.1.0.now

module _ (last : Bool) (nth : ℕ) (block written : List ℕ) (answer : Listed) (p : Put last nth block written answer) where
  -- the places of the output that was lent
  abbrev places : ℕ
  places = length p.given.1.1.1.0.now

  abbrev listed : Listing
  listed = listing last nth places block

  same : listing p.given.1.0 p.given.1.1.0 places p.given.0.now ≡ listed
  same =
      ap₂ (λ (l : Bool) (n : ℕ). listing l n places p.given.0.now) p.of_last p.of_nth
      ∙ ap (listing last nth places) p.of_block

  answered : answer ≡ listed_of listed
  answered = p.call.0 ∙ ap listed_of same

  -- it put the lines that it answers for, and nothing else
  put_lines : written ≡ listed.lines
  put_lines =
      p.is_written
      ∙ ap₂ (λ (n : ℕ) (d : List ℕ). take n d) (ap (λ (a : Listed). a.put) answered) (p.call.1 ∙ ap (λ (l : Listing). laid p.given.1.1.1.0.now 0 l.lines) same)
      ∙ front_lines listed.lines p.given.1.1.1.0.now

  -- the lines of the block and of what follows it are those put, and those of what is left
  put_parts : (rest : List ℕ) → (last ≡ true → rest ≡ [])
      → written ++ onwards answer.then (lines_of answer.nth (drop answer.used block ++ rest)) ≡ lines_of nth (block ++ rest)
  put_parts rest over =
      ap₂ (λ (w : List ℕ) (a : Listed). w ++ onwards a.then (lines_of a.nth (drop a.used block ++ rest))) put_lines answered
      ∙ sym (listing_parts last nth places block rest over)

  -- what it used lies in the block, and where it is to be called again it used a record, given room for a line
  pub put_within : answer.used ≤ length block
  put_within = rw answered (listing_within last nth places block)

  pub put_goes_on : line_room ≤ places → answer.then ≡ Write → 0 < answer.used
  put_goes_on room = subst (λ (a : Listed). a.then ≡ Write → 0 < a.used) (sym answered) (listing_goes last nth places block room)

-- a run of calls from a block on, where `rest` of the input is not read yet: after each call what it put is written, and the next is given what is left
-- of the block, with what was read after it where the call asked for more. `last` says that nothing is left to be read
pub data Run : Bool → ℕ → List ℕ → List ℕ → List ℕ → Type 1 where
  wrote : {last : Bool} {nth : ℕ} {block rest written more : List ℕ} {answer : Listed}
      → Put last nth block written answer → answer.then ≡ Write → Run last answer.nth (drop answer.used block) rest more
      → Run last nth block rest (written ++ more)
  read : {last last' : Bool} {nth : ℕ} {block rest written more : List ℕ} {answer : Listed} (came : List ℕ)
      → Put last nth block written answer → answer.then ≡ Read → (last' ≡ true → rest ≡ [])
      → Run last' answer.nth (drop answer.used block ++ came) rest more → Run last nth block (came ++ rest) (written ++ more)
  whole : {last : Bool} {nth : ℕ} {block rest written : List ℕ} {answer : Listed}
      → Put last nth block written answer → answer.then ≡ Whole → Run last nth block rest written
  stopped : {last : Bool} {nth : ℕ} {block rest written : List ℕ} {answer : Listed}
      → Put last nth block written answer → answer.then ≡ Stop → Run last nth block rest written

-- however the input is cut into blocks and the output into writes: all that is written are the lines of the whole input
pub run_lines : (last : Bool) (nth : ℕ) (block rest written : List ℕ) → (last ≡ true → rest ≡ []) → Run last nth block rest written → written ≡ lines_of nth (block ++ rest)
run_lines last nth block rest written over (wrote {written = w} {answer = a} p e more) =
    ap (λ (l : List ℕ). w ++ l) (run_lines last a.nth (drop a.used block) rest _ over more)
    ∙ ap (λ (t : Then). w ++ onwards t (lines_of a.nth (drop a.used block ++ rest))) (sym e)
    ∙ put_parts last nth block w a p rest over
run_lines last nth block rest written over (read {last' = last'} {rest = rest'} {written = w} {answer = a} came p e over' more) =
    ap (λ (l : List ℕ). w ++ l) (run_lines last' a.nth (drop a.used block ++ came) rest' _ over' more)
    ∙ ap (λ (l : List ℕ). w ++ lines_of a.nth l) (append_assoc (drop a.used block) came rest')
    ∙ ap (λ (t : Then). w ++ onwards t (lines_of a.nth (drop a.used block ++ (came ++ rest')))) (sym e)
    ∙ put_parts last nth block w a p (came ++ rest') over
run_lines last nth block rest written over (whole {answer = a} p e) =
    sym (append-nil written)
    ∙ ap (λ (t : Then). written ++ onwards t (lines_of a.nth (drop a.used block ++ rest))) (sym e)
    ∙ put_parts last nth block written a p rest over
run_lines last nth block rest written over (stopped {answer = a} p e) =
    sym (append-nil written)
    ∙ ap (λ (t : Then). written ++ onwards t (lines_of a.nth (drop a.used block ++ rest))) (sym e)
    ∙ put_parts last nth block written a p rest over

-- what is left of a block, moved to the front, is what is listed next
module _ (κs : _) (given : _) (answer : _) (exit : _) (call : to_front.Learnt κs given answer exit) where
  pub left_kept : given.1.0 ≤ given.1.1.0 → given.1.1.0 ≤ length given.0.now
      → take (given.1.1.0 - given.1.0) exit.0.now ≡ take (given.1.1.0 - given.1.0) (drop given.1.0 given.0.now)
  left_kept low high = ap (take (given.1.1.0 - given.1.0)) call ∙ front_kept given.0.now given.1.0 given.1.1.0 low high

-- so the heading, given room, and then a run from the start: the table of the whole input
pub run_table : (κs : _) (given : _) (answer : _) (exit : _) → put_heading.Learnt κs given answer exit → line_room ≤ length given.0.now
    → (input written : List ℕ) → Run false 1 [] input written → (n : ℕ) × (answer ≡ Some n) × (take n exit.0.now ++ written ≡ table_of input)
unfolding table_of
run_table κs given answer exit call room input written run =
    let h = heading_put κs given answer exit call room in
    (h.0, h.1, ap₂ ◌++◌ h.2 (run_lines false 1 [] input written (λ e. absurd (false≢true e)) run))
