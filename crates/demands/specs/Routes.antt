-- What reading and writing routes are, of the calls themselves: whatever they are given, answer and leave. For each family, and for each form: Plain is
-- read with Add-Path and the guess off, Tagged with Add-Path on (`fixed` is the setting of a form).
-- Assumes nothing.
use Rattle.std.specs.Prelude.{ℕ, ◌*◌, ◌/◌, ◌≤◌, ◌≡◌, List, map, length, take, Result, Ok}
use Rattle.std.proofs.Common.{sym, ap, ap₂, ◌∙◌}
use Rattle.std.specs.Borrow.{Bor, MutBor}
use Rattle.wire.specs.Cutting.{Cutting}
use Rattle.wire.specs.Number.{Bytes, Words}
use Rattle.wire.specs.Refusal.{list_limit}
use Rattle.wire.specs.Store.{laid}
use Rattle.wire.specs.Walk.{pieces, flat}
use Rattle.wire.specs.declared.refusal.Refusal.{Refusal}
use Rattle.families.specs.Family.{max_of}
use Rattle.families.specs.declared.AddPath.{AddPath}
use Rattle.families.specs.declared.AddPath.TheVariants.{Off, Guess}
use Rattle.families.specs.declared.Afi.{Afi}
use Rattle.families.specs.declared.Form.{Form}
use Rattle.families.specs.declared.Form.TheVariants.{Plain}
use Rattle.families.proofs.FamilyLaws.{max_small}
use Rattle.routes.specs.List.{fixed, step_of, list_of, hosts_of, section_of}
use Rattle.routes.specs.Prefix.{item_row, words}
use Rattle.routes.specs.WellFormed.{WellFormed, NoZeroFirst}
use Rattle.routes.specs.Promises.{rows_alone, count_answer, read_answer}
use Rattle.routes.specs.declared.Routes.{Routes}
use Rattle.routes.proofs.ListLaws.{told_list}
use Rattle.routes.proofs.count_nlri_list.Reads as count_nlri_list
use Rattle.routes.proofs.count_nlri.Reads as count_nlri
use Rattle.route_reader.proofs.parse_nlri_list.Reads as parse_nlri_list
use Rattle.route_reader.proofs.read_nlri.Reads as read_nlri
use Rattle.route_writer.specs.Promises.{write_answer, out_after}
use Rattle.route_writer.proofs.encode_nlri_prefixes.Reads as encode_nlri_prefixes
use Rattle.route_writer.proofs.RouteTheorems as Laws

-- ---- the words of the statements

-- A call is given what stands at these places among its arguments; of what it is lent, `store exit` and `output exit` are what that holds at exit.

-- a reading call: the bytes, the family, the Add-Path setting and, unless it counts, the store
abbrev pub bytes : {R : Type 0} → Bor (List ℕ) × R → List ℕ
bytes given = given.0.now

abbrev pub family : {A R : Type 0} → A × (Afi × R) → Afi
family given = given.1.0

abbrev pub setting : {A B R : Type 0} → A × (B × (AddPath × R)) → AddPath
setting given = given.1.1.0

abbrev pub store : {A B C R : Type 0} → A × (B × (C × (MutBor (List ℕ) × R))) → List ℕ
store given = given.1.1.1.0.now

-- the writing call: the rows, the family, the form and the output
abbrev pub rows : {R : Type 0} → Bor (List ℕ) × R → List ℕ
rows given = given.0.now

abbrev pub form_asked : {A B R : Type 0} → A × (B × (Form × R)) → Form
form_asked given = given.1.1.0

abbrev pub output : {A B C R : Type 0} → A × (B × (C × (MutBor (List ℕ) × R))) → List ℕ
output given = given.1.1.1.0.now

-- what a reading call answers of its rows, or its refusal: of these are the statements here, and of the rows with a host bit those of HostBits
abbrev pub told : Result Routes Refusal → Result ℕ Refusal
told = rows_alone

-- a cutting of bytes into well-formed routes of a family, in a form
abbrev pub Cut : Afi → Form → List ℕ → List (List ℕ) → Type 0
Cut afi form = Cutting (WellFormed (max_of afi) form)

-- the items of the reading with Add-Path and the guess off, before its refusal
abbrev pub off_items : Afi → List ℕ → List (List ℕ)
off_items afi = pieces (step_of (max_of afi) Off) Plain

-- what each promise says of the answer
module _ (κs : _) (given : _) (answer : _) (exit : _) where
  read_list_lem : parse_nlri_list.Learnt κs given answer exit → told answer ≡ read_answer (bytes given) (list_of (bytes given) (max_of (family given)) (setting given)) (length (store given))
  read_list_lem call = told_list _ (hosts_of (bytes given) (max_of (family given)) (setting given)) answer call.0

module _ (κs : _) (given : _) (answer : _) (exit : _) where
  read_section_lem : read_nlri.Learnt κs given answer exit → told answer ≡ read_answer (bytes given) (section_of (bytes given) (max_of (family given)) (setting given)) (length (store given))
  read_section_lem call = told_list _ (hosts_of (bytes given) (max_of (family given)) (setting given)) answer call.0

module _ (κs : _) (given : _) (answer : _) (exit : _) where
  count_list_lem : count_nlri_list.Learnt κs given answer exit → told answer ≡ count_answer (bytes given) (list_of (bytes given) (max_of (family given)) (setting given))
  count_list_lem call = told_list _ (hosts_of (bytes given) (max_of (family given)) (setting given)) answer call

module _ (κs : _) (given : _) (answer : _) (exit : _) where
  count_section_lem : count_nlri.Learnt κs given answer exit → told answer ≡ count_answer (bytes given) (section_of (bytes given) (max_of (family given)) (setting given))
  count_section_lem call = told_list _ (hosts_of (bytes given) (max_of (family given)) (setting given)) answer call

-- ---- 1. Bytes are accepted, given room, exactly if they can be cut into well-formed routes.
-- A call that accepts has a cutting, with as many items as rows, within the limit and with room; a cutting within the limit and with room is accepted.

module _ (κs : _) (given : _) (answer : _) (exit : _) (call : parse_nlri_list.Learnt κs given answer exit) (form : Form) (on : setting given ≡ fixed form) where
  pub list_accepted : (n : ℕ) → told answer ≡ Ok n
      → (items : List (List ℕ)) × Cut (family given) form (bytes given) items × (length items ≡ n) × (length (bytes given) ≤ list_limit) × (n ≤ length (store given) / 6)
  list_accepted n said = Laws.accepted_cut (Laws.list_reads (max_of (family given)) form (bytes given) (setting given) on) (store given) n (sym (read_list_lem κs given answer exit call) ∙ said)

  pub list_cut : (items : List (List ℕ)) → Cut (family given) form (bytes given) items → length (bytes given) ≤ list_limit → length items ≤ length (store given) / 6
      → told answer ≡ Ok (length items)
  list_cut items cut short room =
      read_list_lem κs given answer exit call ∙ Laws.cut_accepted (Laws.list_reads (max_of (family given)) form (bytes given) (setting given) on) (store given) items cut short room

-- a section of an UPDATE: the rule of one byte refuses nothing that has a cutting
module _ (κs : _) (given : _) (answer : _) (exit : _) (call : read_nlri.Learnt κs given answer exit) (form : Form) (on : setting given ≡ fixed form) where
  pub section_accepted : (n : ℕ) → told answer ≡ Ok n
      → (items : List (List ℕ)) × Cut (family given) form (bytes given) items × (length items ≡ n) × (length (bytes given) ≤ list_limit) × (n ≤ length (store given) / 6)
  section_accepted n said = Laws.accepted_cut (Laws.section_reads (max_of (family given)) form (bytes given) (setting given) on) (store given) n (sym (read_section_lem κs given answer exit call) ∙ said)

  pub section_cut : (items : List (List ℕ)) → Cut (family given) form (bytes given) items → length (bytes given) ≤ list_limit → length items ≤ length (store given) / 6
      → told answer ≡ Ok (length items)
  section_cut items cut short room =
      read_section_lem κs given answer exit call ∙ Laws.cut_accepted (Laws.section_reads (max_of (family given)) form (bytes given) (setting given) on) (store given) items cut short room

-- counting needs no room
module _ (κs : _) (given : _) (answer : _) (exit : _) (call : count_nlri_list.Learnt κs given answer exit) (form : Form) (on : setting given ≡ fixed form) where
  pub list_counted : (n : ℕ) → told answer ≡ Ok n
      → (items : List (List ℕ)) × Cut (family given) form (bytes given) items × (length items ≡ n) × (length (bytes given) ≤ list_limit)
  list_counted n said = Laws.counted_cut (Laws.list_reads (max_of (family given)) form (bytes given) (setting given) on) n (sym (count_list_lem κs given answer exit call) ∙ said)

  pub list_cut_counted : (items : List (List ℕ)) → Cut (family given) form (bytes given) items → length (bytes given) ≤ list_limit → told answer ≡ Ok (length items)
  list_cut_counted items cut short = count_list_lem κs given answer exit call ∙ Laws.cut_counted (Laws.list_reads (max_of (family given)) form (bytes given) (setting given) on) items cut short

module _ (κs : _) (given : _) (answer : _) (exit : _) (call : count_nlri.Learnt κs given answer exit) (form : Form) (on : setting given ≡ fixed form) where
  pub section_counted : (n : ℕ) → told answer ≡ Ok n
      → (items : List (List ℕ)) × Cut (family given) form (bytes given) items × (length items ≡ n) × (length (bytes given) ≤ list_limit)
  section_counted n said = Laws.counted_cut (Laws.section_reads (max_of (family given)) form (bytes given) (setting given) on) n (sym (count_section_lem κs given answer exit call) ∙ said)

  pub section_cut_counted : (items : List (List ℕ)) → Cut (family given) form (bytes given) items → length (bytes given) ≤ list_limit → told answer ≡ Ok (length items)
  section_cut_counted items cut short = count_section_lem κs given answer exit call ∙ Laws.cut_counted (Laws.section_reads (max_of (family given)) form (bytes given) (setting given) on) items cut short

-- ---- 2. There is one cutting.

pub one_cutting : (afi : Afi) (form : Form) (s : List ℕ) (items items' : List (List ℕ)) → Cut afi form s items → Cut afi form s items' → items ≡ items'
one_cutting afi form = Laws.one_cutting (max_of afi) form

-- ---- 3. What is read are its items: as many rows, and the store at exit holds them from its front.

module _ (κs : _) (given : _) (answer : _) (exit : _) (call : parse_nlri_list.Learnt κs given answer exit) (form : Form) (on : setting given ≡ fixed form) where
  pub list_rows : (n : ℕ) → told answer ≡ Ok n → (items : List (List ℕ)) → Cut (family given) form (bytes given) items
      → (n ≡ length items) × (store exit ≡ laid (store given) 0 (flat words (map (item_row form) items)))
  list_rows n said items cut =
      let r = Laws.rows_stored (Laws.list_reads (max_of (family given)) form (bytes given) (setting given) on) (store given) n (sym (read_list_lem κs given answer exit call) ∙ said) items cut in
      (r.0, call.1 ∙ r.1)

module _ (κs : _) (given : _) (answer : _) (exit : _) (call : read_nlri.Learnt κs given answer exit) (form : Form) (on : setting given ≡ fixed form) where
  pub section_rows : (n : ℕ) → told answer ≡ Ok n → (items : List (List ℕ)) → Cut (family given) form (bytes given) items
      → (n ≡ length items) × (store exit ≡ laid (store given) 0 (flat words (map (item_row form) items)))
  section_rows n said items cut =
      let r = Laws.rows_stored (Laws.section_reads (max_of (family given)) form (bytes given) (setting given) on) (store given) n (sym (read_section_lem κs given answer exit call) ∙ said) items cut in
      (r.0, call.1 ∙ r.1)

-- ---- 4. Writing what was read gives the bytes, at the front of any output that has room for them.

module _ (κs : _) (given : _) (answer : _) (exit : _) (call : parse_nlri_list.Learnt κs given answer exit)
    (κs' : _) (given' : _) (answer' : _) (exit' : _) (call' : encode_nlri_prefixes.Learnt κs' given' answer' exit') where
  pub written_back : (n : ℕ) → told answer ≡ Ok n → setting given ≡ fixed (form_asked given') → family given ≡ family given' → rows given' ≡ take (6 * n) (store exit)
      → Bytes (bytes given) → length (bytes given) ≤ length (output given')
      → (answer' ≡ Ok (length (bytes given))) × (output exit' ≡ laid (output given') 0 (bytes given))
  written_back n said on alike back each room =
      let form : Form = form_asked given' in
      let read = Laws.list_reads (max_of (family given)) form (bytes given) (setting given) on in
      let r = Laws.written_back (max_of (family given)) (max_small (family given)) form (bytes given) (list_of (bytes given) (max_of (family given)) (setting given)) (store given) n read
      (sym (read_list_lem κs given answer exit call) ∙ said) each (output given') room in
      let same = back ∙ ap (take (6 * n)) call.1 in (
        call'.0 ∙ ap₂ (λ (ws : List ℕ) (afi : Afi). write_answer ws (max_of afi) form (length (output given'))) same (sym alike) ∙ r.0,
        call'.1 ∙ ap₂ (λ (ws : List ℕ) (afi : Afi). out_after ws (max_of afi) form (output given')) same (sym alike) ∙ r.1,
      )

-- ---- 5. Two stores of 32-bit numbers that the writer accepts and whose bytes are the same are equal.

module _ (κs : _) (given : _) (answer : _) (exit : _) (call : encode_nlri_prefixes.Learnt κs given answer exit)
    (κs' : _) (given' : _) (answer' : _) (exit' : _) (call' : encode_nlri_prefixes.Learnt κs' given' answer' exit') where
  pub stores_equal : family given ≡ family given' → form_asked given ≡ form_asked given' → Words (rows given) → Words (rows given')
      → (n n' : ℕ) → answer ≡ Ok n → answer' ≡ Ok n' → take n (output exit) ≡ take n' (output exit') → rows given ≡ rows given'
  stores_equal alike form wide wide' n n' said said' same =
      Laws.stores_equal (max_of (family given)) (max_small (family given)) (form_asked given) (rows given) (rows given') (output given) (output given') n n' wide wide'
      (sym call.0 ∙ said)
      (ap₂ (λ (afi : Afi) (f : Form). write_answer (rows given') (max_of afi) f (length (output given'))) alike form ∙ sym call'.0 ∙ said')
      (ap (take n) (sym call.1)
      ∙ same
      ∙ ap (take n') call'.1
      ∙ ap₂ (λ (afi : Afi) (f : Form). take n' (out_after (rows given') (max_of afi) f (output given'))) (sym alike) (sym form))

-- ---- 6. The guess on answers and leaves what the guess off does, wherever no item of the guess-off reading starts with a zero byte: every refusal, row and mark too.

module _ (κs : _) (given : _) (answer : _) (exit : _) (call : parse_nlri_list.Learnt κs given answer exit)
    (κs' : _) (given' : _) (answer' : _) (exit' : _) (call' : parse_nlri_list.Learnt κs' given' answer' exit') where
  pub list_guess : setting given ≡ Guess → setting given' ≡ Off → bytes given ≡ bytes given' → family given ≡ family given' → store given ≡ store given'
      → NoZeroFirst (off_items (family given) (bytes given)) → (told answer ≡ told answer') × (store exit ≡ store exit')
  list_guess on off same alike stores nonzero =
      let reading = Laws.guess_list _ _ (bytes given) (bytes given') (setting given) (setting given') same (ap max_of alike) on off nonzero in
      let r = Laws.same_read (bytes given) (bytes given') _ _ same reading (store given) (store given') stores in
      (read_list_lem κs given answer exit call ∙ r.0 ∙ sym (read_list_lem κs' given' answer' exit' call'), call.1 ∙ r.1 ∙ sym call'.1)

module _ (κs : _) (given : _) (answer : _) (exit : _) (call : read_nlri.Learnt κs given answer exit)
    (κs' : _) (given' : _) (answer' : _) (exit' : _) (call' : read_nlri.Learnt κs' given' answer' exit') where
  pub section_guess : setting given ≡ Guess → setting given' ≡ Off → bytes given ≡ bytes given' → family given ≡ family given' → store given ≡ store given'
      → NoZeroFirst (off_items (family given) (bytes given)) → (told answer ≡ told answer') × (store exit ≡ store exit')
  section_guess on off same alike stores nonzero =
      let reading = Laws.guess_section _ _ (bytes given) (bytes given') (setting given) (setting given') same (ap max_of alike) on off nonzero in
      let r = Laws.same_read (bytes given) (bytes given') _ _ same reading (store given) (store given') stores in
      (read_section_lem κs given answer exit call ∙ r.0 ∙ sym (read_section_lem κs' given' answer' exit' call'), call.1 ∙ r.1 ∙ sym call'.1)

module _ (κs : _) (given : _) (answer : _) (exit : _) (call : count_nlri_list.Learnt κs given answer exit)
    (κs' : _) (given' : _) (answer' : _) (exit' : _) (call' : count_nlri_list.Learnt κs' given' answer' exit') where
  pub list_count_guess : setting given ≡ Guess → setting given' ≡ Off → bytes given ≡ bytes given' → family given ≡ family given'
      → NoZeroFirst (off_items (family given) (bytes given)) → told answer ≡ told answer'
  list_count_guess on off same alike nonzero =
      let reading = Laws.guess_list _ _ (bytes given) (bytes given') (setting given) (setting given') same (ap max_of alike) on off nonzero in
      count_list_lem κs given answer exit call ∙ Laws.same_count (bytes given) (bytes given') _ _ same reading ∙ sym (count_list_lem κs' given' answer' exit' call')

module _ (κs : _) (given : _) (answer : _) (exit : _) (call : count_nlri.Learnt κs given answer exit)
    (κs' : _) (given' : _) (answer' : _) (exit' : _) (call' : count_nlri.Learnt κs' given' answer' exit') where
  pub section_count_guess : setting given ≡ Guess → setting given' ≡ Off → bytes given ≡ bytes given' → family given ≡ family given'
      → NoZeroFirst (off_items (family given) (bytes given)) → told answer ≡ told answer'
  section_count_guess on off same alike nonzero =
      let reading = Laws.guess_section _ _ (bytes given) (bytes given') (setting given) (setting given') same (ap max_of alike) on off nonzero in
      count_section_lem κs given answer exit call ∙ Laws.same_count (bytes given) (bytes given') _ _ same reading ∙ sym (count_section_lem κs' given' answer' exit' call')
