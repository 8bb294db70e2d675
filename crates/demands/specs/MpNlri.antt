-- MP_REACH_NLRI and MP_UNREACH_NLRI (document 02, K7), of the calls themselves: whatever they are given, answer and leave. For each form: Plain is read with
-- Add-Path and the guess off, Tagged with Add-Path on (`fixed` is the setting of a form).
-- Assumes nothing.
use Rattle.std.specs.Prelude.{ℕ, ◌+◌, ◌*◌, ◌/◌, ◌≤◌, ◌≡◌, refl, List, map, Bool, false, length, take, Result, Ok}
use Rattle.std.proofs.Common.{sym, ap, ap₂, subst, ◌∙◌, arith}
use Rattle.std.specs.Borrow.{Bor, MutBor}
use Rattle.wire.specs.Answer.{filled, count_meaning}
use Rattle.wire.specs.Extent.{PartOf}
use Rattle.wire.specs.Number.{Bytes, Words}
use Rattle.wire.specs.Refusal.{list_limit}
use Rattle.wire.specs.Store.{laid}
use Rattle.wire.specs.Walk.{flat}
use Rattle.wire.specs.Verdict.{fine}
use Rattle.wire.specs.declared.refusal.Refusal.{Refusal}
use Rattle.wire.proofs.AnswerLaws.{written_front}
use Rattle.families.specs.Family.{max_of}
use Rattle.families.specs.declared.Afi.TheVariants.{Ipv6}
use Rattle.families.specs.declared.AddPath.{AddPath}
use Rattle.families.specs.declared.Form.{Form}
use Rattle.routes.specs.List.{fixed}
use Rattle.routes.specs.Prefix.{item_row, words}
use Rattle.routes.specs.declared.Row.{Row}
use Rattle.routes.specs.declared.Routes.{Routes}
use Rattle.route_bytes.specs.Encode.{writing}
use Rattle.mp_nlri.specs.Value.{hop_start, next_hop_at, reach_bytes, unreach_bytes}
use Rattle.mp_nlri.specs.Read.{rows_of, reach_list, unreach_list, read_reach, reach_after, read_unreach, unreach_after}
use Rattle.mp_nlri.specs.Write.{route_bytes, write_reach, write_unreach}
use Rattle.mp_nlri.specs.WellFormed.{HopSize, ReachFormed, ReachAccepted, UnreachAccepted}
use Rattle.mp_nlri.specs.declared.Head.{Head}
use Rattle.mp_nlri.specs.declared.Reach.{Reach}
use Rattle.mp_nlri.proofs.ValueLaws.{head_by}
use Rattle.mp_nlri.proofs.MpTheorems as Reading
use Rattle.mp_nlri.proofs.WriteTheorems as Writing
use Rattle.mp_nlri.proofs.next_hop_part.Reads as next_hop_part
use Rattle.mp_nlri.proofs.count_mp_reach_nlri.Reads as count_mp_reach_nlri
use Rattle.mp_nlri.proofs.parse_mp_reach_nlri.Reads as parse_mp_reach_nlri
use Rattle.mp_nlri.proofs.encode_mp_reach_nlri.Reads as encode_mp_reach_nlri
use Rattle.mp_nlri.proofs.count_mp_unreach_nlri.Reads as count_mp_unreach_nlri
use Rattle.mp_nlri.proofs.parse_mp_unreach_nlri.Reads as parse_mp_unreach_nlri
use Rattle.mp_nlri.proofs.encode_mp_unreach_nlri.Reads as encode_mp_unreach_nlri

-- ---- the words of the statements

-- A call is given what stands at these places among its arguments; of what it is lent, `store exit` and `out exit` are what that holds at exit.

-- a reading call: the value, the Add-Path setting and, unless it counts, the store
abbrev pub value : {R : Type 0} → Bor (List ℕ) × R → List ℕ
value given = given.0.now

abbrev pub setting : {A R : Type 0} → A × (AddPath × R) → AddPath
setting given = given.1.0

abbrev pub store : {A B R : Type 0} → A × (B × (MutBor (List ℕ) × R)) → List ℕ
store given = given.1.1.0.now

-- the call that writes MP_UNREACH_NLRI: the rows, the form and the output
abbrev pub rows : {R : Type 0} → Bor (List ℕ) × R → List ℕ
rows given = given.0.now

abbrev pub form : {A R : Type 0} → A × (Form × R) → Form
form given = given.1.0

abbrev pub out : {A B R : Type 0} → A × (B × (MutBor (List ℕ) × R)) → List ℕ
out given = given.1.1.0.now

-- the one that writes MP_REACH_NLRI: the next hop before them
abbrev pub next_hop : {R : Type 0} → Bor (List ℕ) × R → List ℕ
next_hop given = given.0.now

-- what a call tells that does not refuse: the next hop's length, the flag, the rows, and those with a host bit
abbrev pub reach_told : ℕ → Bool → ℕ → ℕ → Result Reach Refusal
reach_told size flagged rows hosts = Ok (record { next_hop = size; reserved = flagged; rows = rows; hosts = hosts })

abbrev pub rows_told : ℕ → ℕ → Result Routes Refusal
rows_told rows hosts = Ok (record { rows = rows; hosts = hosts })

-- ---- 1. A value is accepted, given room, exactly if it has the RFCs' shape, octet by octet, with routes that can be cut.
-- `ReachAccepted` and `UnreachAccepted` are that, with what is told of it: the next hop's length, the flag, the rows, and those with a host bit.

module _ (κs : _) (given : _) (answer : _) (exit : _) (call : parse_mp_reach_nlri.Learnt κs given answer exit) (in_form : Form) (on : setting given ≡ fixed in_form)
    (size : ℕ) (flagged : Bool) (n hosts : ℕ) where
  pub reach_accepted : answer ≡ reach_told size flagged n hosts → ReachAccepted in_form (value given) size flagged n hosts × (n ≤ length (store given) / 6)
  reach_accepted said = Reading.reach_read (value given) in_form (setting given) on size flagged n hosts (store given) (sym call.0 ∙ said)

  pub reach_formed : ReachAccepted in_form (value given) size flagged n hosts → n ≤ length (store given) / 6 → answer ≡ reach_told size flagged n hosts
  reach_formed h room = call.0 ∙ Reading.accepted_read (value given) in_form (setting given) on size flagged n hosts h (store given) room

  -- the store at exit holds the rows of its items from the front
  pub reach_rows_lem : answer ≡ reach_told size flagged n hosts → (h : ReachAccepted in_form (value given) size flagged n hosts)
      → store exit ≡ laid (store given) 0 (flat words (map (item_row in_form) h.routes.items))
  reach_rows_lem said h =
      call.1
      ∙ ap (λ (a : Result Reach Refusal). reach_after a (value given) (setting given) (store given)) said
      ∙ ap (λ (l : List Row). laid (store given) 0 (flat words l)) (Reading.accepted_rows (value given) in_form (setting given) on size flagged n hosts h)

module _ (κs : _) (given : _) (answer : _) (exit : _) (call : count_mp_reach_nlri.Learnt κs given answer exit) (in_form : Form) (on : setting given ≡ fixed in_form)
    (size : ℕ) (flagged : Bool) (n hosts : ℕ) where
  pub reach_counted : answer ≡ reach_told size flagged n hosts → ReachAccepted in_form (value given) size flagged n hosts
  reach_counted said = Reading.reach_counted (value given) in_form (setting given) on size flagged n hosts (sym call ∙ said)

  pub reach_formed_counted : ReachAccepted in_form (value given) size flagged n hosts → answer ≡ reach_told size flagged n hosts
  reach_formed_counted h = call ∙ Reading.accepted_counted (value given) in_form (setting given) on size flagged n hosts h

module _ (κs : _) (given : _) (answer : _) (exit : _) (call : parse_mp_unreach_nlri.Learnt κs given answer exit) (in_form : Form) (on : setting given ≡ fixed in_form) (n hosts : ℕ) where
  pub unreach_accepted : answer ≡ rows_told n hosts → UnreachAccepted in_form (value given) n hosts × (n ≤ length (store given) / 6)
  unreach_accepted said = Reading.unreach_read (value given) in_form (setting given) on n hosts (store given) (sym call.0 ∙ said)

  pub unreach_formed : UnreachAccepted in_form (value given) n hosts → n ≤ length (store given) / 6 → answer ≡ rows_told n hosts
  unreach_formed h room = call.0 ∙ Reading.withdrawn_read (value given) in_form (setting given) on n hosts h (store given) room

  pub unreach_rows_lem : answer ≡ rows_told n hosts → (h : UnreachAccepted in_form (value given) n hosts)
      → store exit ≡ laid (store given) 0 (flat words (map (item_row in_form) h.routes.items))
  unreach_rows_lem said h =
      call.1
      ∙ ap (λ (a : Result Routes Refusal). unreach_after a (value given) (setting given) (store given)) said
      ∙ ap (λ (l : List Row). laid (store given) 0 (flat words l)) (Reading.withdrawn_rows (value given) in_form (setting given) on n hosts h)

module _ (κs : _) (given : _) (answer : _) (exit : _) (call : count_mp_unreach_nlri.Learnt κs given answer exit) (in_form : Form) (on : setting given ≡ fixed in_form) (n hosts : ℕ) where
  pub unreach_counted : answer ≡ rows_told n hosts → UnreachAccepted in_form (value given) n hosts
  unreach_counted said = Reading.unreach_counted (value given) in_form (setting given) on n hosts (sym call ∙ said)

  pub unreach_formed_counted : UnreachAccepted in_form (value given) n hosts → answer ≡ rows_told n hosts
  unreach_formed_counted h = call ∙ Reading.withdrawn_counted (value given) in_form (setting given) on n hosts h

-- there is one such shape; Routes has that there is one cutting
pub one_shape : (hop hop' list list' v : List ℕ) (r r' : ℕ) → ReachFormed hop r list v → ReachFormed hop' r' list' v → (hop ≡ hop') × (r ≡ r') × (list ≡ list')
one_shape = Reading.one_shape

-- the next hop that is handed back is that of the shape, at the fifth octet, whatever the routes are
module _ (κs : _) (given : _) (part : _) (exit : _) (call : next_hop_part.Learnt κs given part exit) where
  pub next_hop_is : (hop : List ℕ) (reserved : ℕ) (list : List ℕ) → ReachFormed hop reserved list (value given) → length (value given) ≤ list_limit
      → (part.now ≡ hop) × (part.ref_ptr ≡ (given.0.ref_ptr.0, hop_start + given.0.ref_ptr.1))
  next_hop_is hop reserved list h short =
      let head = head_by (value given) _ _ (Reading.formed_head hop reserved list (value given) h short) in
      let is = subst (λ (a : Result Head Refusal). PartOf given.0 (next_hop_at a) part) head call in
      (is.holds ∙ Reading.formed_next_hop hop reserved list (value given) h, is.lies)

-- what a writer that does not refuse leaves
filled_bytes : (a : Result ℕ Refusal) (n : ℕ) (bytes d : List ℕ) → a ≡ Ok n → filled (count_meaning a) bytes d ≡ laid d 0 bytes
filled_bytes a n bytes d e = ap (λ (x : Result ℕ Refusal). filled (count_meaning x) bytes d) e

-- ---- 2. Writing what was read gives as many bytes, and the same exactly where the reserved byte was 0.

module _ (κs : _) (given : _) (answer : _) (exit : _) (call : parse_mp_reach_nlri.Learnt κs given answer exit)
    (κs' : _) (given' : _) (answer' : _) (exit' : _) (call' : encode_mp_reach_nlri.Learnt κs' given' answer' exit')
    (size : ℕ) (flagged : Bool) (n hosts : ℕ) (said : answer ≡ reach_told size flagged n hosts) (on : setting given ≡ fixed (form given'.1)) where
  pub reach_written_back : (h : ReachAccepted (form given'.1) (value given) size flagged n hosts) → next_hop given' ≡ h.hop → rows given'.1 ≡ take (6 * n) (store exit)
      → Bytes (value given) → length (value given) ≤ length (out given'.1)
      → (answer' ≡ Ok (length (value given)))
      × ((flagged ≡ false → out exit'.1 ≡ laid (out given'.1) 0 (value given))
      × (take (length (value given)) (out exit'.1) ≡ value given → flagged ≡ false))
  reach_written_back h hop back each room =
      let in_form : Form = form given'.1 in
      let stored = reach_accepted κs given answer exit call in_form on size flagged n hosts said in
      let same : rows given'.1 ≡ Writing.reach_rows (value given) in_form size flagged n hosts h each =
      back ∙ ap (take (6 * n)) (reach_rows_lem κs given answer exit call in_form on size flagged n hosts said h) ∙ Writing.stored_words in_form h.list n hosts h.routes (store given) stored.1 in
      let all : List ℕ = reach_bytes (next_hop given') (route_bytes (rows given'.1) in_form) in
      let bytes : all ≡ reach_bytes h.hop (route_bytes (Writing.reach_rows (value given) in_form size flagged n hosts h each) in_form) =
      ap₂ (λ (a b : List ℕ). reach_bytes a (route_bytes b in_form)) hop same in
      let wrote : answer' ≡ Ok (length (value given)) =
      call'.0
      ∙ ap₂ (λ (a b : List ℕ). write_reach (length a) b in_form (length (out given'.1))) hop same
      ∙ Writing.reach_back (value given) in_form size flagged n hosts h each (length (out given'.1)) room in
      let long : length all ≡ length (value given) = ap length bytes ∙ Writing.same_length (value given) in_form size flagged n hosts h each in (
        wrote,
        (
          λ off.
              call'.1 ∙ filled_bytes answer' _ all (out given'.1) wrote ∙ ap (laid (out given'.1) 0) (bytes ∙ Writing.back_same (value given) in_form size flagged n hosts h each off),
          λ again.
              Writing.same_back (value given) in_form size flagged n hosts h each
              (sym bytes ∙ sym (written_front answer' (length (value given)) all (out given'.1) wrote long) ∙ ap (take (length (value given))) (sym call'.1) ∙ again),
        ),
      )

module _ (κs : _) (given : _) (answer : _) (exit : _) (call : parse_mp_unreach_nlri.Learnt κs given answer exit)
    (κs' : _) (given' : _) (answer' : _) (exit' : _) (call' : encode_mp_unreach_nlri.Learnt κs' given' answer' exit')
    (n hosts : ℕ) (said : answer ≡ rows_told n hosts) (on : setting given ≡ fixed (form given')) where
  pub unreach_written_back : rows given' ≡ take (6 * n) (store exit) → Bytes (value given) → length (value given) ≤ length (out given')
      → (answer' ≡ Ok (length (value given))) × (out exit' ≡ laid (out given') 0 (value given))
  unreach_written_back back each room =
      let stored = unreach_accepted κs given answer exit call (form given') on n hosts said in
      let h = stored.0 in
      let same : rows given' ≡ Writing.unreach_rows (value given) (form given') n hosts h each =
      back ∙ ap (take (6 * n)) (unreach_rows_lem κs given answer exit call (form given') on n hosts said h) ∙ Writing.stored_words (form given') h.list n hosts h.routes (store given) stored.1 in
      let bytes : unreach_bytes (route_bytes (rows given') (form given')) ≡ value given =
      ap (λ (b : List ℕ). unreach_bytes (route_bytes b (form given'))) same ∙ Writing.withdrawn_same (value given) (form given') n hosts h each in
      let wrote : answer' ≡ Ok (length (value given)) =
      call'.0 ∙ ap (λ (b : List ℕ). write_unreach b (form given') (length (out given'))) same ∙ Writing.unreach_back (value given) (form given') n hosts h each (length (out given')) room in
      (wrote, call'.1 ∙ filled_bytes answer' _ _ (out given') wrote ∙ ap (laid (out given') 0) bytes)

-- ---- 3. What is written is read again: the same next hop and rows, with the flag off. And what keeps the limit is written, given room.

-- any call that writes MP_REACH_NLRI
module _ (κs : _) (given : _) (answer : _) (exit : _) (call : encode_mp_reach_nlri.Learnt κs given answer exit) where
  abbrev hop : List ℕ
  hop = next_hop given

  abbrev reach_rows : List ℕ
  reach_rows = rows given.1

  abbrev reach_form : Form
  reach_form = form given.1

  abbrev reach_value : List ℕ
  reach_value = reach_bytes hop (route_bytes reach_rows reach_form)

  pub reach_is_written : HopSize (length hop) → (writing reach_rows (max_of Ipv6) reach_form).verdict ≡ fine → length reach_value ≤ list_limit → length reach_value ≤ length (out given.1)
      → answer ≡ Ok (length reach_value)
  reach_is_written size good short room = call.0 ∙ Writing.reach_written_lem hop reach_rows reach_form (length (out given.1)) size good short room

  module _ (n : ℕ) (wrote : answer ≡ Ok n) where
    found : HopSize (length hop) × ((writing reach_rows (max_of Ipv6) reach_form).verdict ≡ fine) × (length reach_value ≡ n) × (n ≤ list_limit) × (n ≤ length (out given.1))
    found = Writing.reach_wrote hop reach_rows reach_form (length (out given.1)) n (sym call.0 ∙ wrote)

    written : take n (out exit.1) ≡ reach_value
    written = ap (take n) call.1 ∙ written_front answer n reach_value (out given.1) wrote found.2

    short : length reach_value ≤ list_limit
    short = omega (arith, found.2, found.3)

    -- by any call for its next hop
    pub next_hop_again : (κs' : _) (given' : _) (part : _) (exit' : _) → next_hop_part.Learnt κs' given' part exit' → value given' ≡ take n (out exit.1) → part.now ≡ hop
    next_hop_again κs' given' part exit' read same =
        let is : value given' ≡ reach_value = same ∙ written in
        (next_hop_is κs' given' part exit' read hop 0 (route_bytes reach_rows reach_form)
        (subst (ReachFormed hop 0 (route_bytes reach_rows reach_form)) (sym is) (Writing.reach_shape hop (route_bytes reach_rows reach_form) found.0))
        (rw is short)).0

    -- and by any call that reads it in that form, with a store as large as the one that was written
    pub reach_again : Words reach_rows → (κs' : _) (given' : _) (answer' : _) (exit' : _) → parse_mp_reach_nlri.Learnt κs' given' answer' exit'
        → value given' ≡ take n (out exit.1) → setting given' ≡ fixed reach_form → length reach_rows ≤ length (store given')
        → (hosts : ℕ) × (answer' ≡ reach_told (length hop) false (length reach_rows / 6) hosts) × (store exit' ≡ laid (store given') 0 reach_rows)
    reach_again wide κs' given' answer' exit' read same on room =
        let is : value given' ≡ reach_value = same ∙ written in
        let hosts : ℕ = Writing.hosts_again reach_rows reach_form wide found.1 in
        let h = Writing.reach_again reach_rows reach_form wide found.1 hop found.0 short in
        let told : answer' ≡ reach_told (length hop) false (length reach_rows / 6) hosts =
        read.0
        ∙ ap₂ (λ (v : List ℕ) (m : AddPath). read_reach v m (length (store given'))) is on
        ∙ Reading.accepted_read reach_value reach_form (fixed reach_form) refl (length hop) false (length reach_rows / 6) hosts h (store given') (omega arith) in (
          hosts,
          told,
          read.1
              ∙ ap (λ (a : Result Reach Refusal). reach_after a (value given') (setting given') (store given')) told
              ∙ ap₂ (λ (v : List ℕ) (m : AddPath). laid (store given') 0 (flat words (rows_of (reach_list v) m))) is on
              ∙ ap (laid (store given') 0) (Writing.reach_words reach_rows reach_form wide found.1 hop found.0),
        )

-- any call that writes MP_UNREACH_NLRI
module _ (κs : _) (given : _) (answer : _) (exit : _) (call : encode_mp_unreach_nlri.Learnt κs given answer exit) where
  abbrev unreach_value : List ℕ
  unreach_value = unreach_bytes (route_bytes (rows given) (form given))

  pub unreach_is_written : (writing (rows given) (max_of Ipv6) (form given)).verdict ≡ fine → length unreach_value ≤ list_limit → length unreach_value ≤ length (out given)
      → answer ≡ Ok (length unreach_value)
  unreach_is_written good short room = call.0 ∙ Writing.unreach_written_lem (rows given) (form given) (length (out given)) good short room

  module _ (n : ℕ) (wrote : answer ≡ Ok n) where
    unreach_found : ((writing (rows given) (max_of Ipv6) (form given)).verdict ≡ fine) × (length unreach_value ≡ n) × (n ≤ list_limit) × (n ≤ length (out given))
    unreach_found = Writing.unreach_wrote (rows given) (form given) (length (out given)) n (sym call.0 ∙ wrote)

    unreach_put : take n (out exit) ≡ unreach_value
    unreach_put = ap (take n) call.1 ∙ written_front answer n unreach_value (out given) wrote unreach_found.1

    pub unreach_again : Words (rows given) → (κs' : _) (given' : _) (answer' : _) (exit' : _) → parse_mp_unreach_nlri.Learnt κs' given' answer' exit'
        → value given' ≡ take n (out exit) → setting given' ≡ fixed (form given) → length (rows given) ≤ length (store given')
        → (hosts : ℕ) × (answer' ≡ rows_told (length (rows given) / 6) hosts) × (store exit' ≡ laid (store given') 0 (rows given))
    unreach_again wide κs' given' answer' exit' read same on room =
        let is : value given' ≡ unreach_value = same ∙ unreach_put in
        let hosts : ℕ = Writing.hosts_again (rows given) (form given) wide unreach_found.0 in
        let h = Writing.unreach_again (rows given) (form given) wide unreach_found.0 (omega (arith, unreach_found.1, unreach_found.2)) in
        let told : answer' ≡ rows_told (length (rows given) / 6) hosts =
        read.0
        ∙ ap₂ (λ (v : List ℕ) (m : AddPath). read_unreach v m (length (store given'))) is on
        ∙ Reading.withdrawn_read unreach_value (form given) (fixed (form given)) refl (length (rows given) / 6) hosts h (store given') (omega arith) in (
          hosts,
          told,
          read.1
              ∙ ap (λ (a : Result Routes Refusal). unreach_after a (value given') (setting given') (store given')) told
              ∙ ap₂ (λ (v : List ℕ) (m : AddPath). laid (store given') 0 (flat words (rows_of (unreach_list v) m))) is on
              ∙ ap (laid (store given') 0) (Writing.unreach_words (rows given) (form given) wide unreach_found.0),
        )

-- ---- 4. Two writings that share their bytes had the same next hop and the same rows, of 32-bit numbers.

module _ (κs : _) (given : _) (answer : _) (exit : _) (call : encode_mp_reach_nlri.Learnt κs given answer exit)
    (κs' : _) (given' : _) (answer' : _) (exit' : _) (call' : encode_mp_reach_nlri.Learnt κs' given' answer' exit') where
  pub one_reach : form given.1 ≡ form given'.1 → Words (rows given.1) → Words (rows given'.1) → (n n' : ℕ) → answer ≡ Ok n → answer' ≡ Ok n'
      → take n (out exit.1) ≡ take n' (out exit'.1) → (next_hop given ≡ next_hop given') × (rows given.1 ≡ rows given'.1)
  one_reach alike wide wide' n n' said said' same =
      let f = found κs given answer exit call n said in
      let f' = found κs' given' answer' exit' call' n' said' in
      let good' = ap (λ (k : Form). (writing (rows given'.1) (max_of Ipv6) k).verdict) alike ∙ f'.1 in
      Writing.one_reach (form given.1) (rows given.1) (rows given'.1) wide wide' f.1 good' (next_hop given) (next_hop given') f.0 f'.0
      (sym (written κs given answer exit call n said)
      ∙ same
      ∙ written κs' given' answer' exit' call' n' said'
      ∙ ap (λ (k : Form). reach_bytes (next_hop given') (route_bytes (rows given'.1) k)) (sym alike))

module _ (κs : _) (given : _) (answer : _) (exit : _) (call : encode_mp_unreach_nlri.Learnt κs given answer exit)
    (κs' : _) (given' : _) (answer' : _) (exit' : _) (call' : encode_mp_unreach_nlri.Learnt κs' given' answer' exit') where
  pub one_unreach : form given ≡ form given' → Words (rows given) → Words (rows given') → (n n' : ℕ) → answer ≡ Ok n → answer' ≡ Ok n'
      → take n (out exit) ≡ take n' (out exit') → rows given ≡ rows given'
  one_unreach alike wide wide' n n' said said' same =
      let f = unreach_found κs given answer exit call n said in
      let f' = unreach_found κs' given' answer' exit' call' n' said' in
      Writing.one_unreach (form given) (rows given) (rows given') wide wide' f.0 (ap (λ (k : Form). (writing (rows given') (max_of Ipv6) k).verdict) alike ∙ f'.0)
      (sym (unreach_put κs given answer exit call n said)
      ∙ same
      ∙ unreach_put κs' given' answer' exit' call' n' said'
      ∙ ap (λ (k : Form). unreach_bytes (route_bytes (rows given') k)) (sym alike))
