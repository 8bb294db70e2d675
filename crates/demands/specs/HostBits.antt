-- Host bits (document 02, K6), of the calls themselves: a bit of a route's octets past its prefix length; and how many rows have one.
-- Assumes nothing.
use Rattle.std.specs.Prelude.{ℕ, ◌-◌, ◌^◌, ◌/◌, ◌%◌, ◌≤◌, ◌≡◌, List, ◌∷◌, ◌++◌, map, true, false, length, get_or, take, Result, Ok, Err}
use Rattle.std.proofs.Common.{sym, ap, ap₂, ◌∙◌, arith}
use Rattle.wire.specs.Answer.{flag, value_in}
use Rattle.wire.specs.Number.{Bytes}
use Rattle.wire.specs.Walk.{Reading, tally}
use Rattle.wire.specs.declared.refusal.Refusal.{Refusal}
use Rattle.families.specs.Family.{max_of, id_size}
use Rattle.families.specs.declared.Afi.{Afi}
use Rattle.families.specs.declared.AddPath.{AddPath}
use Rattle.families.specs.declared.AddPath.TheVariants.{Off, Guess}
use Rattle.families.specs.declared.Form.{Form}
use Rattle.routes.specs.Prefix.{host_bits, route_meaning}
use Rattle.routes.specs.List.{up_to, fixed, list_of, hosts_of, section_of}
use Rattle.routes.specs.Promises.{count_answer, read_answer, with_hosts, hosts_in}
use Rattle.routes.specs.WellFormed.{NoZeroFirst}
use Rattle.routes.specs.declared.Row.{Row}
use Rattle.routes.specs.declared.Routes.{Routes}
use Rattle.routes.specs.declared.Route.{Route}
use Rattle.routes.proofs.CuttingLaws.{cut_hosts}
use Rattle.routes.proofs.BitLaws.{route_bits}
use Rattle.routes.proofs.ListLaws.{fair, hosts_few, count_rows, read_rows, section_counted, told_list}
use Rattle.routes.proofs.try_parse_prefix.Reads as try_parse_prefix
use Rattle.routes.proofs.count_nlri_list.Reads as count_nlri_list
use Rattle.routes.proofs.count_nlri.Reads as count_nlri
use Rattle.route_reader.proofs.parse_nlri_list.Reads as parse_nlri_list
use Rattle.route_reader.proofs.read_nlri.Reads as read_nlri
use Rattle.route_writer.proofs.RouteTheorems.{guess_hosts}
use Rattle.updates.specs.declared.Update.{Update}
use Rattle.updates.proofs.count_bgp_update_message.Reads as count_bgp_update_message
use Rattle.demands.specs.Routes.{bytes, family, setting, store, told, Cut, off_items, list_guess, list_count_guess}

-- ---- 1. One route

-- the bit at a place of octets, the highest of the first one at 0
abbrev pub bit_at : List ℕ → ℕ → ℕ
bit_at o i = get_or o (i / 8) 0 / 2 ^ (7 - i % 8) % 2

-- any call that reads one, of an item that it took: its id where there is one, its length, and its octets. A host bit is told exactly if a bit
-- of the octets past the length is set
module _ (κs : _) (given : _) (answer : _) (exit : _) (call : try_parse_prefix.Learnt κs given answer exit) where
  pub host_told : (route : Route) → answer ≡ Ok route → Bytes (bytes given)
      → (ident o : List ℕ) (len : ℕ) → take route.prefix.used (bytes given) ≡ ident ++ (len ∷ o) → length ident ≡ id_size given.1.1.0
      → (route.host ≡ false → (i : ℕ) → len ≤ i → bit_at o i ≡ 0) × (route.host ≡ true → (i : ℕ) × (len ≤ i) × (bit_at o i ≡ 1))
  host_told route took each ident o len parts size =
      route_bits (bytes given) (max_of given.1.0) given.1.1.0 answer call route took each ident o len parts size

  -- a refused route has none
  pub host_refused : (why : Refusal) → answer ≡ Err why → value_in 7 (route_meaning answer) ≡ 0
  host_refused why refused = ap (λ (a : Result Route Refusal). value_in 7 (route_meaning a)) refused

-- ---- 2. Lists and sections, read and counted

-- of an answer about bytes, in a form: a refusal has none; of what is accepted, as many rows have one as items of the cutting, and no more than rows
pub record HostRows (afi : Afi) (form : Form) (s : List ℕ) (answer : Result Routes Refusal) : Type 0 where
  pub none : (why : Refusal) → answer ≡ Err why → hosts_in answer ≡ 0
  pub some : (n : ℕ) → told answer ≡ Ok n → (items : List (List ℕ)) → Cut afi form s items → hosts_in answer ≡ tally flag (map (host_bits form) items)
  pub few : (n : ℕ) → told answer ≡ Ok n → hosts_in answer ≤ n

host_rows_lem : (afi : Afi) (form : Form) (s : List ℕ) (mode : AddPath) → mode ≡ fixed form → (a : Result ℕ Refusal) (answer : Result Routes Refusal) → answer ≡ with_hosts a (hosts_of s (max_of afi) mode)
    → ((n : ℕ) → a ≡ Ok n → length (list_of s (max_of afi) mode).rows ≡ n) → HostRows afi form s answer
host_rows_lem afi form s mode on a answer e many =
    let all : ℕ = hosts_of s (max_of afi) mode in
    let is : (n : ℕ) → told answer ≡ Ok n → a ≡ Ok n = λ n f. sym (told_list a all answer e) ∙ f in
    let told_all : (n : ℕ) → told answer ≡ Ok n → hosts_in answer ≡ all = λ n f. ap hosts_in (e ∙ ap (λ (x : Result ℕ Refusal). with_hosts x all) (is n f)) in
    record {
      none = λ why f. ap hosts_in f;
      some = λ n f items cut. told_all n f ∙ ap (hosts_of s (max_of afi)) on ∙ cut_hosts (max_of afi) form s items cut;
      few = λ n f. omega (arith, told_all n f, many n (is n f), hosts_few (up_to (max_of afi)) (fair (max_of afi)) s mode);
    }

-- a section that is counted has the rows of a list
as_list : (s : List ℕ) (max : ℕ) (mode : AddPath) (n : ℕ) → count_answer s (section_of s max mode) ≡ Ok n → length (list_of s max mode).rows ≡ n
as_list s max mode n e = sym (ap (λ (r : Reading Row). length r.rows) (section_counted (up_to max) s mode n e)) ∙ (count_rows s (section_of s max mode) n e).1

module _ (κs : _) (given : _) (answer : _) (exit : _) (call : count_nlri_list.Learnt κs given answer exit) (form : Form) (on : setting given ≡ fixed form) where
  pub list_hosts_counted : HostRows (family given) form (bytes given) answer
  list_hosts_counted =
      let r = list_of (bytes given) (max_of (family given)) (setting given) in
      host_rows_lem (family given) form (bytes given) (setting given) on (count_answer (bytes given) r) answer call (λ n e. (count_rows (bytes given) r n e).1)

module _ (κs : _) (given : _) (answer : _) (exit : _) (call : count_nlri.Learnt κs given answer exit) (form : Form) (on : setting given ≡ fixed form) where
  pub section_hosts_counted : HostRows (family given) form (bytes given) answer
  section_hosts_counted =
      let r = section_of (bytes given) (max_of (family given)) (setting given) in
      host_rows_lem (family given) form (bytes given) (setting given) on (count_answer (bytes given) r) answer call (λ n e. as_list (bytes given) (max_of (family given)) (setting given) n e)

module _ (κs : _) (given : _) (answer : _) (exit : _) (call : parse_nlri_list.Learnt κs given answer exit) (form : Form) (on : setting given ≡ fixed form) where
  pub list_hosts_read : HostRows (family given) form (bytes given) answer
  list_hosts_read =
      let r = list_of (bytes given) (max_of (family given)) (setting given) in
      host_rows_lem (family given) form (bytes given) (setting given) on (read_answer (bytes given) r (length (store given))) answer call.0
      (λ n e. (count_rows (bytes given) r n (read_rows (bytes given) r n (length (store given)) e).0).1)

module _ (κs : _) (given : _) (answer : _) (exit : _) (call : read_nlri.Learnt κs given answer exit) (form : Form) (on : setting given ≡ fixed form) where
  pub section_hosts_read : HostRows (family given) form (bytes given) answer
  section_hosts_read =
      let r = section_of (bytes given) (max_of (family given)) (setting given) in
      host_rows_lem (family given) form (bytes given) (setting given) on (read_answer (bytes given) r (length (store given))) answer call.0
      (λ n e. as_list (bytes given) (max_of (family given)) (setting given) n (read_rows (bytes given) r n (length (store given)) e).0)

-- ---- 3. The guess on counts what the guess off does, wherever no item of the guess-off reading starts with a zero byte.

same_hosts : (a a' : Result ℕ Refusal) (answer answer' : Result Routes Refusal) (h h' : ℕ) → answer ≡ with_hosts a h → answer' ≡ with_hosts a' h' → told answer ≡ told answer' → h ≡ h'
    → hosts_in answer ≡ hosts_in answer'
same_hosts a a' answer answer' h h' e e' same alike =
    ap hosts_in (e ∙ ap₂ with_hosts (sym (told_list a h answer e) ∙ same ∙ told_list a' h' answer' e') alike ∙ sym e')

module _ (κs : _) (given : _) (answer : _) (exit : _) (call : count_nlri_list.Learnt κs given answer exit)
    (κs' : _) (given' : _) (answer' : _) (exit' : _) (call' : count_nlri_list.Learnt κs' given' answer' exit') where
  pub list_hosts_guess : setting given ≡ Guess → setting given' ≡ Off → bytes given ≡ bytes given' → family given ≡ family given'
      → NoZeroFirst (off_items (family given) (bytes given)) → hosts_in answer ≡ hosts_in answer'
  list_hosts_guess on off same alike nonzero =
      same_hosts (count_answer (bytes given) (list_of (bytes given) (max_of (family given)) (setting given))) (count_answer (bytes given') (list_of (bytes given') (max_of (family given')) (setting given')))
      answer answer' (hosts_of (bytes given) (max_of (family given)) (setting given)) (hosts_of (bytes given') (max_of (family given')) (setting given')) call call'
      (list_count_guess κs given answer exit call κs' given' answer' exit' call' on off same alike nonzero)
      (guess_hosts _ _ (bytes given) (bytes given') (setting given) (setting given') same (ap max_of alike) on off nonzero)

module _ (κs : _) (given : _) (answer : _) (exit : _) (call : parse_nlri_list.Learnt κs given answer exit)
    (κs' : _) (given' : _) (answer' : _) (exit' : _) (call' : parse_nlri_list.Learnt κs' given' answer' exit') where
  pub list_hosts_read_guess : setting given ≡ Guess → setting given' ≡ Off → bytes given ≡ bytes given' → family given ≡ family given' → store given ≡ store given'
      → NoZeroFirst (off_items (family given) (bytes given)) → hosts_in answer ≡ hosts_in answer'
  list_hosts_read_guess on off same alike stores nonzero =
      same_hosts (read_answer (bytes given) (list_of (bytes given) (max_of (family given)) (setting given)) (length (store given)))
      (read_answer (bytes given') (list_of (bytes given') (max_of (family given')) (setting given')) (length (store given')))
      answer answer' (hosts_of (bytes given) (max_of (family given)) (setting given)) (hosts_of (bytes given') (max_of (family given')) (setting given')) call.0 call'.0
      (list_guess κs given answer exit call κs' given' answer' exit' call' on off same alike stores nonzero).0
      (guess_hosts _ _ (bytes given) (bytes given') (setting given) (setting given') same (ap max_of alike) on off nonzero)

-- ---- 4. An UPDATE: a section with a verdict has none.

module _ (κs : _) (given : _) (answer : _) (exit : _) (call : count_bgp_update_message.Learnt κs given answer exit) where
  pub malformed_hosts : (update : Update) → answer ≡ Ok update
      → ((why : Refusal) → update.withdrawn ≡ Err why → hosts_in update.withdrawn ≡ 0) × ((why : Refusal) → update.announced ≡ Err why → hosts_in update.announced ≡ 0)
  malformed_hosts update accepted = (λ why. ap hosts_in, λ why. ap hosts_in)
