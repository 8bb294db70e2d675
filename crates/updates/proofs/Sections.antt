-- The sections of an UPDATE body: with their length bytes they are the whole of it, a malformed one has one of three numbers, and what is read is
-- what is counted.
-- Assumes nothing.
use Prim.Native.Nat.{ℕ, ◌+◌, ◌≤◌}
use mathlib.Core.Path.{◌≡◌, refl, sym, ap, ◌∙◌}
use mathlib.Core.List.{List, ◌++◌}
use native.Mathlib.Omega.{arith}
use lib.ListN.{length, take, drop, length-drop, take-append-drop}
use lib.Seq.{drop-drop, take_all, length-take-le}
use borrow.Author.Tests.{le-leb}
use Rattle.std.specs.Prelude.{Result, Ok, Err}
use Rattle.wire.proofs.ChoiceLaws.{pick_any}
use Rattle.wire.specs.Refusal.{number_of, truncated, prefix_length, one_byte_section, list_limit}
use Rattle.wire.specs.Verdict.{Verdict, verdict_number, unless}
use Rattle.wire.specs.Walk.{Reading, refused}
use Rattle.wire.specs.declared.refusal.Refusal.{Refusal}
use Rattle.wire.specs.declared.refusal.Refusal.TheVariants.{Truncated, PrefixLength, OneByteSection, NoRoom}
use Rattle.wire.proofs.WalkLaws.{all_ind}
use Rattle.families.specs.Family.{max_of}
use Rattle.families.specs.declared.Afi.TheVariants.{Ipv4}
use Rattle.families.specs.declared.Form.{Form}
use Rattle.families.specs.declared.Form.TheVariants.{Plain}
use Rattle.families.specs.declared.AddPath.{AddPath}
use Rattle.routes.specs.Prefix.{prefix_of}
use Rattle.routes.proofs.PrefixLaws.{prefix_cases}
use Rattle.routes.specs.List.{up_to, form_by, step_of, list_by, list_of, hosts_of, strange, section_by, section_of}
use Rattle.routes.proofs.ListLaws.{fair, sound, step_stop, counted_hosts}
use Rattle.routes.specs.Promises.{has_room, with_hosts, rows_alone, hosts_in, verdict_in, count_answer}
use Rattle.routes.specs.declared.Row.{Row}
use Rattle.routes.specs.declared.Routes.{Routes}
use Rattle.route_reader.specs.Pair.{read_pair_by, read_pair}
use Rattle.route_reader.specs.declared.Sections.{Sections}
use Rattle.updates.specs.Body.{length_size, parts_of, withdrawn_of, attributes_of, announced_of}
use Rattle.updates.proofs.BodyLaws.{parts_add_up}
use Rattle.updates.specs.Update.{if_parts, update_of, as_update, counted, count_update, read_update}
use Rattle.updates.specs.declared.Parts.{Parts}
use Rattle.updates.specs.declared.Update.{Update}

module _ (b : List ℕ) (p : Parts) (found : parts_of b ≡ Ok p) where
  -- the three lengths and the four length bytes add up to the body
  pub lengths_add_up : p.withdrawn + p.attributes + p.announced + (length_size + length_size) ≡ length b
  lengths_add_up = (parts_add_up b p found).0

  -- each length is that of its section
  pub withdrawn_length : length (withdrawn_of b) ≡ p.withdrawn
  unfolding withdrawn_of
  withdrawn_length = rw found (length-take-le p.withdrawn (drop length_size b) (omega (arith, lengths_add_up, length-drop length_size b)))

  pub attributes_length : length (attributes_of b) ≡ p.attributes
  unfolding attributes_of
  attributes_length =
      let at : ℕ = length_size + p.withdrawn + length_size in
      rw found (length-take-le p.attributes (drop at b) (omega (arith, lengths_add_up, length-drop at b)))

  pub announced_length : length (announced_of b) ≡ p.announced
  unfolding announced_of
  announced_length =
      let at : ℕ = length_size + p.withdrawn + length_size + p.attributes in
      rw found (length-take-le p.announced (drop at b) (omega (arith, lengths_add_up, length-drop at b)))

  -- a cut of a list at a place, and what follows it
  cut_at : (i k j : ℕ) → i + k ≡ j → drop i b ≡ take k (drop i b) ++ drop j b
  cut_at i k j e = sym (take-append-drop k (drop i b)) ∙ ap (λ (l : List ℕ). take k (drop i b) ++ l) (drop-drop k i b ∙ ap (λ (m : ℕ). drop m b) e)

  -- the length bytes and the sections, one after another, are the body
  pub sections_are_body : b ≡ take length_size b ++ (withdrawn_of b ++ (take length_size (drop (length_size + p.withdrawn) b) ++ (attributes_of b ++ announced_of b)))
  unfolding withdrawn_of attributes_of announced_of
  sections_are_body =
      let withdrawn_start : ℕ = length_size in
      let withdrawn_end : ℕ = withdrawn_start + p.withdrawn in
      let attributes_start : ℕ = withdrawn_end + length_size in
      let end : ℕ = attributes_start + p.attributes in
      let last : drop end b ≡ take p.announced (drop end b) = sym (take_all p.announced (drop end b) (omega (arith, lengths_add_up, length-drop end b))) in
      rw found
      (sym (take-append-drop length_size b)
      ∙ ap (λ (l : List ℕ). take length_size b ++ l) (cut_at withdrawn_start p.withdrawn withdrawn_end refl
      ∙ ap (λ (l : List ℕ). take p.withdrawn (drop withdrawn_start b) ++ l) (cut_at withdrawn_end length_size attributes_start refl
      ∙ ap (λ (l : List ℕ). take length_size (drop withdrawn_end b) ++ l) (cut_at attributes_start p.attributes end refl
      ∙ ap (λ (l : List ℕ). take p.attributes (drop attributes_start b) ++ l) last))))

-- ---- verdicts

-- a good list, or one that is refused for too few bytes or too long a prefix
pub data ListVerdict : ℕ → Type 0 where
  good : ListVerdict 0
  short : ListVerdict truncated
  long : ListVerdict prefix_length

-- the same of a section, which may be one strange byte
pub data SectionVerdict : ℕ → Type 0 where
  of_list : {n : ℕ} → ListVerdict n → SectionVerdict n
  single : SectionVerdict one_byte_section

never : {X : Type 0} → ◌≡◌ {A = ℕ} 0 1 → X
never e = absurd (omega arith)

module _ (max : ℕ) (mode : AddPath) where
  prefix_verdict : (s : List ℕ) (form : Form) (r : Refusal) → prefix_of s max form ≡ Err r → ListVerdict (number_of r)
  prefix_verdict s form r =
      prefix_cases s max form (λ a. a ≡ Err r → ListVerdict (number_of r))
      (λ e. let same : Truncated ≡ r = cc in rw (← same) short)
      (λ e. let same : PrefixLength ≡ r = cc in rw (← same) long)
      (λ _ _ _ e. never (let z : ◌≡◌ {A = ℕ} 0 1 = cc in z))

  list_verdict : (s : List ℕ) → ListVerdict (verdict_number (list_of s max mode).verdict)
  unfolding list_by
  list_verdict s =
      all_ind (step_of max mode) (sound max mode) (λ st t r. ListVerdict (verdict_number r.verdict))
      (λ st. good)
      (λ st t n pos e. prefix_verdict t (form_by (up_to max) mode st t) n (step_stop (up_to max) mode st t n e))
      (λ st st' t used row pos e h. h)
      Plain s

  pub section_verdict : (s : List ℕ) → SectionVerdict (verdict_number (section_of s max mode).verdict)
  unfolding section_by
  section_verdict s =
      let P : Reading Row → Type 0 = λ r. SectionVerdict (verdict_number r.verdict) in
      pick_any P (strange s) (refused OneByteSection) (list_of s max mode) single (of_list (list_verdict s))

-- a section of a body that is not refused is counted, or refused with one of those numbers: never for its length
pub counted_verdict : (s : List ℕ) (mode : AddPath) → length s ≤ list_limit → SectionVerdict (verdict_in (counted s mode))
unfolding count_answer
counted_verdict s mode h =
    let r : Reading Row = section_of s (max_of Ipv4) mode in
    rw (le-leb (length s) list_limit h) (told r.verdict (length r.rows) (hosts_of s (max_of Ipv4) mode) (section_verdict (max_of Ipv4) mode s))
  where
    told : (v : Verdict) (rows hosts : ℕ) → SectionVerdict (verdict_number v) → SectionVerdict (verdict_in (with_hosts (unless v rows) hosts))
    told (Ok tt) rows hosts h = h
    told (Err r) rows hosts h = h

-- the sections of an UPDATE that is counted are counted each by itself
pub counted_sections : (b : List ℕ) (mode : AddPath) (u : Update) → count_update b mode ≡ Ok u → (counted (withdrawn_of b) mode ≡ u.withdrawn) × (counted (announced_of b) mode ≡ u.announced)
unfolding count_update
counted_sections b mode u = by_parts (parts_of b)
  where
    one : Result Routes Refusal
    one = counted (withdrawn_of b) mode

    two : Result Routes Refusal
    two = counted (announced_of b) mode

    by_parts : (p : Result Parts Refusal) → if_parts p (update_of one two) ≡ Ok u → (one ≡ u.withdrawn) × (two ≡ u.announced)
    by_parts (Ok p) e = (cc, cc)
    by_parts (Err r) e = never (let z : ◌≡◌ {A = ℕ} 0 1 = cc in z)

-- so are both of an UPDATE that is not refused
pub update_verdicts : (b : List ℕ) (mode : AddPath) (u : Update) → count_update b mode ≡ Ok u → SectionVerdict (verdict_in u.withdrawn) × SectionVerdict (verdict_in u.announced)
unfolding count_update
update_verdicts b mode u e = by_parts (parts_of b) refl e
  where
    by_parts : (p : Result Parts Refusal) → parts_of b ≡ p → if_parts p (update_of (counted (withdrawn_of b) mode) (counted (announced_of b) mode)) ≡ Ok u
        → SectionVerdict (verdict_in u.withdrawn) × SectionVerdict (verdict_in u.announced)
    by_parts (Ok p) found _ =
        let whole = parts_add_up b p found in
        let each = counted_sections b mode u e in (
          rw each.0 at (counted_verdict (withdrawn_of b) mode (omega (arith, whole, withdrawn_length b p found))),
          rw each.1 at (counted_verdict (announced_of b) mode (omega (arith, whole, announced_length b p found))),
        )
    by_parts (Err r) found e = never (let z : ◌≡◌ {A = ℕ} 0 1 = cc in z)

-- no section has more host rows than a list has bytes
pub update_hosts : (b : List ℕ) (mode : AddPath) (u : Update) → count_update b mode ≡ Ok u → (hosts_in u.withdrawn ≤ list_limit) × (hosts_in u.announced ≤ list_limit)
update_hosts b mode u e =
    let few : (s : List ℕ) → hosts_in (counted s mode) ≤ list_limit = λ s. counted_hosts (up_to (max_of Ipv4)) (fair (max_of Ipv4)) s mode (section_of s (max_of Ipv4) mode) in
    let each = counted_sections b mode u e in
    (rw each.0 at (few (withdrawn_of b)), rw each.1 at (few (announced_of b)))

-- ---- reading and counting

-- an UPDATE that is read into stores is answered as it is counted
pub read_is_count : (b : List ℕ) (mode : AddPath) (places places' : ℕ) (u : Update) → read_update b mode places places' ≡ Ok u → count_update b mode ≡ Ok u
unfolding read_update count_update read_pair read_pair_by
read_is_count b mode places places' u = by_parts (parts_of b)
  where
    one : Result Routes Refusal
    one = counted (withdrawn_of b) mode

    two : Result Routes Refusal
    two = counted (announced_of b) mode

    by_parts : (p : Result Parts Refusal) → if_parts p (as_update (read_pair_by one two places places')) ≡ Ok u → if_parts p (update_of one two) ≡ Ok u
    by_parts (Ok p) =
        let P : Result Sections Refusal → Type 0 = λ x. as_update x ≡ Ok u → update_of one two ≡ Ok u in
        let full : P (Err NoRoom) = λ e. never (let z : ◌≡◌ {A = ℕ} 0 1 = cc in z) in
        pick_any P (has_room (rows_alone one) places) _ (Err NoRoom) (pick_any P (has_room (rows_alone two) places') (Ok (record { first = one; second = two })) (Err NoRoom) (λ e. e) full) full
    by_parts (Err r) = λ e. never (let z : ◌≡◌ {A = ℕ} 0 1 = cc in z)
