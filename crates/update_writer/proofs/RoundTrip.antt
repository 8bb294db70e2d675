-- An UPDATE body that is written is read as the sections that went into it; and what keeps the limits is written, given room.
-- Assumes nothing.
use Prim.Native.Nat.{ℕ, ◌+◌, ◌-◌, ◌/◌, ◌≤◌}
use mathlib.Core.Path.{◌≡◌, refl, sym, ap, ap₂, ◌∙◌}
use mathlib.Core.List.{List, ◌++◌, append_assoc}
use native.Mathlib.Omega.{arith}
use borrow.Author.Tests.{le-leb}
use lib.ListN.{length, take, drop, length-append}
use lib.Seq.{take_at, drop_at, drop-drop, take-length}
use Rattle.wire.specs.Number.{to_be, be_at, Words}
use Rattle.wire.specs.Refusal.{list_limit, body_limit}
use Rattle.wire.specs.Walk.{Reading, flat}
use Rattle.families.specs.Family.{max_of}
use Rattle.families.proofs.FamilyLaws.{max_small}
use Rattle.families.specs.declared.Afi.TheVariants.{Ipv4}
use Rattle.families.specs.declared.Form.{Form}
use Rattle.routes.specs.Prefix.{words}
use Rattle.routes.specs.List.{fixed, hosts_of, section_of}
use Rattle.routes.specs.Promises.{count_answer, with_hosts}
use Rattle.routes.proofs.ListLaws.{beside}
use Rattle.routes.specs.declared.Row.{Row}
use Rattle.routes.specs.declared.Routes.{Routes}
use Rattle.route_reader.specs.Pair.{read_pair_by, read_pair}
use Rattle.route_bytes.specs.Encode.{writing, bytes_of}
use Rattle.route_bytes.specs.Promises.{measured}
use Rattle.route_bytes.proofs.PromiseLaws.{measured_bytes}
use Rattle.route_writer.proofs.RouteTheorems.{section_again, words_again, counted_again}
use Rattle.std.specs.Prelude.{Result, Ok, Err}
use Rattle.wire.specs.Verdict.{fine}
use Rattle.wire.specs.declared.refusal.Refusal.{Refusal}
use Rattle.updates.specs.Body.{length_size, withdrawn_size, attributes_size, attributes_end, parts_of, withdrawn_of, attributes_of, announced_of}
use Rattle.updates.proofs.BodyLaws.{parts_by}
use Rattle.updates.specs.Update.{update_of, counted, count_update, read_update}
use Rattle.updates.specs.declared.Update.{Update}
use Rattle.update_writer.specs.Body.{body_size, sections, body_bytes, body_sized, if_writable, body_answer}
use Rattle.update_writer.proofs.BodyLaws.{Sized, sized_cases, sized_by}

-- a body that is read as these three sections
pub record Reads (w b a s : List ℕ) : Type 0 where
  pub parts : parts_of s ≡ Ok (record { withdrawn = length w; attributes = length b; announced = length a })
  pub withdrawn : withdrawn_of s ≡ w
  pub attributes : attributes_of s ≡ b
  pub announced : announced_of s ≡ a

module _ (w b a : List ℕ) (low : length w ≤ list_limit) (middle : length b ≤ list_limit) (whole : body_size (length w) (length b) (length a) ≤ body_limit) where
  s : List ℕ
  s = sections w b a

  -- what stands after the withdrawn routes, after the second length, and after the attributes
  past_withdrawn : drop (length_size + length w) s ≡ to_be length_size (length b) ++ (b ++ a)
  unfolding s sections
  past_withdrawn =
      let p : List ℕ = to_be length_size (length w) in
      let r : List ℕ = to_be length_size (length b) ++ (b ++ a) in
      ap (drop (length_size + length w)) (sym (append_assoc p w r)) ∙ drop_at (p ++ w) r (length_size + length w) (length-append p w)

  past_length_lem : drop (length_size + length w + length_size) s ≡ b ++ a
  past_length_lem = sym (drop-drop length_size (length_size + length w) s) ∙ ap (drop length_size) past_withdrawn

  past_attributes : drop (length_size + length w + length_size + length b) s ≡ a
  past_attributes = sym (drop-drop (length b) (length_size + length w + length_size) s) ∙ ap (drop (length b)) past_length_lem ∙ drop_at b a (length b) refl

  after_first : take (length w) (drop length_size s) ≡ take (length w) (w ++ (to_be length_size (length b) ++ (b ++ a)))
  unfolding s sections
  after_first = refl

  first : withdrawn_size s ≡ length w
  unfolding s sections be_at
  first = omega arith

  second : attributes_size s ≡ length b
  unfolding be_at
  second = rw (first, past_withdrawn) (omega arith)

  size : length s ≡ body_size (length w) (length b) (length a)
  unfolding s sections
  size =
      let r : List ℕ = to_be length_size (length b) ++ (b ++ a) in
      omega (arith, length-append (to_be length_size (length w)) (w ++ r), length-append w r, length-append (to_be length_size (length b)) (b ++ a), length-append b a)

  parts : parts_of s ≡ Ok (record { withdrawn = length w; attributes = length b; announced = length a })
  parts =
      let end : attributes_end s ≡ length_size + length w + length_size + length b = omega (arith, first, second) in
      let last : length s - attributes_end s ≡ length a = omega (arith, size) in
      parts_by s (omega (arith, size)) (omega (arith, size)) ∙ cc (first, second, last)

  pub sections_size : length (sections w b a) ≡ body_size (length w) (length b) (length a)
  unfolding s
  sections_size = size

  pub sections_read : Reads w b a (sections w b a)
  unfolding s withdrawn_of attributes_of announced_of
  sections_read = record {
    parts = parts;
    withdrawn = rw parts (after_first ∙ take_at w _ (length w) refl);
    attributes = rw parts (ap (take (length b)) past_length_lem ∙ take_at b a (length b) refl);
    announced = rw parts (ap (take (length a)) past_attributes ∙ take-length a);
  }

-- ---- what the writer writes

module _ (withdrawn attributes announced : List ℕ) (form : Form) (places : ℕ) where
  -- the bytes of the two lists
  abbrev withdrawn_bytes : List ℕ
  withdrawn_bytes = bytes_of withdrawn (max_of Ipv4) form

  abbrev announced_bytes : List ℕ
  announced_bytes = bytes_of announced (max_of Ipv4) form

  -- what the writer found of a body that it does not refuse
  pub record BodyFit (n : ℕ) : Type 0 where
    pub first : measured withdrawn (max_of Ipv4) form ≡ Ok (length withdrawn_bytes)
    pub last : measured announced (max_of Ipv4) form ≡ Ok (length announced_bytes)
    pub sizes : Sized (length withdrawn_bytes) (length attributes) (length announced_bytes) places
    pub size : n ≡ body_size (length withdrawn_bytes) (length attributes) (length announced_bytes)

  -- what holds of every refusal, and of such a body, holds of every answer
  pub body_cases {ℓ} : (P : Result ℕ Refusal → Type ℓ) → ((r : Refusal) → P (Err r)) → ((n : ℕ) → BodyFit n → P (Ok n)) → P (body_answer withdrawn attributes announced form places)
  unfolding body_answer
  body_cases P bad good = by_first (measured withdrawn (max_of Ipv4) form) refl
    where
      k : ℕ
      k = length attributes

      by_last : (w : ℕ) → measured withdrawn (max_of Ipv4) form ≡ Ok w → (y : Result ℕ Refusal) → measured announced (max_of Ipv4) form ≡ y
          → P (if_writable y (λ a. body_sized w k a places))
      by_last w e (Ok a) f =
          let one : length withdrawn_bytes ≡ w = (measured_bytes withdrawn (max_of Ipv4) form w e).1 in
          let two : length announced_bytes ≡ a = (measured_bytes announced (max_of Ipv4) form a f).1 in
          sized_cases w k a places P bad
          (λ fit. good (body_size w k a) (record { first = rw one e; last = rw two f; sizes = rw (one, two) fit; size = rw (one, two) refl }))
      by_last w e (Err r) f = bad r

      by_first : (x : Result ℕ Refusal) → measured withdrawn (max_of Ipv4) form ≡ x → P (if_writable x (λ w. if_writable (measured announced (max_of Ipv4) form) (λ a. body_sized w k a places)))
      by_first (Ok w) e = by_last w e (measured announced (max_of Ipv4) form) refl
      by_first (Err r) e = bad r

  pub written_fit : (n : ℕ) → body_answer withdrawn attributes announced form places ≡ Ok n → BodyFit n
  written_fit n =
      body_cases (λ a. a ≡ Ok n → BodyFit n)
      (λ m e. let z : ◌≡◌ {A = ℕ} 0 1 = cc in absurd (omega arith))
      (λ m fit e. let same : m ≡ n = cc in rw (← same) fit)

  -- lists that can be written, in sections that keep the limits, are written where there is room
  pub fit_written : (writing withdrawn (max_of Ipv4) form).verdict ≡ fine → (writing announced (max_of Ipv4) form).verdict ≡ fine
      → Sized (length withdrawn_bytes) (length attributes) (length announced_bytes) places
      → body_answer withdrawn attributes announced form places ≡ Ok (body_size (length withdrawn_bytes) (length attributes) (length announced_bytes))
  unfolding body_answer measured
  fit_written good good' fit = rw (good, good') (sized_by (length withdrawn_bytes) (length attributes) (length announced_bytes) places fit)

  -- a body that is written is read as the bytes of its lists and the attributes
  pub written_read : (n : ℕ) → body_answer withdrawn attributes announced form places ≡ Ok n → Reads withdrawn_bytes attributes announced_bytes (body_bytes withdrawn attributes announced form)
  unfolding body_bytes
  written_read n e = let fit = (written_fit n e).sizes in sections_read withdrawn_bytes attributes announced_bytes fit.low fit.middle fit.whole

  pub written_size : (n : ℕ) → body_answer withdrawn attributes announced form places ≡ Ok n → length (body_bytes withdrawn attributes announced form) ≡ n
  unfolding body_bytes
  written_size n e =
      let fit = written_fit n e in
      sections_size withdrawn_bytes attributes announced_bytes fit.sizes.low fit.sizes.middle fit.sizes.whole ∙ sym fit.size

-- ---- and the rows in it

-- of a store that is written, from its bytes as a section
module _ (max : ℕ) (small : max ≤ 128) (form : Form) (ws : List ℕ) (wide : Words ws) (good : (writing ws max form).verdict ≡ fine) where
  -- its words are read again
  section_words : flat words (section_of (bytes_of ws max form) max (fixed form)).rows ≡ ws
  section_words = ap (λ (r : Reading Row). flat words r.rows) (section_again max small form ws wide good) ∙ words_again max small form ws wide good

  -- a sixth of them in number
  section_counted : length (bytes_of ws max form) ≤ list_limit → count_answer (bytes_of ws max form) (section_of (bytes_of ws max form) max (fixed form)) ≡ Ok (length ws / 6)
  section_counted short = ap (count_answer (bytes_of ws max form)) (section_again max small form ws wide good) ∙ counted_again max small form ws wide good short

module _ (withdrawn attributes announced : List ℕ) (form : Form) (places n : ℕ) (wrote : body_answer withdrawn attributes announced form places ≡ Ok n)
    (wide : Words withdrawn) (wide' : Words announced) where
  abbrev body : List ℕ
  body = body_bytes withdrawn attributes announced form

  -- what is written is counted as so many rows, each a sixth of its store, with the host rows of its bytes
  abbrev again : List ℕ → Result Routes Refusal
  again ws = with_hosts (Ok (length ws / 6)) (hosts_of (bytes_of ws (max_of Ipv4) form) (max_of Ipv4) (fixed form))

  abbrev counts : Result Update Refusal
  counts = update_of (again withdrawn) (again announced)

  pub first_again : counted (withdrawn_of body) (fixed form) ≡ again withdrawn
  first_again =
      let fit = written_fit withdrawn attributes announced form places n wrote in
      let good = (measured_bytes withdrawn (max_of Ipv4) form _ fit.first).0 in
      ap (λ (s : List ℕ). counted s (fixed form)) (written_read withdrawn attributes announced form places n wrote).withdrawn
      ∙ beside _ _ _ (section_counted (max_of Ipv4) (max_small Ipv4) form withdrawn wide good fit.sizes.low)

  pub last_again : counted (announced_of body) (fixed form) ≡ again announced
  last_again =
      let fit = written_fit withdrawn attributes announced form places n wrote in
      let good = (measured_bytes announced (max_of Ipv4) form _ fit.last).0 in
      ap (λ (s : List ℕ). counted s (fixed form)) (written_read withdrawn attributes announced form places n wrote).announced
      ∙ beside _ _ _ (section_counted (max_of Ipv4) (max_small Ipv4) form announced wide' good (omega (arith, fit.sizes.whole)))

  pub update_counted : count_update body (fixed form) ≡ counts
  unfolding count_update
  update_counted = rw (written_read withdrawn attributes announced form places n wrote).parts (ap₂ update_of first_again last_again)

  -- and read, where each store is as large as the one that was written
  pub update_read : (room room' : ℕ) → length withdrawn ≤ room → length announced ≤ room' → read_update body (fixed form) room room' ≡ counts
  unfolding read_update read_pair read_pair_by
  update_read room room' h h' =
      rw ((written_read withdrawn attributes announced form places n wrote).parts, first_again, last_again)
      (rw (le-leb (length withdrawn / 6) (room / 6) (omega arith), le-leb (length announced / 6) (room' / 6) (omega arith)))

  -- the rows of each section are those that were written
  pub withdrawn_again : flat words (section_of (withdrawn_of body) (max_of Ipv4) (fixed form)).rows ≡ withdrawn
  withdrawn_again =
      let fit = written_fit withdrawn attributes announced form places n wrote in
      ap (λ (s : List ℕ). flat words (section_of s (max_of Ipv4) (fixed form)).rows) (written_read withdrawn attributes announced form places n wrote).withdrawn
      ∙ section_words (max_of Ipv4) (max_small Ipv4) form withdrawn wide (measured_bytes withdrawn (max_of Ipv4) form _ fit.first).0

  pub announced_again : flat words (section_of (announced_of body) (max_of Ipv4) (fixed form)).rows ≡ announced
  announced_again =
      let fit = written_fit withdrawn attributes announced form places n wrote in
      ap (λ (s : List ℕ). flat words (section_of s (max_of Ipv4) (fixed form)).rows) (written_read withdrawn attributes announced form places n wrote).announced
      ∙ section_words (max_of Ipv4) (max_small Ipv4) form announced wide' (measured_bytes announced (max_of Ipv4) form _ fit.last).0
