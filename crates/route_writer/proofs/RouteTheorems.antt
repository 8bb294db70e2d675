-- What reading and writing lists of routes are, in terms of bytes alone, over the definitions: what the demand of the calls cites.
-- Assumes nothing.
use Prim.Native.Nat.{ℕ, ◌+◌, ◌*◌, ◌/◌, ◌≤◌}
use mathlib.Core.Path.{◌≡◌, sym, ap, ap₂, subst, ◌∙◌}
use mathlib.Core.List.{List, map}
use native.Mathlib.Omega.{arith}
use lib.ListN.{length, take, length-map}
use Rattle.wire.specs.Number.{Words}
use Rattle.wire.specs.Cutting.{Cutting}
use Rattle.wire.specs.Number as Number
use Rattle.wire.specs.Refusal.{list_limit}
use Rattle.wire.specs.Store.{laid}
use Rattle.wire.specs.Answer.{flag}
use Rattle.wire.specs.Verdict.{fine}
use Rattle.wire.specs.Walk.{Reading, pieces, tally, flat}
use Rattle.std.specs.Prelude.{Ok}
use Rattle.wire.proofs.CuttingLaws as Cuttings
use Rattle.wire.proofs.StoreLaws.{take_laid}
use Rattle.wire.proofs.WalkLaws.{tally_one, tally_flat}
use Rattle.families.specs.declared.AddPath.{AddPath}
use Rattle.families.specs.declared.AddPath.TheVariants.{On, Off, Guess}
use Rattle.families.specs.declared.Form.{Form}
use Rattle.families.specs.declared.Form.TheVariants.{Plain, Tagged}
use Rattle.routes.specs.List.{up_to, fixed, step_of, list_by, list_of, hosts_by, hosts_of, section_by, section_of}
use Rattle.routes.specs.Prefix.{item_row, words}
use Rattle.routes.specs.Promises.{count_answer, read_answer, store_after}
use Rattle.routes.specs.WellFormed.{WellFormed, NoZeroFirst}
use Rattle.routes.specs.declared.Row.{Row}
use Rattle.routes.proofs.CuttingLaws.{decides, guess_same, cut_not_strange}
use Rattle.routes.proofs.ListLaws.{words_length, count_good, count_rows, count_short, read_rows, read_stored, leave_rows, section_list, section_counted}
use Rattle.route_bytes.specs.Encode.{row_bytes, writing, bytes_of}
use Rattle.route_bytes.proofs.PromiseLaws.{measured_good}
use Rattle.route_bytes.proofs.RowLaws.{GoodRow, stands, rows_write, store_rows}
use Rattle.route_writer.specs.Promises.{write_answer, out_after}
use Rattle.route_writer.proofs.PromiseLaws.{leave_bytes, written_bytes}

-- ---- a reading whose rows are those of a cutting

pub record Reads (max : ℕ) (form : Form) (s : List ℕ) (r : Reading Row) : Type 0 where
  pub cut : (n : ℕ) → count_answer s r ≡ Ok n → (items : List (List ℕ)) × Cutting (WellFormed max form) s items
  pub read : (items : List (List ℕ)) → Cutting (WellFormed max form) s items → r ≡ record { rows = map (item_row form) items; verdict = fine }

module _ (max : ℕ) (form : Form) (s : List ℕ) where
  -- a list under the setting that has the form
  fixed_reads : Reads max form s (list_of s max (fixed form))
  unfolding list_by
  fixed_reads = record {
    cut = λ n e. Cuttings.read_cut (step_of max (fixed form)) (WellFormed max form) (item_row form) (decides max form) Plain s (count_rows s (list_of s max (fixed form)) n e).0;
    read = λ items c. Cuttings.cut_read (step_of max (fixed form)) (WellFormed max form) (item_row form) (decides max form) Plain s items c;
  }

  -- and a section, since the rule of one byte refuses nothing that has a cutting
  fixed_section : Reads max form s (section_of s max (fixed form))
  fixed_section = record {
    cut = λ n e. fixed_reads.cut n (ap (count_answer s) (sym (section_counted (up_to max) s (fixed form) n e)) ∙ e);
    read = λ items c. section_list (up_to max) s (fixed form) (cut_not_strange max form s items c) ∙ fixed_reads.read items c;
  }

  module _ (mode : AddPath) (on : mode ≡ fixed form) where
    pub list_reads : Reads max form s (list_of s max mode)
    list_reads = subst (λ (m : AddPath). Reads max form s (list_of s max m)) (sym on) fixed_reads

    pub section_reads : Reads max form s (section_of s max mode)
    section_reads = subst (λ (m : AddPath). Reads max form s (section_of s max m)) (sym on) fixed_section

module _ {max : ℕ} {form : Form} {s : List ℕ} {r : Reading Row} (reads : Reads max form s r) where
  -- as many rows as items
  rows_items : (items : List (List ℕ)) → Cutting (WellFormed max form) s items → length r.rows ≡ length items
  rows_items items c = ap (λ (x : Reading Row). length x.rows) (reads.read items c) ∙ length-map items (item_row form)

  pub cut_counted : (items : List (List ℕ)) → Cutting (WellFormed max form) s items → length s ≤ list_limit → count_answer s r ≡ Ok (length items)
  cut_counted items c short = count_good s r (length items) short (ap (λ (x : Reading Row). x.verdict) (reads.read items c), tally_one r.rows ∙ rows_items items c)

  pub counted_cut : (n : ℕ) → count_answer s r ≡ Ok n → (items : List (List ℕ)) × Cutting (WellFormed max form) s items × (length items ≡ n) × (length s ≤ list_limit)
  counted_cut n e =
      let c = reads.cut n e in
      (c.0, c.1, sym (rows_items c.0 c.1) ∙ (count_rows s r n e).1, count_short s r n e)

  module _ (d : List ℕ) where
    pub cut_accepted : (items : List (List ℕ)) → Cutting (WellFormed max form) s items → length s ≤ list_limit → length items ≤ length d / 6
        → read_answer s r (length d) ≡ Ok (length items)
    cut_accepted items c short room = sym (leave_rows s r d (length items) (cut_counted items c short) room).0

    module _ (n : ℕ) (e : read_answer s r (length d) ≡ Ok n) where
      pub accepted_cut : (items : List (List ℕ)) × Cutting (WellFormed max form) s items × (length items ≡ n) × (length s ≤ list_limit) × (n ≤ length d / 6)
      accepted_cut =
          let h = read_rows s r n (length d) e in
          let c = counted_cut n h.0 in
          (c.0, c.1, c.2, c.3, h.1)

      -- the store then holds the rows of the items
      pub rows_stored : (items : List (List ℕ)) → Cutting (WellFormed max form) s items
          → (n ≡ length items) × (store_after s r d ≡ laid d 0 (flat words (map (item_row form) items)))
      rows_stored items c =
          let h = read_stored s r d n e in
          (sym h.0 ∙ rows_items items c, h.1 ∙ ap (λ (x : Reading Row). laid d 0 (flat words x.rows)) (reads.read items c))

      -- and its first words are theirs
      pub read_words : (items : List (List ℕ)) → Cutting (WellFormed max form) s items → take (6 * n) (store_after s r d) ≡ flat words (map (item_row form) items)
      read_words items c = (read_stored s r d n e).2 ∙ ap (λ (x : Reading Row). flat words x.rows) (reads.read items c)

-- bytes that are read to their end with Add-Path on are cut into items with ids, whose rows are those read
pub cut_tagged : (max : ℕ) (s : List ℕ) → (list_of s max On).verdict ≡ fine
    → (items : List (List ℕ)) × Cutting (WellFormed max Tagged) s items × (list_of s max On ≡ record { rows = map (item_row Tagged) items; verdict = fine })
unfolding list_by
cut_tagged max s good =
    let c = Cuttings.read_cut (step_of max On) (WellFormed max Tagged) (item_row Tagged) (decides max Tagged) Plain s good in
    (c.0, c.1, Cuttings.cut_read (step_of max On) (WellFormed max Tagged) (item_row Tagged) (decides max Tagged) Plain s c.0 c.1)

-- two cuttings of the same bytes are equal
pub one_cutting : (max : ℕ) (form : Form) (s : List ℕ) (items items' : List (List ℕ)) → Cutting (WellFormed max form) s items → Cutting (WellFormed max form) s items' → items ≡ items'
one_cutting max form s = Cuttings.one_cutting (step_of max (fixed form)) (WellFormed max form) (item_row form) (decides max form) Plain s

-- ---- writing

module _ (max : ℕ) (small : max ≤ 128) (form : Form) where
  -- the rows of a cutting can be written, and their bytes are those that were cut
  pub items_bytes : (s : List ℕ) (items : List (List ℕ)) → Number.Bytes s → Cutting (WellFormed max form) s items
      → let ws = flat words (map (item_row form) items) in ((writing ws max form).verdict ≡ fine) × (bytes_of ws max form ≡ s)
  unfolding bytes_of writing
  items_bytes s items b c =
      let rows : List Row = map (item_row form) items in
      let h = Cuttings.items_written (WellFormed max form) (item_row form) (GoodRow max form) (row_bytes form) (stands max small form) items c.each (subst Number.Bytes (sym c.whole) b) in
      let w : writing (flat words rows) max form ≡ record { rows = rows; verdict = fine } = rows_write max form rows h.0 in
      (ap (λ (x : Reading Row). x.verdict) w, ap (λ (x : Reading Row). flat (row_bytes form) x.rows) w ∙ h.2 ∙ c.whole)

  -- into any output that has room
  pub items_out : (s : List ℕ) (items : List (List ℕ)) → Number.Bytes s → Cutting (WellFormed max form) s items → length s ≤ list_limit → (out : List ℕ) → length s ≤ length out
      → let ws = flat words (map (item_row form) items) in (write_answer ws max form (length out) ≡ Ok (length s)) × (out_after ws max form out ≡ laid out 0 s)
  unfolding bytes_of
  items_out s items b c short out room =
      let ws : List ℕ = flat words (map (item_row form) items) in
      let h = items_bytes s items b c in
      let size = tally_flat (row_bytes form) (writing ws max form).rows ∙ ap length h.1 in
      let l = leave_bytes ws max form out (length s) (measured_good ws max form (length s) (h.0, size)) short room in
      (sym l.0, sym l.1 ∙ ap (laid out 0) h.1)

  -- writing what was read, from the store that it was read into
  pub written_back : (s : List ℕ) (r : Reading Row) (d : List ℕ) (n : ℕ) → Reads max form s r → read_answer s r (length d) ≡ Ok n → Number.Bytes s
      → (out : List ℕ) → length s ≤ length out
      → let ws = take (6 * n) (store_after s r d) in (write_answer ws max form (length out) ≡ Ok (length s)) × (out_after ws max form out ≡ laid out 0 s)
  written_back s r d n reads e b out room =
      let a = accepted_cut reads d n e in
      let is = read_words reads d n e a.0 a.1 in
      let o = items_out s a.0 b a.1 a.3 out room in
      (ap (λ (ws : List ℕ). write_answer ws max form (length out)) is ∙ o.0, ap (λ (ws : List ℕ). out_after ws max form out) is ∙ o.1)

  -- the bytes that were written stand at the front of the output
  out_bytes : (ws d : List ℕ) (n : ℕ) → write_answer ws max form (length d) ≡ Ok n → take n (out_after ws max form d) ≡ bytes_of ws max form
  out_bytes ws d n e =
      let h = written_bytes ws max form d n e in
      let all : n ≡ 0 + length (bytes_of ws max form) = omega (arith, h.1) in
      ap₂ take all h.4 ∙ take_laid d 0 (bytes_of ws max form) (omega (arith, h.3))

  -- stores that can be written and whose bytes are the same are equal
  pub bytes_equal : (ws ws' : List ℕ) → Words ws → Words ws' → (writing ws max form).verdict ≡ fine → (writing ws' max form).verdict ≡ fine → bytes_of ws max form ≡ bytes_of ws' max form → ws ≡ ws'
  unfolding bytes_of writing
  bytes_equal ws ws' h h' good good' bytes =
      let a = store_rows max form ws h good in
      let b = store_rows max form ws' h' good' in
      let rows = Cuttings.same_rows (WellFormed max form) (item_row form) (GoodRow max form) (row_bytes form) (stands max small form)
      (step_of max (fixed form)) (decides max form) Plain (writing ws max form).rows (writing ws' max form).rows a.0 b.0 bytes in
      sym a.1 ∙ ap (flat words) rows ∙ b.1

  pub stores_equal : (ws ws' d d' : List ℕ) (n n' : ℕ) → Words ws → Words ws' → write_answer ws max form (length d) ≡ Ok n → write_answer ws' max form (length d') ≡ Ok n'
      → take n (out_after ws max form d) ≡ take n' (out_after ws' max form d') → ws ≡ ws'
  stores_equal ws ws' d d' n n' h h' e e' same =
      bytes_equal ws ws' h h' (written_bytes ws max form d n e).0 (written_bytes ws' max form d' n' e').0 (sym (out_bytes ws d n e) ∙ same ∙ out_bytes ws' d' n' e')

-- ---- a store that is written, from its bytes

module _ (max : ℕ) (small : max ≤ 128) (form : Form) (ws : List ℕ) (wide : Words ws) (good : (writing ws max form).verdict ≡ fine) where
  -- they can be cut into those of its rows
  again_cut : let rows : List Row = (writing ws max form).rows in
      Cutting (WellFormed max form) (bytes_of ws max form) (map (row_bytes form) rows) × (map (item_row form) (map (row_bytes form) rows) ≡ rows)
  unfolding bytes_of writing
  again_cut =
      Cuttings.rows_cut (WellFormed max form) (item_row form) (GoodRow max form) (row_bytes form) (stands max small form) (writing ws max form).rows (store_rows max form ws wide good).0

  -- as a list, its rows are read again
  pub list_again : list_of (bytes_of ws max form) max (fixed form) ≡ record { rows = (writing ws max form).rows; verdict = fine }
  list_again = (fixed_reads max form (bytes_of ws max form)).read _ again_cut.0 ∙ ap (λ (l : List Row). record { rows = l; verdict = fine }) again_cut.1

  -- and as a section
  pub section_again : section_of (bytes_of ws max form) max (fixed form) ≡ list_of (bytes_of ws max form) max (fixed form)
  section_again = section_list (up_to max) (bytes_of ws max form) (fixed form) (cut_not_strange max form (bytes_of ws max form) _ again_cut.0)

  -- their words are the store
  pub words_again : flat words (list_of (bytes_of ws max form) max (fixed form)).rows ≡ ws
  unfolding writing
  words_again = ap (λ (r : Reading Row). flat words r.rows) list_again ∙ (store_rows max form ws wide good).1

  -- a sixth of it in number
  pub counted_again : length (bytes_of ws max form) ≤ list_limit → count_answer (bytes_of ws max form) (list_of (bytes_of ws max form) max (fixed form)) ≡ Ok (length ws / 6)
  counted_again short =
      let s : List ℕ = bytes_of ws max form in
      let r : Reading Row = list_of s max (fixed form) in
      let six : 6 * length r.rows ≡ length ws = sym (words_length r.rows) ∙ ap length words_again in
      count_good s r (length ws / 6) short (ap (λ (x : Reading Row). x.verdict) list_again, tally_one r.rows ∙ omega arith)

-- ---- the guess, where no item of the guess-off reading starts with a zero byte

module _ (max max' : ℕ) (s s' : List ℕ) (mode mode' : AddPath) (same : s ≡ s') (alike : max ≡ max') (on : mode ≡ Guess) (off : mode' ≡ Off)
    (no : NoZeroFirst (pieces (step_of max Off) Plain s)) where
  plain_list : list_of s max Guess ≡ list_of s max Off
  unfolding list_by
  plain_list = (guess_same max Plain s no).0

  plain_hosts : hosts_of s max Guess ≡ hosts_of s max Off
  unfolding hosts_by
  plain_hosts = ap (tally flag) (guess_same max Plain s no).1

  plain_section : section_of s max Guess ≡ section_of s max Off
  unfolding section_by
  plain_section = rw plain_list

  pub guess_list : list_of s max mode ≡ list_of s' max' mode'
  guess_list = ap (list_of s max) on ∙ plain_list ∙ ap₂ (λ (t : List ℕ) (k : ℕ). list_of t k Off) same alike ∙ ap (list_of s' max') (sym off)

  pub guess_hosts : hosts_of s max mode ≡ hosts_of s' max' mode'
  guess_hosts = ap (hosts_of s max) on ∙ plain_hosts ∙ ap₂ (λ (t : List ℕ) (k : ℕ). hosts_of t k Off) same alike ∙ ap (hosts_of s' max') (sym off)

  pub guess_section : section_of s max mode ≡ section_of s' max' mode'
  guess_section = ap (section_of s max) on ∙ plain_section ∙ ap₂ (λ (t : List ℕ) (k : ℕ). section_of t k Off) same alike ∙ ap (section_of s' max') (sym off)

-- what is read alike is answered and stored alike
module _ (s s' : List ℕ) (r r' : Reading Row) (same : s ≡ s') (alike : r ≡ r') where
  pub same_count : count_answer s r ≡ count_answer s' r'
  same_count = ap₂ count_answer same alike

  pub same_read : (d d' : List ℕ) → d ≡ d' → (read_answer s r (length d) ≡ read_answer s' r' (length d')) × (store_after s r d ≡ store_after s' r' d')
  same_read d d' e = (λ i. read_answer (same i) (alike i) (length (e i)), λ i. store_after (same i) (alike i) (e i))
