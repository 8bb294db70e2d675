-- Filling an output with whole words while there is room: what is put past a row's bytes lies below the end of the list, and the rows that
-- follow overwrite it.
-- Assumes nothing.
use Prim.Native.Nat.{ℕ, ◌+◌, ◌≤◌, ◌<◌}
use mathlib.Core.Path.{◌≡◌, sym, ap, ap₂, ◌∙◌, subst}
use mathlib.Core.List.{List, [], ◌∷◌, ◌++◌, append_assoc, append-nil}
use native.Mathlib.Nat.{add-zero, lt_of_not-le}
use native.Mathlib.Decide.{dec_le}
use native.Mathlib.Omega.{arith}
use lib.ListN.{length, take, drop, set, length-append, length-drop, take-append-drop}
use lib.Seq.{get_or-drop, take-append-le}
use Rattle.wire.specs.Number.{to_be}
use Rattle.wire.proofs.NumberLaws.{length_to_be}
use Rattle.wire.specs.Store.{laid}
use Rattle.wire.proofs.StoreLaws.{laid_laid, laid_before, puts_laid, Like, like_same, like_put, like_done}
use Rattle.wire.proofs.Turn.{Filled, fill_start, fill_takes, fill_fits, fill_step, fill_sum, fill_end, fill_done}
use Rattle.wire.specs.Walk.{took}
use Rattle.families.specs.Family.{id_size, octets}
use Rattle.families.specs.declared.Form.{Form}
use Rattle.routes.specs.declared.Row.{Row}
use Rattle.route_bytes.specs.Encode.{four_words, address, length_of, row_bytes, front_row, write_step, writing, bytes_of}
use Rattle.route_bytes.proofs.EncodeLaws.{WritableRow, row_size, write_took, took_write, write_sound}
use Rattle.route_writer.specs.Private.{row_at, head_bytes, Fillable, Ahead}

-- a turn of a loop that fills
module _ (max : ℕ) (form : Form) (rows d₀ : List ℕ) (at to : ℕ) (d : List ℕ) (h : Filled (write_step max form) (row_bytes form) tt rows d₀ tt at to d) (lt : at < length rows) where
  fill_took : (write_step max form tt (drop at rows) ≡ took 6 (front_row (drop at rows)) tt) × (6 ≤ length (drop at rows)) × WritableRow max form (front_row (drop at rows))
  fill_took =
      let t = fill_takes (write_step max form) (write_sound max form) (row_bytes form) tt rows d₀ tt at to d h lt in
      let w = write_took max form tt t.2 (drop at rows) t.0 t.1 t.3 in
      (took_write max form tt (drop at rows) w.there w.good, w.there, w.good)

  -- the row there can be written and has room
  fill_row : (6 ≤ length (drop at rows)) × WritableRow max form (front_row (drop at rows)) × (to + length (row_bytes form (front_row (drop at rows))) ≤ length d)
  fill_row =
      let t = fill_took in
      (t.1, t.2, (fill_fits (write_step max form) (write_sound max form) (row_bytes form) tt rows d₀ tt at to d h tt 6 (front_row (drop at rows)) t.0).2)

  -- and after its bytes the loop's head is reached again
  fill_next : Filled (write_step max form) (row_bytes form) tt rows d₀ tt (at + 6) (to + length (row_bytes form (front_row (drop at rows)))) (laid d to (row_bytes form (front_row (drop at rows))))
  fill_next = fill_step (write_step max form) (write_sound max form) (row_bytes form) tt rows d₀ tt at to d h tt 6 (front_row (drop at rows)) fill_took.0

pub row_at_lem : (rows : List ℕ) (at : ℕ) → front_row (drop at rows) ≡ row_at rows at
unfolding front_row
row_at_lem rows at =
    rw (get_or-drop at rows 0 0, get_or-drop at rows 1 0, get_or-drop at rows 2 0, get_or-drop at rows 3 0, get_or-drop at rows 4 0, get_or-drop at rows 5 0, add-zero at)

module _ (form : Form) (r : Row) where
  pub head_length : length (head_bytes form r) ≡ id_size form + 1
  head_length = length-append (to_be (id_size form) r.id) (length_of form r ∷ []) ∙ ap (λ (k : ℕ). k + 1) (length_to_be (id_size form) r.id)

  -- as code puts it, the length octet first
  pub head_laid : (d : List ℕ) (to k l : ℕ) → k ≡ id_size form → l ≡ length_of form r → to + id_size form + 1 ≤ length d
      → laid (set d (to + k) l) to (to_be (id_size form) r.id) ≡ laid d to (head_bytes form r)
  head_laid d to k l ks ls room =
      let id : List ℕ = to_be (id_size form) r.id in
      let size : length id ≡ id_size form = length_to_be (id_size form) r.id in
      let one : List ℕ = length_of form r ∷ [] in
      let room' : to + length id + length one ≤ length d = omega arith in
      ap₂ (λ (j x : ℕ). laid (set d (to + j) x) to id) (ks ∙ sym size) ls
      ∙ ap (λ (l : List ℕ). laid l to id) (puts_laid d (to + length id) one room')
      ∙ laid_before d to id one room'

  -- with the words of an address that its octets are in, it is the row's bytes and what is left of the words
  head_words_lem : (words tail : List ℕ) → address r ≡ words ++ tail → octets (length_of form r) ≤ length words
      → head_bytes form r ++ words ≡ row_bytes form r ++ drop (octets (length_of form r)) words
  unfolding row_bytes
  head_words_lem words tail split enough =
      let n : ℕ = octets (length_of form r) in
      let id : List ℕ = to_be (id_size form) r.id in
      let front : take n words ≡ take n (address r) = sym (ap (take n) split ∙ take-append-le n words tail enough) in
      let parts : words ≡ take n (address r) ++ drop n words = sym (take-append-drop n words) ∙ ap (λ (l : List ℕ). l ++ drop n words) front in
      ap (λ (l : List ℕ). head_bytes form r ++ l) parts
      ∙ append_assoc id (length_of form r ∷ []) (take n (address r) ++ drop n words)
      ∙ sym (append_assoc id (length_of form r ∷ take n (address r)) (drop n words))

-- the octets of four words as code puts them, word by word
pub words_laid : (d : List ℕ) (to a b c e : ℕ) → to + 16 ≤ length d
    → laid (laid (laid (laid d to (to_be 4 a)) (to + 4) (to_be 4 b)) (to + 8) (to_be 4 c)) (to + 12) (to_be 4 e) ≡ laid d to (four_words a b c e)
unfolding four_words
words_laid d to a b c e room =
    let two : List ℕ = to_be 4 a ++ to_be 4 b in
    let three : List ℕ = two ++ to_be 4 c in
    ap (λ (l : List ℕ). laid (laid l (to + 8) (to_be 4 c)) (to + 12) (to_be 4 e)) (laid_laid d to (to_be 4 a) (to_be 4 b) (omega arith))
    ∙ ap (λ (l : List ℕ). laid l (to + 12) (to_be 4 e)) (laid_laid d to two (to_be 4 c) (omega arith))
    ∙ laid_laid d to three (to_be 4 e) (omega arith)

-- a row put as its head and its octets
pub row_laid : (form : Form) (r : Row) (d d₁ d₂ : List ℕ) (to k n : ℕ) → to + length (row_bytes form r) ≤ length d → length_of form r ≤ 128 → k ≡ id_size form → n ≡ octets (length_of form r)
    → d₁ ≡ laid d to (head_bytes form r) → d₂ ≡ laid d₁ (to + k + 1) (take n (address r)) → (k + 1 + n ≡ length (row_bytes form r)) × (d₂ ≡ laid d to (row_bytes form r))
unfolding row_bytes
row_laid form r d d₁ d₂ to k n room small ks ns e₁ e₂ =
    let head : List ℕ = head_bytes form r in
    let own : List ℕ = take (octets (length_of form r)) (address r) in
    let seam : to + k + 1 ≡ to + length head = omega (arith, head_length form r) in
    let whole : head ++ own ≡ row_bytes form r = append_assoc (to_be (id_size form) r.id) (length_of form r ∷ []) own in (
      ap₂ (λ (i j : ℕ). i + 1 + j) ks ns ∙ sym (row_size form r small),
      e₂
          ∙ ap₂ (λ (i j : ℕ). laid d₁ i (take j (address r))) seam ns
          ∙ ap (λ (l : List ℕ). laid l (to + length head) own) e₁
          ∙ laid_laid d to head own (omega (arith, ap length whole, length-append head own))
          ∙ ap (laid d to) whole,
    )

pub ahead_start : (max : ℕ) (form : Form) (rows d₀ : List ℕ) (total : ℕ) → Fillable rows max form d₀ total → Ahead max form rows d₀ 0 0 d₀
unfolding writing bytes_of
ahead_start max form rows d₀ total f =
    record {
      clean = d₀;
      filled = fill_start (write_step max form) (write_sound max form) (row_bytes form) tt rows d₀ f.good (omega (arith, f.size, f.room));
      like = like_same (length (bytes_of rows max form)) 0 d₀;
    }

-- the bytes before `to` and those of the rows from `at` on are all
filled_sum : (max : ℕ) (form : Form) (rows d₀ : List ℕ) (at to : ℕ) (d : List ℕ) → Filled (write_step max form) (row_bytes form) tt rows d₀ tt at to d
    → to + length (bytes_of (drop at rows) max form) ≡ length (bytes_of rows max form)
unfolding bytes_of writing
filled_sum max form rows d₀ at to d f = fill_sum (write_step max form) (write_sound max form) (row_bytes form) tt rows d₀ tt at to d f

module _ (max : ℕ) (form : Form) (rows d₀ : List ℕ) (at to : ℕ) (d : List ℕ) (h : Ahead max form rows d₀ at to d) where
  ahead_sum : to + length (bytes_of (drop at rows) max form) ≡ length (bytes_of rows max form)
  ahead_sum = filled_sum max form rows d₀ at to h.clean h.filled

  pub ahead_long : length d ≡ length d₀
  ahead_long = h.like.long ∙ h.filled.long

  pub ahead_room : (to ≤ length (bytes_of rows max form)) × (length (bytes_of rows max form) ≤ length d)
  unfolding bytes_of writing
  ahead_room = (omega (arith, ahead_sum), omega (arith, ahead_sum, h.filled.room, ahead_long))

  ahead_end : length rows ≤ at → to ≡ length (bytes_of rows max form)
  unfolding bytes_of writing
  ahead_end le = fill_end (write_step max form) (write_sound max form) (row_bytes form) tt rows d₀ tt at to h.clean h.filled le

  pub ahead_done : length rows ≤ at → d ≡ laid d₀ 0 (bytes_of rows max form)
  unfolding bytes_of writing
  ahead_done le =
      like_done (length (bytes_of rows max form)) d h.clean (subst (λ (k : ℕ). Like (length (bytes_of rows max form)) k d h.clean) (ahead_end le) h.like)
      ∙ fill_done (write_step max form) (write_sound max form) (row_bytes form) tt rows d₀ tt at to h.clean h.filled le

  -- where a byte is still to come there is a row
  pub ahead_more : to < length (bytes_of rows max form) → at < length rows
  ahead_more lt =
      elim (dec_le (length rows) at) [
        | yes le ↦ omega (arith, ahead_end le)
        | no gt ↦ lt_of_not-le gt
      ]

  module _ (lt : at < length rows) where
    next_filled : Filled (write_step max form) (row_bytes form) tt rows d₀ tt (at + 6) (to + length (row_bytes form (row_at rows at))) (laid h.clean to (row_bytes form (row_at rows at)))
    next_filled =
        subst (λ (r : Row). Filled (write_step max form) (row_bytes form) tt rows d₀ tt (at + 6) (to + length (row_bytes form r)) (laid h.clean to (row_bytes form r)))
        (row_at_lem rows at) (fill_next max form rows d₀ at to h.clean h.filled lt)

    -- which is all there, can be written, and has its bytes below the end
    pub ahead_row : (at + 6 ≤ length rows) × WritableRow max form (row_at rows at) × (to + length (row_bytes form (row_at rows at)) ≤ length (bytes_of rows max form))
    ahead_row =
        let r = fill_row max form rows d₀ at to h.clean h.filled lt in (
          omega (arith, r.0, length-drop at rows),
          subst (WritableRow max form) (row_at_lem rows at) r.1,
          omega (arith, filled_sum max form rows d₀ (at + 6) _ _ next_filled),
        )

    -- its bytes, and more that lies below the end, are put
    pub ahead_step : (more : List ℕ) → to + length (row_bytes form (row_at rows at) ++ more) ≤ length (bytes_of rows max form)
        → Ahead max form rows d₀ (at + 6) (to + length (row_bytes form (row_at rows at))) (laid d to (row_bytes form (row_at rows at) ++ more))
    ahead_step more fits =
        let bytes : List ℕ = row_bytes form (row_at rows at) in
        record {
          clean = laid h.clean to bytes;
          filled = next_filled;
          like = like_put (length (bytes_of rows max form)) to d h.clean bytes more h.like fits ahead_room.1;
        }

    -- its bytes alone are put
    pub ahead_next : Ahead max form rows d₀ (at + 6) (to + length (row_bytes form (row_at rows at))) (laid d to (row_bytes form (row_at rows at)))
    ahead_next =
        let bytes : List ℕ = row_bytes form (row_at rows at) in
        let none : bytes ++ [] ≡ bytes = append-nil bytes in
        subst (λ (l : List ℕ). Ahead max form rows d₀ (at + 6) (to + length bytes) (laid d to l)) none (ahead_step [] (omega (arith, ap length none, ahead_row.2)))

-- ---- a turn that puts whole words

-- at such a turn: the next row's octets are in `words`, and the id, the length octet and all of `words` lie below the end
pub record Whole (max : ℕ) (form : Form) (rows d₀ : List ℕ) (total at to : ℕ) (d words : List ℕ) (k : ℕ) : Type 0 where
  pub small : max ≤ 128
  pub fillable : Fillable rows max form d₀ total
  pub ahead : Ahead max form rows d₀ at to d
  pub tail : List ℕ
  pub split : address (row_at rows at) ≡ words ++ tail
  pub enough : octets max ≤ length words
  pub id : k ≡ id_size form
  pub fits : to + (k + 1 + length words) ≤ total

module _ {max : ℕ} {form : Form} {rows d₀ : List ℕ} {total at to : ℕ} {d words : List ℕ} {k : ℕ} (t : Whole max form rows d₀ total at to d words k) where
  there : at < length rows
  there = ahead_more max form rows d₀ at to d t.ahead (omega (arith, t.fits, t.fillable.size))

  pub whole_room : (at + 6 ≤ length rows) × (to + (k + 1 + length words) ≤ length d)
  whole_room =
      ((ahead_row max form rows d₀ at to d t.ahead there).0, omega (arith, t.fits, t.fillable.size, ahead_room max form rows d₀ at to d t.ahead))

  pub whole_row : WritableRow max form (row_at rows at)
  whole_row = (ahead_row max form rows d₀ at to d t.ahead there).1

  -- the loop's head after they are put
  pub whole_turn : (l n : ℕ) (d₁ d₂ : List ℕ) → l ≡ length_of form (row_at rows at) → n ≡ octets l → d₁ ≡ laid d to (head_bytes form (row_at rows at)) → d₂ ≡ laid d₁ (to + k + 1) words
      → Ahead max form rows d₀ (at + 6) (to + (k + 1 + n)) d₂
  whole_turn l n d₁ d₂ ls ns e₁ e₂ =
      let r : Row = row_at rows at in
      let head : List ℕ = head_bytes form r in
      let rest : List ℕ = drop (octets (length_of form r)) words in
      let size : length head ≡ k + 1 = head_length form r ∙ ap (λ (j : ℕ). j + 1) (sym t.id) in
      let seam : to + length head ≡ to + k + 1 = omega arith in
      let whole : head ++ words ≡ row_bytes form r ++ rest = head_words_lem form r words t.tail t.split (omega (arith, whole_row.fits, t.enough)) in
      let all : length (head ++ words) ≡ k + 1 + length words = length-append head words ∙ ap (λ (j : ℕ). j + length words) size in
      let put : d₂ ≡ laid d to (row_bytes form r ++ rest) =
      e₂
      ∙ ap₂ (λ (x : List ℕ) (j : ℕ). laid x j words) e₁ (sym seam)
      ∙ laid_laid d to head words (omega (arith, whole_room.1))
      ∙ ap (laid d to) whole in
      let next : k + 1 + n ≡ length (row_bytes form r) = ap₂ (λ (i j : ℕ). i + 1 + j) t.id (ns ∙ ap octets ls) ∙ sym (row_size form r (omega (arith, whole_row.fits, t.small))) in
      rw (next, put) (ahead_step max form rows d₀ at to d t.ahead there rest (omega (arith, ap length whole, t.fits, t.fillable.size)))
