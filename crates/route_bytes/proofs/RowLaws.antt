-- A route's bytes and its row stand for each other; and a store that can be written is the words of its rows.
-- Assumes nothing.
use Rattle.std.proofs.Common.{◌≡◌, ℕ, zero, suc, ◌+◌, ◌-◌, ◌*◌, ◌/◌, ◌%◌, ◌^◌, ◌<◌, ◌≤◌, true, eqb, List, [], ◌∷◌, ◌++◌, length, get_or, take, drop, replicate, sym, refl, ap, ◌∙◌, ap₂, add-sub_of_le, arith, length-drop, take-append-drop, length-take-le, get_or-drop, drop-drop, take_at, drop_at, eqb-true}
use lib.Seq.{take-length, get_or_at, take-append_seam, drop-append_seam}
use Rattle.wire.specs.Cutting.{Each, none, one}
use Rattle.wire.specs.Number.{be, to_be, padded, be_at, Bytes, Words}
use Rattle.std.specs.Prelude.{Err}
use Rattle.wire.specs.Verdict.{fine}
use Rattle.wire.specs.declared.refusal.Refusal.{Refusal}
use Rattle.wire.specs.declared.refusal.Refusal.TheVariants.{NotWritable}
use Rattle.wire.proofs.AnswerLaws.{refused_not_fine}
use Rattle.wire.specs.Walk.{Step, took, stop, Reading, more, read_all, flat}
use Rattle.wire.proofs.ChoiceLaws.{and_true}
use Rattle.wire.proofs.CuttingLaws.{Stands}
use Rattle.wire.proofs.NumberLaws.{be_lt, to_be_be, be_to_be, length_to_be, bytes_drop, bytes_take, bytes_padded, length_padded, padded_add, padded_all, padded_of_take, padded_take, padded_cells}
use Rattle.wire.proofs.WalkLaws.{all_nil, all_stop, all_took, all_ind}
use Rattle.families.specs.Family.{id_size, mark_of, guessed, octets}
use Rattle.families.proofs.FamilyLaws.{mark_small}
use Rattle.families.specs.declared.Form.{Form}
use Rattle.families.specs.declared.Form.TheVariants.{Plain, Tagged}
use Rattle.routes.specs.Prefix.{word_at, row_of, item_row, words}
use Rattle.routes.specs.WellFormed.{WellFormed}
use Rattle.routes.specs.declared.Row.{Row}
use Rattle.route_bytes.specs.Encode.{four_words, address, length_of, row_bytes, all_zero, id_fits, front_row, write_step, writing}
use Rattle.route_bytes.proofs.EncodeLaws.{WritableRow, address_length, write_took, took_write, write_stop, write_sound}

-- ---- octets that are 0

zeros_clear : (k : ℕ) → all_zero (replicate k 0) ≡ true
unfolding all_zero
zeros_clear zero = refl
zeros_clear (suc k) = zeros_clear k

clear_zeros : (s : List ℕ) → all_zero s ≡ true → s ≡ replicate (length s) 0
unfolding all_zero
clear_zeros [] e = refl
clear_zeros (b ∷ s) e = let t = and_true (eqb b 0) (all_zero s) e in ap₂ ◌∷◌ (eqb-true b 0 t.0) (clear_zeros s t.1)

-- a short list filled up with 0
padded_zeros : (o : List ℕ) (m : ℕ) → length o ≤ m → padded m o ≡ o ++ replicate (m - length o) 0
padded_zeros o m h =
    let n : ℕ = length o in
    let e : n + (m - n) ≡ m = add-sub_of_le h in
    let p : padded (n + (m - n)) (take n o) ≡ take n (padded (n + (m - n)) o) ++ replicate (m - n) 0 = padded_of_take n (m - n) o in
    let q : padded m o ≡ take n (padded m o) ++ replicate (m - n) 0 =
    ap₂ padded (sym e) (sym (take-length o)) ∙ p ∙ ap (λ (k : ℕ). take n (padded k o) ++ replicate (m - n) 0) e in
    q ∙ ap (λ (l : List ℕ). l ++ replicate (m - n) 0) (padded_all o m h)

-- ---- from octets to a row's address

module _ (o : List ℕ) (b : Bytes o) where
  word_bytes : (i : ℕ) → to_be 4 (word_at o i) ≡ padded 4 (drop i o)
  unfolding word_at be_at
  word_bytes i =
      let p : List ℕ = padded 4 (drop i o) in
      ap (λ (n : ℕ). to_be n (be p)) (sym (length_padded 4 (drop i o))) ∙ to_be_be p (bytes_padded 4 (drop i o) (bytes_drop i o b))

  word_wide : (i : ℕ) → word_at o i < 2 ^ 32
  unfolding word_at be_at
  word_wide i =
      let p : List ℕ = padded 4 (drop i o) in
      rw (length_padded 4 (drop i o)) at (be_lt p (bytes_padded 4 (drop i o) (bytes_drop i o b)))

  -- the sixteen octets are the item's, filled up with 0
  address_is : (first id : ℕ) → address (row_of o first id) ≡ padded 16 o
  unfolding row_of four_words
  address_is first id =
      ap₂ ◌++◌ (word_bytes 0) (ap₂ ◌++◌ (word_bytes 4) (ap₂ ◌++◌ (word_bytes 8) (word_bytes 12)))
      ∙ ap (λ (l : List ℕ). padded 4 o ++ (padded 4 (drop 4 o) ++ l)) (ap (λ (t : List ℕ). padded 4 (drop 8 o) ++ padded 4 t) (sym (drop-drop 4 8 o)) ∙ padded_add 4 4 (drop 8 o))
      ∙ ap (λ (l : List ℕ). padded 4 o ++ l) (ap (λ (t : List ℕ). padded 4 (drop 4 o) ++ padded 8 t) (sym (drop-drop 4 4 o)) ∙ padded_add 4 8 (drop 4 o))
      ∙ padded_add 4 12 o

-- ---- rows that can be written

-- the words of a row as a store of 32-bit numbers has them, the first apart
pub record Wide (r : Row) : Type 0 where
  pub id : r.id < 2 ^ 32
  pub w0 : r.w0 < 2 ^ 32
  pub w1 : r.w1 < 2 ^ 32
  pub w2 : r.w2 < 2 ^ 32
  pub w3 : r.w3 < 2 ^ 32

-- a row that can be written, as a store has it
abbrev pub GoodRow : ℕ → Form → Row → Type 0
GoodRow max form r = WritableRow max form r × Wide r

-- ---- an item's row can be written, and is written as the item

module _ (max : ℕ) (small : max ≤ 128) (form : Form) (item : List ℕ) (w : WellFormed max form item) where
  item_length : get_or item (id_size form) 0 ≡ w.len
  item_length = ap (λ (l : List ℕ). get_or l (id_size form) 0) w.parts ∙ get_or_at w.ident w.len w.prefix 0 (id_size form) w.ident_size

  item_ident : take (id_size form) item ≡ w.ident
  item_ident = ap (take (id_size form)) w.parts ∙ take_at w.ident (w.len ∷ w.prefix) (id_size form) w.ident_size

  item_prefix : drop (id_size form + 1) item ≡ w.prefix
  item_prefix =
      sym (drop-drop 1 (id_size form) item)
      ∙ ap (λ (l : List ℕ). drop 1 (drop (id_size form) l)) w.parts
      ∙ ap (drop 1) (drop_at w.ident (w.len ∷ w.prefix) (id_size form) w.ident_size)

  -- the row by the item's parts
  row_is : item_row form item ≡ row_of w.prefix (w.len + mark_of form) (be w.ident)
  unfolding item_row
  row_is =
      ap₂ (λ (o : List ℕ) (l : ℕ). row_of o (l + mark_of form) (be (take (id_size form) item))) item_prefix item_length
      ∙ ap (λ (p : List ℕ). row_of w.prefix (w.len + mark_of form) (be p)) item_ident

  no_ident : (f : Form) (p : List ℕ) → length p ≡ id_size f → id_fits f (be p) ≡ true
  no_ident Plain [] e = refl
  no_ident Plain (x ∷ p) e = absurd (let z : suc (length p) ≡ 0 = e in omega arith)
  no_ident Tagged p e = refl

  ident_wide : (f : Form) (p : List ℕ) → length p ≡ id_size f → Bytes p → be p < 2 ^ 32
  ident_wide Plain [] e b = omega arith
  ident_wide Plain (x ∷ p) e b = absurd (let z : suc (length p) ≡ 0 = e in omega arith)
  ident_wide Tagged p e b = rw e at (be_lt p b)

  item_written : Bytes item → GoodRow max form (item_row form item) × (row_bytes form (item_row form item) ≡ item)
  unfolding row_bytes row_of
  item_written b =
      let o : List ℕ = w.prefix in
      let p : List ℕ = w.ident in
      let ob : Bytes o = rw item_prefix at (bytes_drop (id_size form + 1) item b) in
      let pb : Bytes p = rw item_ident at (bytes_take (id_size form) item b) in
      let r : Row = row_of o (w.len + mark_of form) (be p) in
      let short : length o ≤ 16 = omega (arith, w.prefix_size, w.in_range) in
      let len : w.len + mark_of form - mark_of form ≡ w.len = omega arith in
      let size : octets (w.len + mark_of form - mark_of form) ≡ length o = ap octets len ∙ sym w.prefix_size in
      let addr : address r ≡ o ++ replicate (16 - length o) 0 = address_is o ob (w.len + mark_of form) (be p) ∙ padded_zeros o 16 short in
      let good : WritableRow max form r = record {
        mark = omega arith;
        fits = rw len w.in_range;
        id = no_ident form p w.ident_size;
        past = ap₂ (λ (n : ℕ) (a : List ℕ). all_zero (drop n a)) size addr ∙ ap all_zero (drop-append_seam o (replicate (16 - length o) 0)) ∙ zeros_clear (16 - length o);
      } in
      let ids : to_be (id_size form) (be p) ≡ p = ap (λ (n : ℕ). to_be n (be p)) (sym w.ident_size) ∙ to_be_be p pb in
      let bytes : row_bytes form r ≡ item =
      ap₂ ◌++◌ ids (ap₂ ◌∷◌ len (ap₂ (λ (n : ℕ) (a : List ℕ). take n a) size addr ∙ take-append_seam o (replicate (16 - length o) 0))) ∙ sym w.parts in
      let wide : Wide r = record { id = ident_wide form p w.ident_size pb; w0 = word_wide o ob 0; w1 = word_wide o ob 4; w2 = word_wide o ob 8; w3 = word_wide o ob 12 } in
      rw row_is ((good, wide), bytes)

-- ---- a row that can be written is the row of its bytes

row_eq : (r q : Row) → r.first ≡ q.first → r.id ≡ q.id → r.w0 ≡ q.w0 → r.w1 ≡ q.w1 → r.w2 ≡ q.w2 → r.w3 ≡ q.w3 → r ≡ q
row_eq r q a b c d e f = λ i. record { first = a i; id = b i; w0 = c i; w1 = d i; w2 = e i; w3 = f i }

-- a part of a list that is filled up with 0
part_is : (i r : ℕ) (o : List ℕ) → take 4 (drop i (padded (i + (4 + r)) o)) ≡ padded 4 (drop i o)
part_is i r o =
    ap (λ (l : List ℕ). take 4 (drop i l)) (sym (padded_add i (4 + r) o))
    ∙ ap (take 4) (drop_at (padded i o) (padded (4 + r) (drop i o)) i (length_padded i o) ∙ sym (padded_add 4 r (drop i o)))
    ∙ take_at (padded 4 (drop i o)) (padded r (drop 4 (drop i o))) 4 (length_padded 4 (drop i o))

module _ (max : ℕ) (small : max ≤ 128) (form : Form) (r : Row) (g : WritableRow max form r) where
  n_small : octets (length_of form r) ≤ 16
  n_small = omega (arith, g.fits)

  octets_long : length (take (octets (length_of form r)) (address r)) ≡ octets (length_of form r)
  octets_long = length-take-le (octets (length_of form r)) (address r) (omega (arith, address_length r, n_small))

  row_formed : WellFormed max form (row_bytes form r)
  unfolding row_bytes
  row_formed = record {
    ident = to_be (id_size form) r.id;
    len = length_of form r;
    prefix = take (octets (length_of form r)) (address r);
    parts = refl;
    ident_size = length_to_be (id_size form) r.id;
    in_range = g.fits;
    prefix_size = octets_long;
  }

  -- its octets, filled up with 0, are its address
  octets_padded : padded 16 (take (octets (length_of form r)) (address r)) ≡ address r
  octets_padded =
      let n : ℕ = octets (length_of form r) in
      let o : List ℕ = take n (address r) in
      let left : length (drop n (address r)) ≡ 16 - length o = length-drop n (address r) ∙ ap₂ ◌-◌ (address_length r) (sym octets_long) in
      padded_zeros o 16 (omega (arith, octets_long, n_small))
      ∙ ap (λ (z : List ℕ). o ++ z) (ap (λ (j : ℕ). replicate j 0) (sym left) ∙ sym (clear_zeros (drop n (address r)) g.past))
      ∙ take-append-drop n (address r)

  -- the word at octet i, where the address has v there
  word_is : (i j v : ℕ) → i + (4 + j) ≡ 16 → v < 2 ^ 32 → take 4 (drop i (address r)) ≡ to_be 4 v → word_at (take (octets (length_of form r)) (address r)) i ≡ v
  unfolding word_at be_at
  word_is i j v e lt at =
      let o : List ℕ = take (octets (length_of form r)) (address r) in
      ap be (sym (part_is i j o) ∙ ap (λ (m : ℕ). take 4 (drop i (padded m o))) e ∙ ap (λ (l : List ℕ). take 4 (drop i l)) octets_padded ∙ at) ∙ be_to_be 4 v lt

  id_is : (f : Form) (v : ℕ) → id_fits f v ≡ true → v < 2 ^ 32 → be (to_be (id_size f) v) ≡ v
  id_is Plain v e lt = sym (eqb-true v 0 e)
  id_is Tagged v e lt = be_to_be 4 v lt

  row_read : Wide r → item_row form (row_bytes form r) ≡ r
  unfolding row_of four_words row_formed
  row_read h =
      let o : List ℕ = take (octets (length_of form r)) (address r) in
      row_is max small form (row_bytes form r) row_formed
      ∙ row_eq (row_of o (length_of form r + mark_of form) (be (to_be (id_size form) r.id))) r
      (omega (arith, g.mark))
      (id_is form r.id g.id h.id)
      (word_is 0 12 r.w0 refl h.w0 refl)
      (word_is 4 8 r.w1 refl h.w1 refl)
      (word_is 8 4 r.w2 refl h.w2 refl)
      (word_is 12 0 r.w3 refl h.w3 refl)

pub stands : (max : ℕ) → max ≤ 128 → (form : Form) → Stands (WellFormed max form) (item_row form) (GoodRow max form) (row_bytes form)
stands max small form = record {
  written = λ item w b. item_written max small form item w b;
  read = λ r g. (row_formed max small form r g.0, row_read max small form r g.0 g.1);
}

-- ---- a store of rows

-- a row's six words at the front are taken for it
row_took : (max : ℕ) (form : Form) (r : Row) (t : List ℕ) → WritableRow max form r → write_step max form tt (words r ++ t) ≡ took 6 r tt
unfolding front_row
row_took max form r t g = took_write max form tt (words r ++ t) (omega arith) g

-- rows that can be written are written, from the store that has their words
pub rows_write : (max : ℕ) (form : Form) (rows : List Row) → Each (GoodRow max form) rows
    → read_all (write_step max form) tt (flat words rows) ≡ record { rows = rows; verdict = fine }
unfolding flat
rows_write max form [] none = all_nil (write_step max form) tt
rows_write max form (r ∷ rs) (one g gs) =
    let t : List ℕ = flat words rs in
    all_took (write_step max form) tt tt (words r ++ t) 6 r (omega arith) (omega arith) (row_took max form r t g.0)
    ∙ ap (more r) (rows_write max form rs gs)

-- a store that is written whole is the words of its rows
front_words : (ws : List ℕ) → 6 ≤ length ws → words (front_row ws) ≡ take 6 ws
unfolding front_row
front_words ws h = sym (padded_cells ws 0 6) ∙ padded_take 6 ws h

front_wide : (ws : List ℕ) → Words ws → Wide (front_row ws)
unfolding front_row
front_wide ws h = record { id = h 1; w0 = h 2; w1 = h 3; w2 = h 4; w3 = h 5 }

words_drop : (n : ℕ) (ws : List ℕ) → Words ws → Words (drop n ws)
words_drop n ws h i = rw (get_or-drop n ws i 0) (h (n + i))

pub store_rows : (max : ℕ) (form : Form) (ws : List ℕ) → Words ws → (read_all (write_step max form) tt ws).verdict ≡ fine
    → let rows = (read_all (write_step max form) tt ws).rows in Each (GoodRow max form) rows × (flat words rows ≡ ws)
unfolding flat
store_rows max form ws =
    all_ind (write_step max form) (write_sound max form) (λ _ t r. Words t → r.verdict ≡ fine → Each (GoodRow max form) r.rows × (flat words r.rows ≡ t))
    (λ _ _ _. (none, refl))
    (λ st t n pos e _ v. absurd (refused_not_fine n v))
    (λ st st' t used row pos e again h v.
    let k = write_took max form st st' t used row e in
    let more_of = again (words_drop used t h) v in
    let good : WritableRow max form row = rw k.is k.good in
    let wide : Wide row = rw k.is (front_wide t h) in
    let six : words row ≡ take used t = ap words k.is ∙ front_words t k.there ∙ ap (λ (n : ℕ). take n t) (sym k.size) in
    (one (good, wide) more_of.0, ap₂ ◌++◌ six more_of.1 ∙ take-append-drop used t))
    tt ws

-- ---- a row that has the mark of the guess

module _ (max : ℕ) (form : Form) where
  stopped : (ws : List ℕ) (n : Refusal) → 0 < length ws → write_step max form tt ws ≡ stop n → (writing ws max form).verdict ≡ Err NotWritable
  unfolding writing
  stopped ws n pos e = ap (λ (r : Reading Row). r.verdict) (all_stop (write_step max form) tt ws n pos e) ∙ ap Err (write_stop max form tt ws n e)

  -- the first word of a row that can be written is a length, or that and 256
  marked_first : max ≤ 128 → (ws : List ℕ) (x : Step (Unit {0}) Row) → write_step max form tt ws ≡ x → 0 < length ws → get_or ws 0 0 / guessed % 2 ≡ 1 → (writing ws max form).verdict ≡ Err NotWritable
  unfolding front_row
  marked_first small ws (took used row st) e pos mark =
      let good = (write_took max form tt st ws used row e).good in
      let fits : get_or ws 0 0 - mark_of form ≤ max = good.fits in
      absurd (omega (arith, small, fits, mark_small form, mark))
  marked_first small ws (stop n) e pos mark = stopped ws n pos e

  marked_later : (ws : List ℕ) (x : Step (Unit {0}) Row) → write_step max form tt ws ≡ x → 0 < length ws → (writing (drop 6 ws) max form).verdict ≡ Err NotWritable → (writing ws max form).verdict ≡ Err NotWritable
  unfolding writing
  marked_later ws (took used row st) e pos rest =
      let six = (write_took max form tt st ws used row e).size in
      ap (λ (r : Reading Row). r.verdict) (all_took (write_step max form) tt st ws used row pos (omega (arith, six)) e)
      ∙ ap (λ (n : ℕ). (read_all (write_step max form) tt (drop n ws)).verdict) six
      ∙ rest
  marked_later ws (stop n) e pos rest = stopped ws n pos e

  -- so a store that has the mark on any of its rows is not written
  pub marked_stops : max ≤ 128 → (i : ℕ) (ws : List ℕ) → 6 * i < length ws → get_or ws (6 * i) 0 / guessed % 2 ≡ 1 → (writing ws max form).verdict ≡ Err NotWritable
  marked_stops small zero ws lt mark = marked_first small ws (write_step max form tt ws) refl lt mark
  marked_stops small (suc i) ws lt mark =
      let place : 6 + 6 * i ≡ 6 * suc i = omega arith in
      let there : get_or (drop 6 ws) (6 * i) 0 ≡ get_or ws (6 * suc i) 0 = get_or-drop 6 ws (6 * i) 0 ∙ ap (λ (k : ℕ). get_or ws k 0) place in
      marked_later ws (write_step max form tt ws) refl (omega arith) (marked_stops small i (drop 6 ws) (omega (arith, length-drop 6 ws)) (ap (λ (w : ℕ). w / guessed % 2) there ∙ mark))
