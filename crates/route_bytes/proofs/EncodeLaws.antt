-- Laws of a row's bytes, and of a store of rows written row by row.
-- Assumes nothing.
use Rattle.std.proofs.Common.{◌≡◌, ℕ, zero, suc, ◌+◌, ◌-◌, ◌*◌, ◌/◌, ◌%◌, ◌^◌, ◌<◌, ◌≤◌, Bool, true, false, ◌&&◌, eqb, leb, List, [], ◌∷◌, ◌++◌, length, get_or, take, drop, sym, refl, ap, ◌∙◌, ap₂, append_assoc, not-suc-le-zero, mod-lt, mod-eq_of_lt, suc-mul, add-sub_of_le, lt_of_not-le, zero-mul, arith, length-append, drop_of_length-le, length-take-le, pow_pos, pow-add, ne_eqb, le-leb, leb-true}
use native.Mathlib.Nat.{sub-zero, suc-sub-suc, pow-succ', mul-mod_left}
use native.Mathlib.Decide.{dec_le}
use borrow.Author.Tests.{lt-leb}
use lib.Arith.{mod-mul, digits_mod}
use lib.Pow.{mod-pow-add, shl-shr}
use Rattle.wire.specs.Choice.{pick}
use Rattle.wire.proofs.ChoiceLaws.{and_true}
use Rattle.wire.specs.Number.{be, to_be}
use Rattle.wire.proofs.NumberLaws.{length_to_be, be_to_be, pow_pos256, to_be_append}
use Rattle.wire.proofs.Parts.{drop_append}
use Rattle.wire.specs.declared.refusal.Refusal.{Refusal}
use Rattle.wire.specs.declared.refusal.Refusal.TheVariants.{NotWritable}
use Rattle.wire.specs.Walk.{Step, took, stop}
use Rattle.wire.proofs.WalkLaws.{Sound}
use Rattle.wire.proofs.Turn.{Light}
use Rattle.families.specs.Family.{id_size, mark_of, octets}
use Rattle.families.proofs.FamilyLaws.{id_small, mark_small}
use Rattle.families.specs.declared.Form.{Form}
use Rattle.routes.specs.declared.Row.{Row}
use Rattle.route_bytes.proofs.Rows.{six_front}
use Rattle.route_bytes.specs.Encode.{four_words, address, length_of, row_bytes, all_zero, id_fits, writable, front_row, write_step}

-- ---- octets that are 0

and_assoc : (a b c : Bool) → (a && b) && c ≡ a && (b && c)
and_assoc true b c = refl
and_assoc false b c = refl

and_yes : (a : Bool) → a && true ≡ a
and_yes true = refl
and_yes false = refl

pub no_and : (a : Bool) → a && false ≡ false
no_and true = refl
no_and false = refl

zero_append : (s t : List ℕ) → all_zero (s ++ t) ≡ all_zero s && all_zero t
unfolding all_zero
zero_append [] t = refl
zero_append (b ∷ s) t = ap (λ (r : Bool). eqb b 0 && r) (zero_append s t) ∙ sym (and_assoc (eqb b 0) (all_zero s) (all_zero t))

-- a digit and the rest are 0 where the number is
digit_zero : (b r c : ℕ) → 0 < c → eqb b 0 && eqb r 0 ≡ eqb (b * c + r) 0
digit_zero zero r c h = let e : 0 * c + r ≡ r = omega (arith, zero-mul c) in ap (λ (k : ℕ). eqb k 0) (sym e)
digit_zero (suc b) r c h = rw (ne_eqb (suc b) 0 (λ z. omega arith)) (sym (ne_eqb (suc b * c + r) 0 (λ z. omega (arith, suc-mul b c))))

-- so of two words it does not matter how they are joined
pub zero_sum : (a b : ℕ) → eqb (a + b) 0 ≡ eqb (a * 4294967296 + b) 0
zero_sum zero b = refl
zero_sum (suc a) b = ne_eqb (suc a + b) 0 (λ z. omega arith) ∙ sym (ne_eqb (suc a * 4294967296 + b) 0 (λ z. omega arith))

zero_be : (s : List ℕ) → all_zero s ≡ eqb (be s) 0
unfolding all_zero
zero_be [] = refl
zero_be (b ∷ s) = ap (λ (t : Bool). eqb b 0 && t) (zero_be s) ∙ digit_zero b (be s) (256 ^ length s) (pow_pos256 (length s))

pow_256 : (n : ℕ) → 256 ^ n ≡ 2 ^ (8 * n)
pow_256 zero = refl
pow_256 (suc n) =
    let e : 8 * suc n ≡ 8 + 8 * n = omega arith in
    pow-succ' 256 n ∙ ap (λ (x : ℕ). 256 * x) (pow_256 n) ∙ sym (ap (λ (j : ℕ). 2 ^ j) e ∙ pow-add 2 8 (8 * n))

-- the bytes of a number past the first m are those of its remainder
drop_to_be : (n m v : ℕ) → m ≤ n → v < 256 ^ n → drop m (to_be n v) ≡ to_be (n - m) (v % 256 ^ (n - m))
drop_to_be zero zero v h k = refl
drop_to_be zero (suc m) v h k = absurd (not-suc-le-zero h)
drop_to_be (suc n) zero v h k = rw sub-zero (ap (to_be (suc n)) (sym (mod-eq_of_lt k)))
drop_to_be (suc n) (suc m) v h k =
    let le : m ≤ n = omega arith in
    let split : 256 ^ n ≡ 256 ^ m * 256 ^ (n - m) = ap (λ (j : ℕ). 256 ^ j) (sym (add-sub_of_le le)) ∙ pow-add 256 m (n - m) in
    let same : v % 256 ^ n % 256 ^ (n - m) ≡ v % 256 ^ (n - m) =
    ap (λ (j : ℕ). v % j % 256 ^ (n - m)) split
    ∙ ap (λ (x : ℕ). x % 256 ^ (n - m)) (mod-mul v (pow_pos256 m) (pow_pos256 (n - m)))
    ∙ digits_mod (v / 256 ^ (n - m) % 256 ^ m) (mod-lt v (pow_pos256 (n - m))) in
    rw suc-sub-suc (drop_to_be n m (v % 256 ^ n) le (mod-lt v (pow_pos256 n)) ∙ ap (to_be (n - m)) same)

-- the octets past the first m of eight, as a shift by m octets leaves them
pub half_past : (m v : ℕ) → m < 8 → v < 256 ^ 8 → all_zero (drop m (to_be 8 v)) ≡ eqb (v * 2 ^ (8 * m) % 18446744073709551616) 0
half_past m v h k =
    let r : ℕ = v % 256 ^ (8 - m) in
    let c : ℕ = 2 ^ (8 * m) in
    let up : 8 * (8 - m) + 8 * m ≡ 64 = omega arith in
    let low : v * c % c ≡ 0 = mul-mod_left v c in
    let shift : v * c % 18446744073709551616 ≡ r * c + 0 =
    ap (λ (j : ℕ). v * c % 2 ^ j) (sym up)
    ∙ mod-pow-add (v * c) (8 * (8 - m)) (8 * m)
    ∙ ap₂ (λ (x y : ℕ). x % 2 ^ (8 * (8 - m)) * c + y) (shl-shr v (8 * m)) low
    ∙ ap (λ (x : ℕ). v % x * c + 0) (sym (pow_256 (8 - m))) in
    ap all_zero (drop_to_be 8 m v (omega arith) k)
    ∙ zero_be (to_be (8 - m) r)
    ∙ ap (λ (x : ℕ). eqb x 0) (be_to_be (8 - m) r (mod-lt v (pow_pos256 (8 - m))))
    ∙ sym (and_yes (eqb r 0))
    ∙ digit_zero r 0 c (pow_pos (8 * m))
    ∙ ap (λ (x : ℕ). eqb x 0) (sym shift)

-- the octets of four words are those of two halves
pub halves : (a b c d : ℕ) → a < 256 ^ 4 → b < 256 ^ 4 → c < 256 ^ 4 → d < 256 ^ 4
    → four_words a b c d ≡ to_be 8 (a * 4294967296 + b) ++ to_be 8 (c * 4294967296 + d)
unfolding four_words
halves a b c d ha hb hc hd =
    sym (append_assoc (to_be 4 a) (to_be 4 b) (to_be 4 c ++ to_be 4 d)) ∙ ap₂ ◌++◌ (to_be_append 4 4 a b ha hb) (to_be_append 4 4 c d hc hd)

module _ (n x y : ℕ) where
  zero_halves : all_zero (drop n (to_be 8 x ++ to_be 8 y)) ≡ all_zero (drop n (to_be 8 x)) && all_zero (drop (n - 8) (to_be 8 y))
  zero_halves = ap all_zero (drop_append n (to_be 8 x) (to_be 8 y)) ∙ zero_append (drop n (to_be 8 x)) (drop (n - 8) (to_be 8 y))

  -- with n in the first
  pub zero_early : n < 8 → y < 256 ^ 8 → all_zero (drop n (to_be 8 x ++ to_be 8 y)) ≡ all_zero (drop n (to_be 8 x)) && eqb y 0
  zero_early h k =
      let z : n - 8 ≡ 0 = omega arith in
      let whole : all_zero (drop (n - 8) (to_be 8 y)) ≡ eqb y 0 = ap (λ (j : ℕ). all_zero (drop j (to_be 8 y))) z ∙ zero_be (to_be 8 y) ∙ ap (λ (v : ℕ). eqb v 0) (be_to_be 8 y k) in
      zero_halves ∙ ap (λ (t : Bool). all_zero (drop n (to_be 8 x)) && t) whole

  -- in the second
  pub zero_late : 8 ≤ n → all_zero (drop n (to_be 8 x ++ to_be 8 y)) ≡ all_zero (drop (n - 8) (to_be 8 y))
  unfolding all_zero
  zero_late h = zero_halves ∙ ap (λ (l : List ℕ). all_zero l && all_zero (drop (n - 8) (to_be 8 y))) (drop_of_length-le (to_be 8 x) {i = n} (omega (arith, length_to_be 8 x)))

  -- and past it
  pub zero_none : n ≡ 16 → all_zero (drop n (to_be 8 x ++ to_be 8 y)) ≡ true
  unfolding all_zero
  zero_none e = zero_late (omega arith) ∙ ap (λ (k : ℕ). all_zero (drop (k - 8) (to_be 8 y))) e

-- ---- a row that can be written

pub record WritableRow (max : ℕ) (form : Form) (r : Row) : Type 0 where
  pub mark : mark_of form ≤ r.first
  pub fits : length_of form r ≤ max
  pub id : id_fits form r.id ≡ true
  pub past : all_zero (drop (octets (length_of form r)) (address r)) ≡ true

module _ (max : ℕ) (form : Form) (r : Row) where
  pub is_writable : writable max form r ≡ true → WritableRow max form r
  unfolding writable
  is_writable e =
      let p = and_true _ _ e in
      let q = and_true _ _ p.1 in
      let t = and_true _ _ q.1 in
      record { mark = leb-true _ _ p.0; fits = leb-true _ _ q.0; id = t.0; past = t.1 }

  pub writable_is : WritableRow max form r → writable max form r ≡ true
  unfolding writable
  writable_is w = simp (le-leb (mark_of form) r.first w.mark, le-leb (length_of form r) max w.fits, w.id, w.past)

pub address_length : (r : Row) → length (address r) ≡ 16
unfolding four_words
address_length r = refl

pub row_size : (form : Form) (r : Row) → length_of form r ≤ 128 → length (row_bytes form r) ≡ id_size form + 1 + octets (length_of form r)
unfolding row_bytes
row_size form r h =
    let n : ℕ = octets (length_of form r) in
    let o : length (take n (address r)) ≡ n = length-take-le n (address r) (omega (arith, address_length r)) in
    omega (arith, length-append (to_be (id_size form) r.id) (length_of form r ∷ take n (address r)), length_to_be (id_size form) r.id)

-- ---- the step

pub record WriteTook (ws : List ℕ) (max : ℕ) (form : Form) (used : ℕ) (row : Row) : Type 0 where
  pub size : used ≡ 6
  pub there : 6 ≤ length ws
  pub is : row ≡ front_row ws
  pub good : WritableRow max form (front_row ws)

step_by_lem : (t : Bool) (row : Row) (used : ℕ) (a : Row) (st : Unit {0}) → pick t (took 6 row tt) (stop NotWritable) ≡ took used a st → (t ≡ true) × (used ≡ 6) × (a ≡ row)
step_by_lem true row used a st e = (refl, cc, cc)
step_by_lem false row used a st e = let z : ◌≡◌ {A = ℕ} 0 1 = cc in absurd (omega arith)

stop_by : (t : Bool) (row : Row) (n : Refusal) → ◌≡◌ {A = Step (Unit {0}) Row} (pick t (took 6 row tt) (stop NotWritable)) (stop n) → (t ≡ false) × (n ≡ NotWritable)
stop_by true row n e = let z : ◌≡◌ {A = ℕ} 0 1 = cc in absurd (omega arith)
stop_by false row n e = (refl, cc)

module _ (max : ℕ) (form : Form) where
  pub write_took : (st st' : Unit {0}) (ws : List ℕ) (used : ℕ) (row : Row) → write_step max form st ws ≡ took used row st' → WriteTook ws max form used row
  unfolding write_step
  write_took st st' ws used row e =
      let t = step_by_lem (leb 6 (length ws) && writable max form (front_row ws)) (front_row ws) used row st' e in
      let b = and_true _ _ t.0 in
      record { size = t.1; there = leb-true _ _ b.0; is = t.2; good = is_writable max form (front_row ws) b.1 }

  pub took_write : (st : Unit {0}) (ws : List ℕ) → 6 ≤ length ws → WritableRow max form (front_row ws) → write_step max form st ws ≡ took 6 (front_row ws) tt
  unfolding write_step
  took_write st ws h w = simp (le-leb 6 (length ws) h, writable_is max form (front_row ws) w)

  pub write_stop : (st : Unit {0}) (ws : List ℕ) (n : Refusal) → write_step max form st ws ≡ stop n → n ≡ NotWritable
  unfolding write_step
  write_stop st ws n e = (stop_by (leb 6 (length ws) && writable max form (front_row ws)) (front_row ws) n e).1

  pub stop_write : (st : Unit {0}) (ws : List ℕ) → leb 6 (length ws) && writable max form (front_row ws) ≡ false → write_step max form st ws ≡ stop NotWritable
  unfolding write_step
  stop_write st ws e = rw e

  -- only the first six words count
  pub step_row : (st : Unit {0}) (ws : List ℕ) → 6 ≤ length ws → write_step max form st (take 6 ws) ≡ write_step max form st ws
  unfolding write_step
  step_row st ws h = simp (six_front ws, length-take-le 6 ws h, le-leb 6 (length ws) h)

  pub write_sound : Sound (write_step max form)
  write_sound = record {
    takes = λ st st' ws used row e. let t = write_took st st' ws used row e in (omega (arith, t.size), omega (arith, t.size, t.there));
  }

  pub write_light : max ≤ 128 → Light (write_step max form) (λ row. length (row_bytes form row)) 4
  write_light small st st' ws used row e =
      let t = write_took st st' ws used row e in
      let id = id_small form in
      let size : length (row_bytes form row) ≡ id_size form + 1 + octets (length_of form (front_row ws)) =
      ap (λ (r : Row). length (row_bytes form r)) t.is ∙ row_size form (front_row ws) (omega (arith, t.good.fits)) in
      omega (arith, t.size, t.good.fits)

-- ---- the row at the front, by its words

module _ (ws : List ℕ) (max : ℕ) (form : Form) where
  -- what makes it one that cannot be written
  low_mark : get_or ws 0 0 < mark_of form → writable max form (front_row ws) ≡ false
  unfolding writable front_row
  low_mark h = rw (lt-leb (mark_of form) (get_or ws 0 0) h)

  long_prefix : max < get_or ws 0 0 - mark_of form → writable max form (front_row ws) ≡ false
  unfolding writable front_row
  long_prefix h = simp (lt-leb (get_or ws 0 0 - mark_of form) max h, no_and)

  -- the length by a difference that wraps
  pub far_length : (mark : ℕ) → mark ≡ mark_of form → get_or ws 0 0 < 4294967296 → max < (get_or ws 0 0 + (4294967296 - mark)) % 4294967296 → writable max form (front_row ws) ≡ false
  far_length mark e small over =
      elim (dec_le (mark_of form) (get_or ws 0 0)) [
        | yes le ↦ long_prefix (omega (arith, mark_small form))
        | no gt ↦ low_mark (lt_of_not-le gt)
      ]

  pub near_length : (mark : ℕ) → mark ≡ mark_of form → max ≤ 128 → get_or ws 0 0 < 4294967296 → (get_or ws 0 0 + (4294967296 - mark)) % 4294967296 ≤ max
      → (mark_of form ≤ get_or ws 0 0) × ((get_or ws 0 0 + (4294967296 - mark)) % 4294967296 ≡ get_or ws 0 0 - mark_of form)
  near_length mark e small wide near = (omega (arith, mark_small form), omega (arith, mark_small form))

  pub strange_id : id_fits form (get_or ws 1 0) ≡ false → writable max form (front_row ws) ≡ false
  unfolding writable front_row
  strange_id e = simp (e, no_and)

  pub set_octets : (n : ℕ) → n ≡ octets (get_or ws 0 0 - mark_of form) → all_zero (drop n (four_words (get_or ws 2 0) (get_or ws 3 0) (get_or ws 4 0) (get_or ws 5 0))) ≡ false
      → writable max form (front_row ws) ≡ false
  unfolding writable front_row
  set_octets n is e = simp (← is, e, no_and)

  -- and what one that can be written has
  pub front_writable : mark_of form ≤ get_or ws 0 0 → get_or ws 0 0 - mark_of form ≤ max → id_fits form (get_or ws 1 0) ≡ true
      → (n : ℕ) → n ≡ octets (get_or ws 0 0 - mark_of form) → all_zero (drop n (four_words (get_or ws 2 0) (get_or ws 3 0) (get_or ws 4 0) (get_or ws 5 0))) ≡ true
      → WritableRow max form (front_row ws)
  unfolding front_row
  front_writable m f i n is p = record { mark = m; fits = f; id = i; past = rw is at p }

  pub front_parts : WritableRow max form (front_row ws) → max ≤ 128
      → (mark_of form ≤ get_or ws 0 0) × (get_or ws 0 0 - mark_of form ≤ max) × (length (row_bytes form (front_row ws)) ≡ id_size form + 1 + octets (get_or ws 0 0 - mark_of form))
  unfolding front_row
  front_parts w small = (w.mark, w.fits, row_size form (front_row ws) (omega (arith, w.fits)))
