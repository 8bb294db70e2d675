-- A line's numbers are those that it was made of: digits stand for the number that they spell.
-- Assumes nothing.
use Rattle.std.proofs.Common.{◌≡◌, ℕ, zero, suc, ◌+◌, ◌-◌, ◌*◌, ◌/◌, ◌%◌, ◌^◌, ◌<◌, ltb, List, [], ◌∷◌, sym, ap, ◌∙◌, arith}
use native.Mathlib.Nat.{pow-succ'}
use Rattle.wire.proofs.ChoiceLaws.{pick_any}
use Rattle.slot_table.specs.Line.{digits, numeral}

digits_value : (f n : ℕ) (acc : List ℕ) → n < 10 ^ f → numeral 0 (digits f n acc) ≡ numeral n acc
unfolding digits
digits_value zero n acc h = let z : n ≡ 0 = omega arith in ap (λ (m : ℕ). numeral m acc) (sym z)
digits_value (suc f) n acc h =
    let less : n < 10 * 10 ^ f = rw pow-succ' at h in
    let one : 0 * 10 + (48 + n - 48) ≡ n = omega arith in
    let last : n / 10 * 10 + (48 + n % 10 - 48) ≡ n = omega arith in
    pick_any (λ (l : List ℕ). numeral 0 l ≡ numeral n acc) (ltb n 10) _ _
    (ap (λ (m : ℕ). numeral m acc) one)
    (digits_value f (n / 10) ((48 + n % 10) ∷ acc) (omega arith) ∙ ap (λ (m : ℕ). numeral m acc) last)

-- a number of 64 bits is what its digits stand for, so that no two have the same
pub number_value : (n : ℕ) → n < 2 ^ 64 → numeral 0 (digits 20 n []) ≡ n
number_value n h = digits_value 20 n [] (omega arith)
