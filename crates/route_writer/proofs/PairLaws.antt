-- What holds of two lists that are written.
-- Assumes nothing.
use Prim.Native.Nat.{ℕ, ◌≤◌, ◌<◌}
use mathlib.Core.Path.{◌≡◌, refl}
use mathlib.Core.List.{List}
use mathlib.Core.Bool.{Bool}
use native.Mathlib.Omega.{arith}
use borrow.Author.Tests.{lt-ltb, le-ltb, ltb-false}
use lib.Dec.{ltb}
use Rattle.std.specs.Prelude.{Result, Ok, Err}
use Rattle.wire.specs.Choice.{pick}
use Rattle.wire.proofs.ChoiceLaws.{pick_any, pick_unless}
use Rattle.wire.specs.Refusal.{list_limit}
use Rattle.wire.specs.declared.refusal.Refusal.{Refusal}
use Rattle.wire.specs.declared.refusal.Refusal.TheVariants.{TooLong, NoRoom}
use Rattle.families.specs.declared.Form.{Form}
use Rattle.route_bytes.specs.Promises.{measured}
use Rattle.route_writer.specs.Pair.{write_pair_end, write_pair_sized, if_both, write_pair_answer}
use Rattle.route_writer.specs.declared.Lists.{Lists}

-- lists measured x and y, of a and b bytes, that are not refused
pub record WritePairFits (x y : Result ℕ Refusal) (start between most places a b : ℕ) : Type 0 where
  pub first : x ≡ Ok a
  pub second : y ≡ Ok b
  pub low : a ≤ list_limit
  pub high : b ≤ list_limit
  pub whole : write_pair_end start between a b ≤ most
  pub room : write_pair_end start between a b ≤ places

-- 1 for all of it, whatever the lists
pub write_pair_over : (start between most places first second : ℕ) → most < write_pair_end start between first second → write_pair_sized start between most places first second ≡ Err TooLong
unfolding write_pair_sized
write_pair_over start between most places first second h =
    let P : Result Lists Refusal → Type 0 = λ x. x ≡ Err TooLong in
    pick_any P (ltb list_limit first) (Err TooLong) _ refl (pick_any P (ltb list_limit second) (Err TooLong) _ refl (rw (lt-ltb most (write_pair_end start between first second) h)))

-- 11 or the sizes where nothing is too long
pub write_pair_under : (start between most places first second : ℕ) (full : Bool) → first ≤ list_limit → second ≤ list_limit → write_pair_end start between first second ≤ most
    → ltb places (write_pair_end start between first second) ≡ full
    → write_pair_sized start between most places first second ≡ pick full (Err NoRoom) (Ok (record { first = first; second = second }))
unfolding write_pair_sized
write_pair_under start between most places first second full low high whole e =
    rw (le-ltb list_limit first low, le-ltb list_limit second high, le-ltb most (write_pair_end start between first second) whole, e)

module _ (start between most places : ℕ) (sizes : Lists) where
  sized_fits : (v w : ℕ) → write_pair_sized start between most places v w ≡ Ok sizes → WritePairFits (Ok v) (Ok w) start between most places sizes.first sizes.second
  unfolding write_pair_sized
  sized_fits v w =
      let end : ℕ = write_pair_end start between v w in
      let P : Result Lists Refusal → Type 0 = λ x. x ≡ Ok sizes → WritePairFits (Ok v) (Ok w) start between most places sizes.first sizes.second in
      let never : (r : Refusal) → P (Err r) = λ r e. let z : ◌≡◌ {A = ℕ} 0 1 = cc in absurd (omega arith) in
      pick_unless P (ltb list_limit v) (Err TooLong) _ (never TooLong) (λ low.
      pick_unless P (ltb list_limit w) (Err TooLong) _ (never TooLong) (λ high.
      pick_unless P (ltb most end) (Err TooLong) _ (never TooLong) (λ whole.
      pick_unless P (ltb places end) (Err NoRoom) (Ok (record { first = v; second = w })) (never NoRoom) (λ room e.
      let is : ◌≡◌ {A = Lists} (record { first = v; second = w }) sizes = cc in
      rw (← is) (record {
        first = refl;
        second = refl;
        low = ltb-false list_limit v low;
        high = ltb-false list_limit w high;
        whole = ltb-false most end whole;
        room = ltb-false places end room;
      })))))

  both_fit : (x y : Result ℕ Refusal) → if_both x y (write_pair_sized start between most places) ≡ Ok sizes → WritePairFits x y start between most places sizes.first sizes.second
  both_fit (Ok v) (Ok w) e = sized_fits v w e
  both_fit (Ok v) (Err r) e = let z : ◌≡◌ {A = ℕ} 0 1 = cc in absurd (omega arith)
  both_fit (Err r) y e = let z : ◌≡◌ {A = ℕ} 0 1 = cc in absurd (omega arith)

  pub write_pair_fits : (first second : List ℕ) (max : ℕ) (form : Form) → write_pair_answer first second max form start between most places ≡ Ok sizes
      → WritePairFits (measured first max form) (measured second max form) start between most places sizes.first sizes.second
  unfolding write_pair_answer
  write_pair_fits first second max form e = both_fit (measured first max form) (measured second max form) e
