-- A list copied block by block.
-- Assumes nothing.
use Rattle.std.proofs.Common.{◌≡◌, ℕ, ◌+◌, ◌≤◌, List, ◌++◌, length, take, drop, sym, ap, ◌∙◌, arith, length-drop, length-take-le}
use Rattle.std.proofs.lemmas.List.{take-take}
use lib.Seq.{take-add, take_all}
use Rattle.wire.specs.Store.{laid}
use Rattle.wire.proofs.StoreLaws.{take_laid, length_laid}

-- the n values of s at a place, laid in a list that is like s up to some place i at or past that one
module _ (n i at : ℕ) (d s : List ℕ) (long : length d ≡ length s) (reached : at ≤ i) (front : take i d ≡ take i s) (d' : List ℕ) (is : d' ≡ laid d at (take n (drop at s))) where
  pub block_next : (end : ℕ) → at + n ≡ end → end ≤ length s → take end d' ≡ take end s
  block_next end e le =
      let block : List ℕ = take n (drop at s) in
      let size : length block ≡ n = length-take-le n (drop at s) (omega (arith, length-drop at s)) in
      let to : at + length block ≡ end = omega arith in
      ap (take end) is
      ∙ ap (λ (k : ℕ). take k (laid d at block)) (sym to)
      ∙ take_laid d at block (omega arith)
      ∙ ap (λ (l : List ℕ). l ++ block) (sym (take-take at i d reached) ∙ ap (take at) front ∙ take-take at i s reached)
      ∙ sym (take-add at n s)
      ∙ ap (λ (k : ℕ). take k s) e

  -- up to the end, it is s
  pub block_last : at + n ≡ length s → d' ≡ s
  block_last e =
      let block : List ℕ = take n (drop at s) in
      let size : length block ≡ n = length-take-le n (drop at s) (omega (arith, length-drop at s)) in
      let same : length d' ≡ length s = ap length is ∙ length_laid d at block (omega arith) ∙ long in
      sym (take_all (length s) d' (omega arith)) ∙ block_next (length s) e (omega arith) ∙ take_all (length s) s (omega arith)
