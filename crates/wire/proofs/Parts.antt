-- Parts of lists: laws that the kit's libraries lack.
-- Assumes nothing.
use Prim.Native.Nat.{ℕ, zero, suc, ◌+◌, ◌-◌, ◌≤◌}
use mathlib.Core.Path.{◌≡◌, refl, sym, ap, ◌∙◌}
use mathlib.Core.List.{List, [], ◌∷◌, ◌++◌}
use native.Mathlib.Nat.{sub-zero, suc-sub-suc, not-suc-le-zero}
use native.Mathlib.Omega.{arith}
use lib.ListN.{length, get_or, take, drop}
use lib.Seq.{take-nil, take-add}

pub drop_take : (i n : ℕ) (t : List ℕ) → drop i (take n t) ≡ take (n - i) (drop i t)
drop_take zero n t = ap (λ (k : ℕ). take k t) (sym (sub-zero n))
drop_take (suc i) zero t =
    let e : 0 - suc i ≡ 0 = omega arith in
    rw e refl
drop_take (suc i) (suc n) [] = sym (take-nil (suc n - suc i))
drop_take (suc i) (suc n) (x ∷ t) =
    let e : suc n - suc i ≡ n - i = omega arith in
    rw e (drop_take i n t)

-- parts of one list after another
pub take_append : (n : ℕ) (a b : List ℕ) → take n (a ++ b) ≡ take n a ++ take (n - length a) b
take_append zero [] b = refl
take_append (suc n) [] b = rw sub-zero
take_append zero (x ∷ a) b = let z : 0 - suc (length a) ≡ 0 = omega arith in rw z
take_append (suc n) (x ∷ a) b = ap (λ (l : List ℕ). x ∷ l) (take_append n a b ∙ ap (λ (j : ℕ). take n a ++ take j b) (sym (suc-sub-suc n (length a))))

pub drop_append : (n : ℕ) (a b : List ℕ) → drop n (a ++ b) ≡ drop n a ++ drop (n - length a) b
drop_append zero [] b = refl
drop_append (suc n) [] b = rw sub-zero
drop_append zero (x ∷ a) b = let z : 0 - suc (length a) ≡ 0 = omega arith in rw z
drop_append (suc n) (x ∷ a) b = drop_append n a b ∙ ap (λ (j : ℕ). drop n a ++ drop j b) (sym (suc-sub-suc n (length a)))

-- two elements and those after them
pub two_more : (s : List ℕ) → 2 ≤ length s → get_or s 0 0 ∷ get_or s 1 0 ∷ drop 2 s ≡ s
two_more [] h = absurd (not-suc-le-zero h)
two_more (x ∷ []) h = absurd (omega arith)
two_more (x ∷ y ∷ s) h = refl

pub take_two_more : (s : List ℕ) (n : ℕ) → 2 ≤ length s → take (2 + n) s ≡ get_or s 0 0 ∷ get_or s 1 0 ∷ take n (drop 2 s)
take_two_more s n h = take-add 2 n s ∙ ap (λ (l : List ℕ). take 2 l ++ take n (drop 2 s)) (sym (two_more s h))
