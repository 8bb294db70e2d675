-- The octets of an address as code puts them, word by word.
-- Assumes nothing.
use Prim.Native.Nat.{ℕ, zero, suc, ◌+◌, ◌-◌, ◌*◌, ◌≤◌, ◌<◌}
use mathlib.Core.Path.{◌≡◌, refl, sym, ap, ap₂, ◌∙◌}
use mathlib.Core.List.{List, [], ◌∷◌, ◌++◌}
use native.Mathlib.Nat.{add_assoc, not-suc-le-zero}
use native.Mathlib.Omega.{arith}
use lib.ListN.{length, get_or, take}
use lib.Seq.{take-append-le, take_all, length-take-le}
use Rattle.wire.specs.Number.{to_be}
use Rattle.wire.specs.Store.{laid}
use Rattle.wire.specs.Walk.{flat}
use Rattle.wire.proofs.Parts.{take_append}
use Rattle.wire.proofs.StoreLaws.{laid_laid}
use Rattle.route_bytes.specs.Encode.{four_words, address}
use Rattle.route_bytes.proofs.EncodeLaws.{address_length}
use Rattle.routes.specs.declared.Row.{Row}
use Rattle.route_writer.specs.Private.{row_at}

-- of words one after another: those of whole words, and the first m of the next
octets_flat : (ws : List ℕ) (q m : ℕ) → q < length ws → m ≤ 4 → take (4 * q + m) (flat (to_be 4) ws) ≡ take (4 * q) (flat (to_be 4) ws) ++ take m (to_be 4 (get_or ws q 0))
unfolding flat
octets_flat [] q m h k = absurd (not-suc-le-zero h)
octets_flat (w ∷ ws) zero m h k =
    let e : 4 * 0 + m ≡ m = omega arith in
    ap (λ (i : ℕ). take i (to_be 4 w ++ flat (to_be 4) ws)) e ∙ take-append-le m (to_be 4 w) (flat (to_be 4) ws) k
octets_flat (w ∷ ws) (suc q) m h k =
    let past : (i j : ℕ) → i ≡ 4 + j → take i (to_be 4 w ++ flat (to_be 4) ws) ≡ to_be 4 w ++ take j (flat (to_be 4) ws) =
    λ i j e. let s : i - 4 ≡ j = omega arith in
    take_append i (to_be 4 w) (flat (to_be 4) ws)
    ∙ ap₂ (λ (l : List ℕ) (k : ℕ). l ++ take k (flat (to_be 4) ws)) (take_all i (to_be 4 w) (omega arith)) s in
    past (4 * suc q + m) (4 * q + m) (omega arith)
    ∙ ap (λ (l : List ℕ). to_be 4 w ++ l) (octets_flat ws q m (omega arith) k)
    ∙ ap (λ (l : List ℕ). l ++ take m (to_be 4 (get_or ws q 0))) (sym (past (4 * suc q) (4 * q) (omega arith)))

four_flat : (a b c d : ℕ) → four_words a b c d ≡ flat (to_be 4) (a ∷ b ∷ c ∷ d ∷ [])
unfolding four_words flat
four_flat a b c d = refl

-- the word of a quarter
quarter : (rows : List ℕ) (at q : ℕ) → q < 4 → let r = row_at rows at in get_or (r.w0 ∷ r.w1 ∷ r.w2 ∷ r.w3 ∷ []) q 0 ≡ get_or rows (at + (2 + q)) 0
quarter rows at zero h = refl
quarter rows at (suc zero) h = refl
quarter rows at (suc (suc zero)) h = refl
quarter rows at (suc (suc (suc zero))) h = refl
quarter rows at (suc (suc (suc (suc q)))) h = absurd (omega arith)

-- of the row at a place
octets_row : (rows : List ℕ) (at q m : ℕ) → q < 4 → m ≤ 4
    → take (4 * q + m) (address (row_at rows at)) ≡ take (4 * q) (address (row_at rows at)) ++ take m (to_be 4 (get_or rows (at + 2 + q) 0))
octets_row rows at q m h k =
    let r : Row = row_at rows at in
    rw (add_assoc at 2 q, four_flat r.w0 r.w1 r.w2 r.w3, ← quarter rows at q h) (octets_flat (r.w0 ∷ r.w1 ∷ r.w2 ∷ r.w3 ∷ []) q m h k)

-- after those of whole words, the first m of the next are put
pub octets_next : (rows : List ℕ) (at : ℕ) (d : List ℕ) (to q m n : ℕ) → q < 4 → m ≤ 4 → to + 4 * q + m ≤ length d → 4 * q + m ≡ n
    → laid (laid d to (take (4 * q) (address (row_at rows at)))) (to + 4 * q) (take m (to_be 4 (get_or rows (at + 2 + q) 0))) ≡ laid d to (take n (address (row_at rows at)))
octets_next rows at d to q m n h k room all =
    let whole : List ℕ = take (4 * q) (address (row_at rows at)) in
    let next : List ℕ = take m (to_be 4 (get_or rows (at + 2 + q) 0)) in
    let size : length whole ≡ 4 * q = length-take-le (4 * q) (address (row_at rows at)) (omega (arith, address_length (row_at rows at))) in
    let few : length next ≡ m = length-take-le m (to_be 4 (get_or rows (at + 2 + q) 0)) k in
    ap (λ (j : ℕ). laid (laid d to whole) (to + j) next) (sym size)
    ∙ laid_laid d to whole next (omega arith)
    ∙ ap (laid d to) (sym (octets_row rows at q m h k) ∙ ap (λ (j : ℕ). take j (address (row_at rows at))) all)
