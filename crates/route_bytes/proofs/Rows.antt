-- A store of words as rows of six.
-- Assumes nothing.
use Rattle.std.proofs.Common.{◌≡◌, ℕ, zero, suc, ◌+◌, ◌*◌, ◌/◌, ◌<◌, List, [], length, get_or, take, drop, ap, ◌∙◌, not-suc-le-zero, arith, drop-drop}
use Rattle.std.proofs.lemmas.List.{get_or-take}
use Rattle.std.specs.Simd.{first_chunks}
use Rattle.route_bytes.specs.Encode.{front_row}

-- only the first six words are read
pub six_front : (ws : List ℕ) → front_row (take 6 ws) ≡ front_row ws
unfolding front_row
six_front ws = simp (get_or-take 6 ws 0 0 (omega arith), get_or-take 6 ws 1 0 (omega arith), get_or-take 6 ws 2 0 (omega arith), get_or-take 6 ws 3 0 (omega arith), get_or-take 6 ws 4 0 (omega arith), get_or-take 6 ws 5 0 (omega arith))

-- the chunk at a place, of any size
chunk_at : (n k i : ℕ) (ws : List ℕ) → i < k → get_or (first_chunks n k ws) i [] ≡ take n (drop (n * i) ws)
chunk_at n zero i ws lt = absurd (not-suc-le-zero lt)
chunk_at n (suc k) zero ws lt = let none : 0 ≡ n * 0 = omega arith in ap (λ (at : ℕ). take n (drop at ws)) none
chunk_at n (suc k) (suc i) ws lt =
    let more : n + n * i ≡ n * suc i = omega arith in
    chunk_at n k i (drop n ws) (omega arith) ∙ ap (take n) (drop-drop (n * i) n ws) ∙ ap (λ (at : ℕ). take n (drop at ws)) more

-- the words of the row at a place
pub row_words : (ws : List ℕ) (rows : List (List ℕ)) → rows ≡ first_chunks 6 (length ws / 6) ws → (i : ℕ) → i < length ws / 6 → get_or rows i [] ≡ take 6 (drop (6 * i) ws)
row_words ws rows e i lt = ap (λ (l : List (List ℕ)). get_or l i []) e ∙ chunk_at 6 (length ws / 6) i ws lt

-- and the row
pub row_front : (ws : List ℕ) (rows : List (List ℕ)) → rows ≡ first_chunks 6 (length ws / 6) ws → (i : ℕ) → i < length ws / 6 → front_row (get_or rows i []) ≡ front_row (drop (6 * i) ws)
row_front ws rows e i lt = ap front_row (row_words ws rows e i lt) ∙ six_front (drop (6 * i) ws)
