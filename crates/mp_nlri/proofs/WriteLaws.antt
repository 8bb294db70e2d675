-- Laws of what the writers put.
-- Assumes nothing.
use Prim.Native.Nat.{ℕ, ◌+◌, ◌-◌, ◌≤◌}
use mathlib.Core.Path.{◌≡◌, refl, sym, ap, ap₂, ◌∙◌}
use mathlib.Core.List.{List, [], ◌∷◌, ◌++◌, append_assoc}
use mathlib.Core.Bool.{true}
use native.Mathlib.Omega.{arith}
use lib.ListN.{length, take, drop, length-append, length-drop, take-append-drop}
use lib.Seq.{take_all, length-take-le}
use Rattle.wire.specs.Number.{to_be}
use Rattle.wire.specs.Store.{laid, placed}
use Rattle.wire.proofs.StoreLaws.{placed_fits, placed_next, length_laid, laid_laid, laid_before}
use Rattle.mp_nlri.specs.Value.{ipv6_unicast, reach_head, is_hop_size, hop_start}
use Rattle.mp_nlri.proofs.ValueLaws.{hop_cases}

-- the pair and the length of a next hop, in four bytes
front_bytes : (n : ℕ) → is_hop_size n ≡ true → to_be 4 (131328 + n) ≡ 0 ∷ 2 ∷ 1 ∷ n ∷ []
front_bytes n e = hop_cases (λ k. to_be 4 (131328 + k) ≡ 0 ∷ 2 ∷ 1 ∷ k ∷ []) n e refl refl

pair_bytes : take 3 (to_be 4 131328) ≡ ipv6_unicast
pair_bytes = refl

zero_byte : take 1 (to_be 4 0) ≡ 0 ∷ []
zero_byte = refl

pub head_size_lem : (hop : List ℕ) → length (reach_head hop) ≡ hop_start + length hop + 1
unfolding reach_head
head_size_lem hop = omega (arith, length-append hop (0 ∷ []))

-- the next hop, where it is one address
pub hop_one : (d d₁ hop : List ℕ) → is_hop_size (length hop) ≡ true → (length hop ≡ 32 → ⊥) → d₁ ≡ placed d hop_start (take 16 hop) → d₁ ≡ placed d hop_start hop
hop_one d d₁ hop size not_two e =
    let few : length hop ≤ 16 = hop_cases (λ k. (k ≡ 32 → ⊥) → k ≤ 16) (length hop) size (λ _. omega arith) (λ f. absurd (f refl)) not_two in
    e ∙ ap (placed d hop_start) (take_all 16 hop few)

-- and where it is two
pub hop_two : (d d₁ d₂ hop : List ℕ) → length hop ≡ 32 → hop_start + length hop ≤ length d
    → d₁ ≡ placed d hop_start (take 16 hop) → d₂ ≡ placed d₁ (hop_start + 16) (take 16 (drop 16 hop)) → d₂ ≡ placed d hop_start hop
hop_two d d₁ d₂ hop two room e₁ e₂ =
    let a : List ℕ = take 16 hop in
    let b : List ℕ = drop 16 hop in
    let la : length a ≡ 16 = length-take-le 16 hop (omega arith) in
    let lb : length b ≡ 16 = length-drop 16 hop ∙ ap (λ (k : ℕ). k - 16) two in
    let s₁ : d₁ ≡ laid d hop_start a = e₁ ∙ placed_fits d hop_start a (omega arith) in
    let long : length (laid d hop_start a) ≡ length d = length_laid d hop_start a (omega arith) in
    e₂
    ∙ ap₂ (λ (x ws : List ℕ). placed x (hop_start + 16) ws) s₁ (take_all 16 b (omega arith))
    ∙ placed_fits (laid d hop_start a) (hop_start + 16) b (omega arith)
    ∙ ap (λ (k : ℕ). laid (laid d hop_start a) (hop_start + k) b) (sym la)
    ∙ laid_laid d hop_start a b (omega arith)
    ∙ ap (laid d hop_start) (take-append-drop 16 hop)
    ∙ sym (placed_fits d hop_start hop room)

-- the three puts of what stands before the routes
pub head_put : (d d₁ d₂ d₃ hop : List ℕ) → is_hop_size (length hop) ≡ true → length (reach_head hop) ≤ length d
    → d₁ ≡ placed d 0 (to_be 4 (131328 + length hop)) → d₂ ≡ placed d₁ hop_start hop → d₃ ≡ placed d₂ (hop_start + length hop) (take 1 (to_be 4 0))
    → d₃ ≡ laid d 0 (reach_head hop)
unfolding reach_head
head_put d d₁ d₂ d₃ hop size room e₁ e₂ e₃ =
    let n : ℕ = length hop in
    let p : List ℕ = 0 ∷ 2 ∷ 1 ∷ n ∷ [] in
    let fits : hop_start + n + 1 ≤ length d = omega (arith, room, length-append hop (0 ∷ [])) in
    let s₁ : d₁ ≡ laid d 0 p = e₁ ∙ ap (placed d 0) (front_bytes n size) ∙ placed_fits d 0 p (omega arith) in
    let s₂ : d₂ ≡ laid d 0 (p ++ hop) = e₂ ∙ ap (λ (x : List ℕ). placed x hop_start hop) s₁ ∙ placed_next d p hop_start hop refl (omega arith) in
    let at : hop_start + n ≡ length (p ++ hop) = omega (arith, length-append p hop) in
    e₃
    ∙ ap₂ (λ (x ws : List ℕ). placed x (hop_start + n) ws) s₂ zero_byte
    ∙ placed_next d (p ++ hop) (hop_start + n) (0 ∷ []) at (omega arith)
    ∙ ap (laid d 0) (append_assoc p hop (0 ∷ []))

-- the routes, and then what stands before them
pub before_put : (d d₁ d₂ head list : List ℕ) (n : ℕ) → length head ≡ n → n + length list ≤ length d → d₁ ≡ laid d n list → d₂ ≡ laid d₁ 0 head → d₂ ≡ laid d 0 (head ++ list)
before_put d d₁ d₂ head list n size room e₁ e₂ =
    let at : n ≡ 0 + length head = omega (arith, size) in
    e₂ ∙ ap (λ (x : List ℕ). laid x 0 head) (e₁ ∙ ap (λ (k : ℕ). laid d k list) at) ∙ laid_before d 0 head list (omega (arith, size))

pub pair_put : (d d₁ d₂ list : List ℕ) → 3 + length list ≤ length d → d₁ ≡ laid d 3 list → d₂ ≡ placed d₁ 0 (take 3 (to_be 4 131328)) → d₂ ≡ laid d 0 (ipv6_unicast ++ list)
pair_put d d₁ d₂ list room e₁ e₂ =
    let long : length d₁ ≡ length d = ap length e₁ ∙ length_laid d 3 list room in
    before_put d d₁ d₂ ipv6_unicast list 3 refl room e₁ (e₂ ∙ ap (placed d₁ 0) pair_bytes ∙ placed_fits d₁ 0 ipv6_unicast (omega arith))
