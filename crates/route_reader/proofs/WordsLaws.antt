-- Laws of address words: read whole, and cut to the octets of the item.
-- Assumes nothing.
use Prim.Native.Nat.{ℕ, zero, suc, ◌+◌, ◌-◌, ◌*◌, ◌^◌, ◌/◌, ◌%◌, ◌≤◌, ◌<◌}
use mathlib.Core.Path.{◌≡◌, refl, sym, ap, ap₂, ◌∙◌}
use mathlib.Core.List.{List, [], ◌∷◌, ◌++◌}
use native.Mathlib.Nat.{mod-eq_of_lt, div-one, mul-one, pow-succ', lt_of_not-le, le_of_lt, lt_of_lt_of_le, add_comm, add-zero, add-mul, mul_assoc, mul-lt-mul_of_pos_right}
use native.Mathlib.Decide.{dec_le}
use native.Mathlib.Omega.{arith}
use borrow.Author.Tests.{eqb-true}
use lib.Arith.{digits_mod}
use lib.Bits.{bit_and, and_high}
use lib.Dec.{eqb}
use lib.ListN.{length, take, drop, replicate, drop_of_length-le, length-drop, length-replicate, take-append-drop}
use lib.Pow.{pow-add, pow_mono, shl_lt, shr_lt}
use lib.Seq.{drop-drop, take_all}
use Rattle.wire.proofs.ChoiceLaws.{below_at}
use Rattle.wire.specs.Number.{be, be_at, padded, Bytes}
use Rattle.wire.proofs.NumberLaws.{pow_pos256, be_append, be_cut, be_lt, be_at_lt, be_zeros, bytes_take, bytes_drop, bytes_padded, length_padded, padded_all, padded_take, padded_of_take, padded_of_more}
use Rattle.wire.proofs.Parts.{drop_take}
use Rattle.wire.specs.Store.{laid}
use Rattle.wire.proofs.StoreLaws.{laid_laid}
use Rattle.families.specs.Family.{id_size}
use Rattle.families.specs.declared.Form.{Form}
use Rattle.routes.specs.List.{marked}
use Rattle.routes.specs.Prefix.{word_at, row_of, item_row, words}
use Rattle.routes.proofs.PrefixLaws.{item_row_lem}
use Rattle.routes.specs.Private.{Bounded}
use Rattle.routes.specs.declared.Row.{Row}
use Rattle.route_reader.specs.Private.{head_words, address_words, all_masks}

-- ---- a number of w bytes with all but its first m cleared

bits_bytes : (k : ℕ) → 2 ^ (8 * k) ≡ 256 ^ k
bits_bytes zero = refl
bits_bytes (suc k) =
    let e : 8 * suc k ≡ 8 + 8 * k = omega arith in
    ap (λ (j : ℕ). 2 ^ j) e ∙ pow-add 2 8 (8 * k) ∙ ap (λ (x : ℕ). 256 * x) (bits_bytes k) ∙ sym (pow-succ' 256 k)

-- some of them
cut_some : (w m k : ℕ) (t : List ℕ) → Bytes t → m + k ≡ w → be (padded w t) / 256 ^ k * 256 ^ k ≡ be (padded w (take m t))
cut_some w m k t h e =
    be_cut m k (padded w t) (bytes_padded w t h) (length_padded w t ∙ sym e)
    ∙ ap be (sym (ap (λ (n : ℕ). padded n (take m t)) (sym e) ∙ padded_of_take m k t ∙ ap (λ (n : ℕ). take m (padded n t) ++ replicate k 0) e))

pub cut_bits : (w m : ℕ) (t : List ℕ) → Bytes t → be (padded w t) / 2 ^ (8 * w - 8 * m) * 2 ^ (8 * w - 8 * m) ≡ be (padded w (take m t))
cut_bits w m t h =
    elim (dec_le m w) [
      | yes le ↦ less le
      | no gt ↦ more (le_of_lt (lt_of_not-le gt))
    ]
  where
    less : m ≤ w → be (padded w t) / 2 ^ (8 * w - 8 * m) * 2 ^ (8 * w - 8 * m) ≡ be (padded w (take m t))
    less le =
        let e : 8 * w - 8 * m ≡ 8 * (w - m) = omega arith in
        ap (λ (x : ℕ). be (padded w t) / x * x) (ap (λ (j : ℕ). 2 ^ j) e ∙ bits_bytes (w - m)) ∙ cut_some w m (w - m) t h (omega arith)

    more : w ≤ m → be (padded w t) / 2 ^ (8 * w - 8 * m) * 2 ^ (8 * w - 8 * m) ≡ be (padded w (take m t))
    more le =
        let e : 8 * w - 8 * m ≡ 0 = omega arith in
        rw e (mul-one (be (padded w t) / 1) ∙ div-one (be (padded w t)) ∙ ap be (sym (padded_of_more w m t le)))

-- the same for those at octet i of n
pub cut_at : (w i n : ℕ) (t : List ℕ) → Bytes t → be_at t i w / 2 ^ (8 * w - 8 * (n - i)) * 2 ^ (8 * w - 8 * (n - i)) ≡ be_at (take n t) i w
unfolding be_at
cut_at w i n t h = cut_bits w (n - i) (drop i t) (bytes_drop i t h) ∙ ap (λ (o : List ℕ). be (padded w o)) (sym (drop_take i n t))

pub word_lt : (o : List ℕ) (i : ℕ) → Bytes o → be_at o i 4 < 4294967296
word_lt o i h = be_at_lt o i 4 h

-- ---- a word under the mask of the first n octets

mask_word : (d : ℕ) → d < 29 → be_at all_masks d 4 ≡ 4294967296 - 2 ^ (32 - 8 * (16 - d))
unfolding be_at
mask_word d lt = eqb-true _ _ (below_at (λ (d : ℕ). eqb (be (padded 4 (drop d all_masks))) (4294967296 - 2 ^ (32 - 8 * (16 - d)))) 29 d refl lt)

pub masked : (t : List ℕ) (n i x y : ℕ) → Bytes t → n ≤ 16 → i ≤ 12 → x ≡ be_at t i 4 → y ≡ be_at all_masks (16 - n + i) 4 → bit_and x y ≡ be_at (take n t) i 4
masked t n i x y h few place e f =
    let j : ℕ = 32 - (32 - 8 * (n - i)) in
    let k : ℕ = 32 - 8 * (n - i) in
    let all : j + k ≡ 32 = omega arith in
    let left : 16 - (16 - n + i) ≡ n - i = omega arith in
    let small : x < 2 ^ (j + k) = rw (all, e) (word_lt t i h) in
    let mask : y ≡ 2 ^ (j + k) - 2 ^ k =
    f ∙ mask_word (16 - n + i) (omega arith) ∙ ap₂ (λ (a b : ℕ). 2 ^ a - 2 ^ (32 - 8 * b)) (sym all) left in
    ap (bit_and x) mask
    ∙ and_high x j k
    ∙ ap (λ (q : ℕ). q * 2 ^ k) (mod-eq_of_lt (shr_lt j k small))
    ∙ ap (λ (q : ℕ). q / 2 ^ k * 2 ^ k) e
    ∙ cut_at 4 i n t h

-- a word of a part that holds it
word_within : (t : List ℕ) (k i : ℕ) → i + 4 ≤ k → be_at (take k t) i 4 ≡ be_at t i 4
unfolding be_at
word_within t k i le = ap (λ (o : List ℕ). be (padded 4 o)) (drop_take i k t) ∙ ap be (padded_of_more 4 (k - i) (drop i t) (omega arith))

-- as a reader has the two: the first sixteen octets of s, and sixteen of a table of masks from the place of the mask on
pub masked_first : (s table : List ℕ) (n : ℕ) → Bytes s → table ≡ all_masks → n ≤ 16 → (i x y : ℕ) → i ≤ 12
    → x ≡ be_at (take 16 s) i 4 → y ≡ be_at (take (16 - n + 16 - (16 - n)) (drop (16 - n) table)) i 4 → bit_and x y ≡ be_at (take n s) i 4
unfolding be_at
masked_first s table n h e few i x y le f g =
    masked s n i x y h few le
    (f ∙ word_within s 16 i (omega arith))
    (g ∙ word_within (drop (16 - n) table) (16 - n + 16 - (16 - n)) i (omega arith)
    ∙ ap (λ (t : List ℕ). be (padded 4 t)) (drop-drop i (16 - n) table) ∙ ap (λ (t : List ℕ). be (padded 4 (drop (16 - n + i) t))) e)

-- ---- the first octets of a list

-- n of four, with the others shifted out
pub first_octets : (s : List ℕ) (n w : ℕ) → Bytes s → n ≤ 4 → w ≡ be_at (take 4 s) 0 4
    → (w / 2 ^ (8 * (4 - n)) * 2 ^ (8 * (4 - n)) % 18446744073709551616 ≡ be_at (take n s) 0 4) × (w / 2 ^ (8 * (4 - n)) * 2 ^ (8 * (4 - n)) % 18446744073709551616 < 4294967296)
first_octets s n w h few e =
    let bits : 8 * (4 - n) ≡ 8 * 4 - 8 * (n - 0) = omega arith in
    let cut : w / 2 ^ (8 * (4 - n)) * 2 ^ (8 * (4 - n)) ≡ be_at (take n s) 0 4 =
    ap₂ (λ (x j : ℕ). x / 2 ^ j * 2 ^ j) (e ∙ word_within s 4 0 (omega arith)) bits ∙ cut_at 4 0 n s h in
    let small : be_at (take n s) 0 4 < 4294967296 = word_lt (take n s) 0 (bytes_take n s h) in
    let same : w / 2 ^ (8 * (4 - n)) * 2 ^ (8 * (4 - n)) % 18446744073709551616 ≡ be_at (take n s) 0 4 =
    ap (λ (x : ℕ). x % 18446744073709551616) cut ∙ mod-eq_of_lt (omega (arith, small)) in
    (same, rw same small)

-- ---- the last octets of a list

-- n of four, shifted up over the others
last_four : (t : List ℕ) (m n : ℕ) → Bytes t → length t ≡ 4 → m + n ≡ 4 → be t * 256 ^ m % 256 ^ 4 ≡ be (padded 4 (drop m t))
last_four t m n h four e =
    let p : List ℕ = take m t in
    let q : List ℕ = drop m t in
    let nq : length q ≡ n = omega (arith, length-drop m t) in
    let parts : be t ≡ be p * 256 ^ n + be q =
    ap be (sym (take-append-drop m t)) ∙ be_append p q ∙ ap (λ (j : ℕ). be p * 256 ^ j + be q) nq in
    let all : 256 ^ n * 256 ^ m ≡ 256 ^ 4 = sym (pow-add 256 n m) ∙ ap (λ (j : ℕ). 256 ^ j) (add_comm n m ∙ e) in
    let up : be t * 256 ^ m ≡ be p * 256 ^ 4 + be q * 256 ^ m =
    ap (λ (x : ℕ). x * 256 ^ m) parts ∙ add-mul (be p * 256 ^ n) (be q) (256 ^ m) ∙ ap (λ (x : ℕ). x + be q * 256 ^ m) (mul_assoc (be p) (256 ^ n) (256 ^ m) ∙ ap (λ (x : ℕ). be p * x) all) in
    let small : be q * 256 ^ m < 256 ^ 4 =
    rw (← all) (mul-lt-mul_of_pos_right {m = be q} {n = 256 ^ n} {k = 256 ^ m} (rw nq at (be_lt q (bytes_drop m t h))) (pow_pos256 m)) in
    let zeros : padded 4 q ≡ q ++ replicate m 0 =
    ap₂ padded (sym (add_comm n m ∙ e)) (sym (take_all n q (omega arith)))
    ∙ padded_of_take n m q
    ∙ ap (λ (l : List ℕ). l ++ replicate m 0) (ap (λ (j : ℕ). take j (padded (n + m) q)) (sym nq) ∙ padded_all q (n + m) (omega arith)) in
    ap (λ (x : ℕ). x % 256 ^ 4) up
    ∙ digits_mod (be p) small
    ∙ sym (ap be zeros ∙ be_append q (replicate m 0) ∙ ap₂ (λ (j x : ℕ). be q * 256 ^ j + x) (length-replicate m 0) (be_zeros m) ∙ add-zero (be q * 256 ^ m))

pub last_octets : (s : List ℕ) (n w : ℕ) → Bytes s → 4 ≤ length s → n ≤ 4 → w ≡ be_at s (length s - 4) 4 → w * 2 ^ (8 * (4 - n)) % 18446744073709551616 % 4294967296 ≡ be_at s (length s - n) 4
unfolding be_at
last_octets s n w h long few e =
    let at : ℕ = length s - 4 in
    let t : List ℕ = drop at s in
    let k : ℕ = 8 * (4 - n) in
    let four : length t ≡ 4 = omega (arith, length-drop at s) in
    let whole : padded 4 t ≡ t = padded_take 4 t (omega arith) ∙ take_all 4 t (omega arith) in
    let same : at + (4 - n) ≡ length s - n = omega arith in
    let small : w * 2 ^ k < 18446744073709551616 =
    lt_of_lt_of_le (shl_lt 32 k (rw e (word_lt s at h))) (pow_mono {i = 32 + k} {j = 64} (omega arith)) in
    ap (λ (x : ℕ). x % 4294967296) (mod-eq_of_lt small)
    ∙ ap₂ (λ (x y : ℕ). x * y % 4294967296) (e ∙ ap be whole) (bits_bytes (4 - n))
    ∙ last_four t (4 - n) n (bytes_drop at s h) four (omega arith)
    ∙ ap (λ (l : List ℕ). be (padded 4 l)) (drop-drop (4 - n) at s ∙ ap (λ (j : ℕ). drop j s) same)

-- a word past the end
pub beyond : (o : List ℕ) (i : ℕ) → length o ≤ i → 0 ≡ be_at o i 4
unfolding be_at
beyond o i le = ap (λ (p : List ℕ). be (padded 4 p)) (sym (drop_of_length-le o le))

-- ---- four words put two by two

pub two_by_two : (d d₁ d₂ : List ℕ) (to w0 w1 w2 w3 : ℕ) → to + 4 ≤ length d → d₁ ≡ laid d to (w0 ∷ w1 ∷ []) → d₂ ≡ laid d₁ (to + 2) (w2 ∷ w3 ∷ []) → d₂ ≡ laid d to (w0 ∷ w1 ∷ w2 ∷ w3 ∷ [])
two_by_two d d₁ d₂ to w0 w1 w2 w3 room e f = f ∙ ap (λ (l : List ℕ). laid l (to + 2) (w2 ∷ w3 ∷ [])) e ∙ laid_laid d to (w0 ∷ w1 ∷ []) (w2 ∷ w3 ∷ []) (omega (arith, room))

-- ---- the address words of octets, from words that were read

pub address_parts : (o : List ℕ) (w0 w1 w2 w3 : ℕ) → w0 ≡ be_at o 0 4 → w1 ≡ be_at o 4 4 → w2 ≡ be_at o 8 4 → w3 ≡ be_at o 12 4 → w0 ∷ w1 ∷ w2 ∷ w3 ∷ [] ≡ address_words o
unfolding word_at
address_parts o w0 w1 w2 w3 e f g h = cc

-- of at most four, where the others are 0
pub address_first : (o : List ℕ) (w : ℕ) → length o ≤ 4 → w ≡ be_at o 0 4 → w ∷ 0 ∷ 0 ∷ 0 ∷ [] ≡ address_words o
address_first o w few e = address_parts o w 0 0 0 e (beyond o 4 few) (beyond o 8 (omega arith)) (beyond o 12 (omega arith))

-- ---- the words of an item's row are its head and its address

pub item_words : (mark : ℕ) (form : Form) (e : ℕ) (s : List ℕ) → Bounded form e s
    → words (marked mark (item_row form (take e s))) ≡ head_words mark form s ++ address_words (take (e - (id_size form + 1)) (drop (id_size form + 1) s))
unfolding row_of
item_words mark form e s b =
    sym (ap (λ (r : Row). words (marked mark r)) (item_row_lem s form e (id_size form) _ _ refl refl refl b.front b.within))
