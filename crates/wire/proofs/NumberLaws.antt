-- Laws of numbers as bytes, each once over the size.
-- Assumes nothing.
use Prim.Native.Nat.{ℕ, zero, suc, ◌+◌, ◌-◌, ◌*◌, ◌^◌, ◌/◌, ◌%◌, ◌≤◌, ◌<◌}
use mathlib.Core.Path.{◌≡◌, refl, sym, ap, ap₂, ◌∙◌}
use mathlib.Core.List.{List, [], ◌∷◌, ◌++◌}
use native.Mathlib.Nat.{div-add-mod', mod-lt, add-zero, add-suc, div-lt_iff_lt-mul, one-le-pow, pow-succ', not-suc-le-zero, mul_assoc, zero-mul, add-mul, add_assoc, mul-add-mod_self_right}
use native.Mathlib.Omega.{arith}
use lib.ListN.{length, get_or, take, drop, replicate, length-replicate, length-append, length-drop, take-append-drop}
use lib.Seq.{get_or-drop, take-length}
use lib.Arith.{digits_lt, digits_div, digits_mod}
use lib.Pow.{pow-add}
use Rattle.wire.specs.Number.{be, to_be, padded, be_at, Bytes}

-- ---- reading and writing are inverse

pub pow_pos256 : (n : ℕ) → 0 < 256 ^ n
pow_pos256 n = one-le-pow n 256 (omega arith)

pub be_lt : (bs : List ℕ) → Bytes bs → be bs < 256 ^ length bs
be_lt [] h = omega arith
be_lt (b ∷ bs) h = rw pow-succ' (digits_lt (h 0) (be_lt bs (λ i. h (suc i))))

pub length_to_be : (n v : ℕ) → length (to_be n v) ≡ n
length_to_be zero v = refl
length_to_be (suc n) v = ap suc (length_to_be n (v % 256 ^ n))

pub be_to_be : (n v : ℕ) → v < 256 ^ n → be (to_be n v) ≡ v
be_to_be zero v h = omega arith
be_to_be (suc n) v h =
    let ih : be (to_be n (v % 256 ^ n)) ≡ v % 256 ^ n = be_to_be n (v % 256 ^ n) (mod-lt v (pow_pos256 n)) in
    ap₂ (λ (k x : ℕ). v / 256 ^ n * 256 ^ k + x) (length_to_be n (v % 256 ^ n)) ih ∙ div-add-mod' v (256 ^ n)

pub bytes_to_be : (n v : ℕ) → v < 256 ^ n → Bytes (to_be n v)
bytes_to_be zero v h i = omega arith
bytes_to_be (suc n) v h zero = (div-lt_iff_lt-mul (pow_pos256 n)).1 (rw pow-succ' at h)
bytes_to_be (suc n) v h (suc i) = bytes_to_be n (v % 256 ^ n) (mod-lt v (pow_pos256 n)) i

pub to_be_be : (bs : List ℕ) → Bytes bs → to_be (length bs) (be bs) ≡ bs
to_be_be [] h = refl
to_be_be (b ∷ bs) h =
    let lt : be bs < 256 ^ length bs = be_lt bs (λ i. h (suc i)) in
    rw (digits_div b, digits_mod b) (ap (λ (l : List ℕ). b ∷ l) (to_be_be bs (λ i. h (suc i))))

-- the four bytes of a number, as code makes them
pub to_be_four : (v : ℕ) → to_be 4 v ≡ v / 16777216 ∷ v / 65536 % 256 ∷ v / 256 % 256 ∷ v % 256 ∷ []
to_be_four v =
    let b : v % 256 ^ 3 / 256 ^ 2 ≡ v / 65536 % 256 = omega arith in
    let c : v % 256 ^ 3 % 256 ^ 2 / 256 ^ 1 ≡ v / 256 % 256 = omega arith in
    let d : v % 256 ^ 3 % 256 ^ 2 % 256 ^ 1 / 256 ^ 0 ≡ v % 256 = omega arith in
    ap (λ (l : List ℕ). v / 16777216 ∷ l) (ap₂ ◌∷◌ b (ap₂ ◌∷◌ c (ap (λ (x : ℕ). x ∷ []) d)))

-- ---- bytes of parts

pub bytes_drop : (n : ℕ) (s : List ℕ) → Bytes s → Bytes (drop n s)
bytes_drop n s h i = rw (get_or-drop n s i 0) (h (n + i))

pub bytes_take : (n : ℕ) (s : List ℕ) → Bytes s → Bytes (take n s)
bytes_take zero s h i = omega arith
bytes_take (suc n) [] h i = h i
bytes_take (suc n) (b ∷ s) h zero = h 0
bytes_take (suc n) (b ∷ s) h (suc i) = bytes_take n s (λ j. h (suc j)) i

pub bytes_append : (s t : List ℕ) → Bytes s → Bytes t → Bytes (s ++ t)
bytes_append [] t h k i = k i
bytes_append (b ∷ s) t h k zero = h 0
bytes_append (b ∷ s) t h k (suc i) = bytes_append s t (λ j. h (suc j)) k i

pub bytes_padded : (n : ℕ) (s : List ℕ) → Bytes s → Bytes (padded n s)
bytes_padded zero s h i = omega arith
bytes_padded (suc n) [] h zero = omega arith
bytes_padded (suc n) [] h (suc i) = bytes_padded n [] h i
bytes_padded (suc n) (b ∷ s) h zero = h 0
bytes_padded (suc n) (b ∷ s) h (suc i) = bytes_padded n s (λ j. h (suc j)) i

-- ---- a list filled up with 0

pub length_padded : (n : ℕ) (s : List ℕ) → length (padded n s) ≡ n
length_padded zero s = refl
length_padded (suc n) [] = ap suc (length_padded n [])
length_padded (suc n) (b ∷ s) = ap suc (length_padded n s)

pub be_at_lt : (s : List ℕ) (at n : ℕ) → Bytes s → be_at s at n < 256 ^ n
unfolding be_at
be_at_lt s at n h = rw (length_padded n (drop at s)) at (be_lt (padded n (drop at s)) (bytes_padded n (drop at s) (bytes_drop at s h)))

pub padded_nil : (n : ℕ) → padded n [] ≡ replicate n 0
padded_nil zero = refl
padded_nil (suc n) = ap (λ (l : List ℕ). 0 ∷ l) (padded_nil n)

-- what the list has is kept
pub take_padded : (n m : ℕ) (s : List ℕ) → n ≤ m → n ≤ length s → take n (padded m s) ≡ take n s
take_padded zero m s h k = refl
take_padded (suc n) zero s h k = absurd (not-suc-le-zero h)
take_padded (suc n) (suc m) [] h k = absurd (not-suc-le-zero k)
take_padded (suc n) (suc m) (b ∷ s) h k = ap (λ (l : List ℕ). b ∷ l) (take_padded n m s (omega arith) (omega arith))

pub padded_all : (s : List ℕ) (m : ℕ) → length s ≤ m → take (length s) (padded m s) ≡ s
padded_all s m h = take_padded (length s) m s h (omega arith) ∙ take-length s

pub padded_take : (n : ℕ) (s : List ℕ) → n ≤ length s → padded n s ≡ take n s
padded_take zero s h = refl
padded_take (suc n) [] h = absurd (not-suc-le-zero h)
padded_take (suc n) (b ∷ s) h = ap (λ (l : List ℕ). b ∷ l) (padded_take n s (omega arith))

pub padded_of_more : (n m : ℕ) (s : List ℕ) → n ≤ m → padded n (take m s) ≡ padded n s
padded_of_more zero m s h = refl
padded_of_more (suc n) zero s h = absurd (not-suc-le-zero h)
padded_of_more (suc n) (suc m) [] h = refl
padded_of_more (suc n) (suc m) (b ∷ s) h = ap (λ (l : List ℕ). b ∷ l) (padded_of_more n m s (omega arith))

pub get_or_padded : (n : ℕ) (s : List ℕ) (i : ℕ) → i < n → get_or (padded n s) i 0 ≡ get_or s i 0
get_or_padded zero s i h = absurd (not-suc-le-zero h)
get_or_padded (suc n) [] zero h = refl
get_or_padded (suc n) [] (suc i) h = get_or_padded n [] i (omega arith)
get_or_padded (suc n) (b ∷ s) zero h = refl
get_or_padded (suc n) (b ∷ s) (suc i) h = get_or_padded n s i (omega arith)

pub padded_add : (m n : ℕ) (s : List ℕ) → padded m s ++ padded n (drop m s) ≡ padded (m + n) s
padded_add zero n s = rw zero_plus
  where
    zero_plus : 0 + n ≡ n
    zero_plus = omega arith
padded_add (suc m) n [] =
    let e : suc m + n ≡ suc (m + n) = omega arith in
    rw e (ap (λ (l : List ℕ). 0 ∷ l) (ap (λ (t : List ℕ). padded m [] ++ padded n t) (sym (drop_none m)) ∙ padded_add m n []))
  where
    drop_none : (k : ℕ) → ◌≡◌ {A = List ℕ} (drop k []) []
    drop_none zero = refl
    drop_none (suc k) = refl
padded_add (suc m) n (b ∷ s) =
    let e : suc m + n ≡ suc (m + n) = omega arith in
    rw e (ap (λ (l : List ℕ). b ∷ l) (padded_add m n s))

-- fewer of them, filled up
pub padded_of_take : (m k : ℕ) (s : List ℕ) → padded (m + k) (take m s) ≡ take m (padded (m + k) s) ++ replicate k 0
padded_of_take zero k s = let e : 0 + k ≡ k = omega arith in padded_nil (0 + k) ∙ ap (λ (j : ℕ). replicate j 0) e
padded_of_take (suc m) k [] =
    let e : suc m + k ≡ suc (m + k) = omega arith in
    rw e (ap (λ (l : List ℕ). 0 ∷ l) (ap (padded (m + k)) (sym (take_none m)) ∙ padded_of_take m k []))
  where
    take_none : (j : ℕ) → ◌≡◌ {A = List ℕ} (take j []) []
    take_none zero = refl
    take_none (suc j) = refl
padded_of_take (suc m) k (b ∷ s) =
    let e : suc m + k ≡ suc (m + k) = omega arith in
    rw e (ap (λ (l : List ℕ). b ∷ l) (padded_of_take m k s))

-- ---- a run of elements at a place, as code reads them one by one

-- at + k, as code writes it: `at` and not `at + 0`
abbrev pub off : ℕ → ℕ → ℕ
off at zero = at
off at (suc k) = at + suc k

pub off_add : (at k : ℕ) → off at k ≡ at + k
off_add at zero = sym (add-zero at)
off_add at (suc k) = refl

abbrev pub cells : List ℕ → ℕ → ℕ → ℕ → List ℕ
cells s at k zero = []
cells s at k (suc n) = get_or s (off at k) 0 ∷ cells s at (suc k) n

padded_step : (n j : ℕ) (s : List ℕ) → padded (suc n) (drop j s) ≡ get_or s j 0 ∷ padded n (drop (suc j) s)
padded_step n zero [] = refl
padded_step n (suc j) [] = refl
padded_step n zero (b ∷ s) = refl
padded_step n (suc j) (b ∷ s) = padded_step n j s

padded_from : (s : List ℕ) (at k n : ℕ) → padded n (drop (at + k) s) ≡ cells s at k n
padded_from s at k zero = refl
padded_from s at k (suc n) =
    padded_step n (at + k) s
    ∙ ap₂ (λ (j i : ℕ). get_or s j 0 ∷ padded n (drop i s)) (sym (off_add at k)) (sym (add-suc at k))
    ∙ ap (λ (l : List ℕ). get_or s (off at k) 0 ∷ l) (padded_from s at (suc k) n)

pub padded_cells : (s : List ℕ) (at n : ℕ) → padded n (drop at s) ≡ cells s at 0 n
padded_cells s at n = ap (λ (j : ℕ). padded n (drop j s)) (sym (add-zero at)) ∙ padded_from s at 0 n

-- the number of two and of four bytes at a place, from what code read there
pub two_at : (s : List ℕ) (at : ℕ) {r a b : ℕ} → r ≡ be (a ∷ b ∷ []) → a ≡ get_or s at 0 → b ≡ get_or s (at + 1) 0 → r ≡ be_at s at 2
unfolding be_at
two_at s at e f g = e ∙ ap₂ (λ (a b : ℕ). be (a ∷ b ∷ [])) f g ∙ sym (ap be (padded_cells s at 2))

pub four_at : (s : List ℕ) (at : ℕ) {r a b c d : ℕ} → r ≡ be (a ∷ b ∷ c ∷ d ∷ []) → a ≡ get_or s at 0 → b ≡ get_or s (at + 1) 0 → c ≡ get_or s (at + 2) 0 → d ≡ get_or s (at + 3) 0
    → r ≡ be_at s at 4
unfolding be_at
four_at s at {c = c} {d = d} e f g h k =
    e
    ∙ ap₂ (λ (a b : ℕ). be (a ∷ b ∷ c ∷ d ∷ [])) f g
    ∙ ap₂ (λ (c d : ℕ). be (get_or s at 0 ∷ get_or s (at + 1) 0 ∷ c ∷ d ∷ [])) h k
    ∙ sym (ap be (padded_cells s at 4))

-- the number of the bytes between two places, from the part that holds them
pub be_between : (s : List ℕ) (at end n : ℕ) → at + n ≡ end → be_at (take (end - at) (drop at s)) 0 n ≡ be_at s at n
unfolding be_at
be_between s at end n e =
    let m : n ≤ end - at = omega arith in
    ap be (padded_of_more n (end - at) (drop at s) m)

-- ---- a number with its last bytes cleared

pub be_append : (s t : List ℕ) → be (s ++ t) ≡ be s * 256 ^ length t + be t
be_append [] t = rw (zero-mul (256 ^ length t)) (omega arith)
be_append (b ∷ s) t =
    rw (length-append s t, pow-add 256 (length s) (length t), be_append s t, add-mul (b * 256 ^ length s) (be s) (256 ^ length t), mul_assoc b (256 ^ length s) (256 ^ length t))
    (sym (add_assoc (b * (256 ^ length s * 256 ^ length t)) (be s * 256 ^ length t) (be t)))

-- two numbers one after the other are one
pub to_be_append : (m n a b : ℕ) → a < 256 ^ m → b < 256 ^ n → to_be m a ++ to_be n b ≡ to_be (m + n) (a * 256 ^ n + b)
to_be_append m n a b h k =
    let s : List ℕ = to_be m a ++ to_be n b in
    let size : length s ≡ m + n = length-append (to_be m a) (to_be n b) ∙ ap₂ ◌+◌ (length_to_be m a) (length_to_be n b) in
    let number : be s ≡ a * 256 ^ n + b =
    be_append (to_be m a) (to_be n b)
    ∙ ap₂ (λ (x j : ℕ). x * 256 ^ j + be (to_be n b)) (be_to_be m a h) (length_to_be n b)
    ∙ ap (λ (x : ℕ). a * 256 ^ n + x) (be_to_be n b k) in
    sym (to_be_be s (bytes_append (to_be m a) (to_be n b) (bytes_to_be m a h) (bytes_to_be n b k))) ∙ ap₂ to_be size number

pub be_zeros : (k : ℕ) → be (replicate k 0) ≡ 0
be_zeros zero = refl
be_zeros (suc k) = let z : List ℕ = replicate k 0 in rw (zero-mul (256 ^ length z), be_zeros k)

pub be_cut : (m k : ℕ) (s : List ℕ) → Bytes s → length s ≡ m + k → be s / 256 ^ k * 256 ^ k ≡ be (take m s ++ replicate k 0)
be_cut m k s b e =
    let len : length (drop m s) ≡ k = omega (arith, length-drop m s) in
    let lt : be (drop m s) < 256 ^ k = rw len at (be_lt (drop m s) (bytes_drop m s b)) in
    let whole : be s ≡ be (take m s) * 256 ^ k + be (drop m s) =
    ap be (sym (take-append-drop m s)) ∙ be_append (take m s) (drop m s) ∙ ap (λ (j : ℕ). be (take m s) * 256 ^ j + be (drop m s)) len in
    let front : be s / 256 ^ k ≡ be (take m s) = ap (λ (x : ℕ). x / 256 ^ k) whole ∙ digits_div (be (take m s)) lt in
    ap (λ (x : ℕ). x * 256 ^ k) front
    ∙ sym (be_append (take m s) (replicate k 0)
    ∙ ap₂ (λ (j x : ℕ). be (take m s) * 256 ^ j + x) (length-replicate k 0) (be_zeros k)
    ∙ add-zero (be (take m s) * 256 ^ k))

-- ---- the last bits of a number

be_one : (s : List ℕ) → length s ≡ 1 → be s ≡ get_or s 0 0
be_one [] e = absurd (omega arith)
be_one (b ∷ []) e = omega arith
be_one (b ∷ c ∷ s) e = absurd (let h : length s + 2 ≡ 1 = omega arith in omega arith)

-- up to eight of them are those of its last byte
pub be_last : (s : List ℕ) (q : ℕ) → 0 < length s → q ≤ 8 → be s % 2 ^ q ≡ get_or s (length s - 1) 0 % 2 ^ q
be_last s q pos few =
    let n : ℕ = length s - 1 in
    let one : length (drop n s) ≡ 1 = omega (arith, length-drop n s) in
    let last : be (drop n s) ≡ get_or s n 0 = be_one (drop n s) one ∙ get_or-drop n s 0 0 ∙ ap (λ (i : ℕ). get_or s i 0) (add-zero n) in
    let byte : 256 ^ 1 ≡ 2 ^ (8 - q) * 2 ^ q = (let e : 8 ≡ 8 - q + q = omega arith in ap (λ (k : ℕ). 2 ^ k) e ∙ pow-add 2 (8 - q) q) in
    let front : ℕ = be (take n s) in
    let whole : be s ≡ front * 2 ^ (8 - q) * 2 ^ q + get_or s n 0 =
    ap be (sym (take-append-drop n s))
    ∙ be_append (take n s) (drop n s)
    ∙ ap₂ (λ (k x : ℕ). front * 256 ^ k + x) one last
    ∙ ap (λ (x : ℕ). front * x + get_or s n 0) byte
    ∙ ap (λ (x : ℕ). x + get_or s n 0) (sym (mul_assoc front (2 ^ (8 - q)) (2 ^ q))) in
    ap (λ (x : ℕ). x % 2 ^ q) whole ∙ mul-add-mod_self_right (front * 2 ^ (8 - q)) (2 ^ q) (get_or s n 0)
