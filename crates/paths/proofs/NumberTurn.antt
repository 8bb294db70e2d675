-- The loop that reads the numbers of a segment, over the width: what one number more gives, and what the numbers read are to the whole store.
-- Assumes nothing.
use Prim.Native.Nat.{ℕ, ◌+◌, ◌-◌, ◌*◌, ◌≤◌, ◌<◌}
use mathlib.Core.Path.{◌≡◌, sym, ap, ap₂, ◌∙◌}
use mathlib.Core.List.{List, [], ◌∷◌, ◌++◌, append_assoc, append-nil}
use native.Mathlib.Nat.{le_refl, zero-add}
use native.Mathlib.Omega.{arith}
use borrow.Rule.Slice.PartMut.{put_mid}
use lib.ListN.{length, take, drop, set, length-drop, drop_of_length-le, take-append-drop}
use lib.Seq.{take_at, drop-drop}
use Rattle.std.proofs.lemmas.Nat.{row_fits}
use Rattle.wire.specs.Number.{be_at}
use Rattle.wire.specs.Store.{laid, PutAhead}
use Rattle.wire.proofs.StoreLaws.{laid_laid, laid_over, laid_nil, length_laid, puts_laid}
use Rattle.wire.proofs.Turn.{rest}
use Rattle.asns.specs.Asn.{span}
use Rattle.asns.proofs.AsnLaws.{span_is, span_add}
use Rattle.paths.specs.Segment.{numbers_of}
use Rattle.paths.proofs.SegmentLaws.{length_numbers, numbers_add, numbers_four}

-- the bytes of number i are there
pub place_fits : (w n m i : ℕ) → span w n ≤ m → i < n → i * w + w ≤ m
place_fits w n m i h lt = omega (arith, span_is w n, row_fits i w n w lt (le_refl w))

module _ (w : ℕ) (s d : List ℕ) where
  pub numbers_none : d ≡ laid d 0 (numbers_of w 0 s)
  unfolding numbers_of
  numbers_none = sym (laid_nil d 0)

  -- one number more
  pub numbers_more : (i v : ℕ) → i < length d → v ≡ be_at s (i * w) w → set (laid d 0 (numbers_of w i s)) i v ≡ laid d 0 (numbers_of w (i + 1) s)
  unfolding numbers_of be_at
  numbers_more i v lt e =
      let size = length_numbers w i s in
      let start : 0 + length (numbers_of w i s) ≡ i = omega (arith, size) in
      let next : numbers_of w (i + 1) s ≡ numbers_of w i s ++ v ∷ [] =
      numbers_add w i 1 s ∙ ap (λ (k : ℕ). numbers_of w i s ++ be_at s k w ∷ []) (span_is w i) ∙ ap (λ (x : ℕ). numbers_of w i s ++ x ∷ []) (sym e) in
      ap (λ (k : ℕ). set (laid d 0 (numbers_of w i s)) k v) (sym start)
      ∙ puts_laid (laid d 0 (numbers_of w i s)) (0 + length (numbers_of w i s)) (v ∷ []) (omega (arith, size, length_laid d 0 (numbers_of w i s) (omega (arith, size))))
      ∙ laid_laid d 0 (numbers_of w i s) (v ∷ []) (omega (arith, size))
      ∙ ap (laid d 0) (sym next)

  -- as many as the store has places
  pub numbers_all : (i : ℕ) → i ≡ length d → laid d 0 (numbers_of w i s) ≡ numbers_of w (length d) s
  numbers_all i e =
      ap (λ (l : List ℕ). numbers_of w i s ++ l) (drop_of_length-le d (omega (arith, length_numbers w i s)))
      ∙ append-nil (numbers_of w i s)
      ∙ ap (λ (k : ℕ). numbers_of w k s) e

-- four numbers one by one, to a store of four places
pub four_put : (w : ℕ) (s d : List ℕ) (a b c e : ℕ) → length d ≡ 4 → a ≡ be_at s 0 w → b ≡ be_at s w w → c ≡ be_at s (2 * w) w → e ≡ be_at s (3 * w) w
    → set (set (set (set d 0 a) 1 b) 2 c) 3 e ≡ numbers_of w 4 s
four_put w s (x ∷ y ∷ z ∷ u ∷ []) a b c e long ha hb hc he = cc (numbers_four w s)
four_put w s [] a b c e long ha hb hc he = absurd (omega arith)
four_put w s (x ∷ []) a b c e long ha hb hc he = absurd (omega arith)
four_put w s (x ∷ y ∷ []) a b c e long ha hb hc he = absurd (omega arith)
four_put w s (x ∷ y ∷ z ∷ []) a b c e long ha hb hc he = absurd (omega arith)
four_put w s (x ∷ y ∷ z ∷ u ∷ v ∷ d) a b c e long ha hb hc he = absurd (omega arith)

-- the bytes of k numbers from number `last` on are there
pub block_there : (w n k last x : ℕ) (s : List ℕ) → x ≡ last * w → last + k ≤ n → span w n ≤ length s → (x ≤ length s) × (span w k ≤ length (take (length s - x) (drop x s)))
block_there w n k last x s e le h =
    let sum : span w n ≡ span w last + span w k + span w (n - (last + k)) = ap (span w) (omega arith) ∙ span_add w (last + k) (n - (last + k)) ∙ ap (λ (j : ℕ). j + span w (n - (last + k))) (span_add w last k) in
    let far : x + span w k ≤ length s = omega (arith, sum, span_is w last) in
    (omega arith, rw rest (omega (arith, length-drop x s)))

-- k numbers from the place of number `last` on, where those up to `done` stand already from `start` on, of which some may be the same
pub blocks_put : (w : ℕ) (s d₀ d : List ℕ) (start last done k : ℕ) → last ≤ done → done ≤ last + k → start + (last + k) ≤ length d₀ → d ≡ laid d₀ start (numbers_of w done s)
    → laid d (start + last) (numbers_of w k (drop (span w last) s)) ≡ laid d₀ start (numbers_of w (last + k) s)
blocks_put w s d₀ d start last done k le few fits e =
    let front : List ℕ = numbers_of w last s in
    let block : List ℕ = numbers_of w k (drop (span w last) s) in
    let over : List ℕ = numbers_of w (done - last) (drop (span w last) s) in
    let sum : done ≡ last + (done - last) = omega arith in
    let f = length_numbers w last s in
    let b = length_numbers w k (drop (span w last) s) in
    let o = length_numbers w (done - last) (drop (span w last) s) in
    let parts : numbers_of w done s ≡ front ++ over = ap (λ (j : ℕ). numbers_of w j s) sum ∙ numbers_add w last (done - last) s in
    let place : start + length front ≡ start + last = ap (λ (j : ℕ). start + j) f in
    let long = length_laid d₀ start front (omega (arith, f, fits)) in
    ap (λ (l : List ℕ). laid l (start + last) block) (e ∙ ap (laid d₀ start) parts ∙ sym (laid_laid d₀ start front over (omega (arith, f, o, fits, few))) ∙ ap (λ (j : ℕ). laid (laid d₀ start front) j over) place)
    ∙ laid_over (laid d₀ start front) (start + last) over block (omega (arith, o, b, few)) (omega (arith, long, b, fits))
    ∙ ap (λ (j : ℕ). laid (laid d₀ start front) j block) (sym place)
    ∙ laid_laid d₀ start front block (omega (arith, f, b, fits))
    ∙ ap (laid d₀ start) (sym (numbers_add w last k s))

-- the same in a part that is lent for the numbers, of what is read from the bytes there
module _ (w : ℕ) (s d₀ d : List ℕ) (last k done : ℕ) (le : last ≤ done) (few : done ≤ last + k) (fits : last + k ≤ length d₀) (e : d ≡ laid d₀ 0 (numbers_of w done s)) where
  block : List ℕ
  block = numbers_of w k (drop (span w last) s)

  block_laid : laid d last block ≡ laid d₀ 0 (numbers_of w (last + k) s)
  unfolding block
  block_laid = ap (λ (j : ℕ). laid d j block) (sym (zero-add last)) ∙ blocks_put w s d₀ d 0 last done k le few (omega (arith, fits)) e

  pub block_put : (x m : ℕ) (part : List ℕ) → x ≡ last * w → m ≡ k → part ≡ numbers_of w k (take (length s - x) (drop x s)) → put_mid last m d part ≡ laid d₀ 0 (numbers_of w (last + k) s)
  unfolding block
  block_put x m part ex em ep =
      let is : part ≡ block = ep ∙ ap (numbers_of w k) (rest s x ∙ ap (λ (j : ℕ). drop j s) (ex ∙ sym (span_is w last))) in
      let long : length part ≡ m = ap length is ∙ length_numbers w k (drop (span w last) s) ∙ sym em in
      ap (λ (r : List ℕ). take last d ++ (part ++ r)) (drop-drop m last d ∙ ap (λ (j : ℕ). drop (last + j) d) (sym long))
      ∙ ap (laid d last) is ∙ block_laid

-- the first of more numbers
pub numbers_first : (w n k : ℕ) (s part past : List ℕ) → n ≤ k → part ≡ numbers_of w k s → take n (part ++ past) ≡ numbers_of w n s
numbers_first w n k s part past le e =
    let parts : part ≡ numbers_of w n s ++ numbers_of w (k - n) (drop (span w n) s) = e ∙ ap (λ (j : ℕ). numbers_of w j s) (omega arith) ∙ numbers_add w n (k - n) s in
    ap (λ (l : List ℕ). take n (l ++ past)) parts ∙ ap (take n) (append_assoc (numbers_of w n s) _ past) ∙ take_at (numbers_of w n s) _ n (length_numbers w n s)

-- numbers at the front of a part of the store, put back before what stands after the part
pub ahead_put : (total : ℕ) (d : List ℕ) (to n : ℕ) (vs part : List ℕ) → to ≤ total → total ≤ length d → n ≤ total - to → length part ≡ total - to → take n part ≡ vs → length vs ≡ n
    → PutAhead total d to vs (put_mid to (total - to) d part)
ahead_put total d to n vs part le room few long e size =
    let whole : part ≡ vs ++ drop n part = sym (take-append-drop n part) ∙ ap (λ (l : List ℕ). l ++ drop n part) e in
    record {
      more = drop n part;
      fits = omega (arith, ap length whole);
      is = ap₂ (λ (l r : List ℕ). take to d ++ (l ++ r)) whole (drop-drop (total - to) to d ∙ ap (λ (k : ℕ). drop k d) (omega (arith, ap length whole)));
    }
