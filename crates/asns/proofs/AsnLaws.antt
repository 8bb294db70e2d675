-- Laws of AS numbers as bytes, over the width.
-- Assumes nothing.
use Prim.Native.Nat.{ℕ, zero, suc, ◌+◌, ◌-◌, ◌*◌, ◌^◌, ◌≤◌, ◌<◌}
use mathlib.Core.Path.{◌≡◌, sym, ap, ◌∙◌}
use mathlib.Core.List.{List, ◌++◌}
use mathlib.Core.Bool.{true}
use native.Mathlib.Nat.{not-suc-le-zero, zero-mul, suc-mul}
use native.Mathlib.Numerals.{sub-one}
use native.Mathlib.Omega.{arith}
use borrow.Author.Tests.{le-leb, leb-true}
use lib.Dec.{leb}
use lib.ListN.{length, length-append}
use lib.Seq.{take_at, drop_at}
use Rattle.wire.proofs.ChoiceLaws.{and_true}
use Rattle.wire.specs.Number.{be, to_be, padded, be_at}
use Rattle.wire.proofs.NumberLaws.{length_to_be, be_to_be, padded_take}
use Rattle.wire.specs.Store.{laid}
use Rattle.wire.proofs.StoreLaws.{placed_fits}
use Rattle.asns.specs.Asn.{width_of, span, eight_for, fits_width, with_number}
use Rattle.asns.specs.declared.AsnLength.{AsnLength}
use Rattle.asns.specs.declared.AsnLength.TheVariants.{Bits16, Bits32}

-- ---- the bytes of numbers

pub span_is : (w n : ℕ) → span w n ≡ n * w
unfolding span
span_is w zero = sym (zero-mul w)
span_is w (suc n) = omega (arith, span_is w n, suc-mul n w)

pub span_less : (w n : ℕ) → 0 < n → span w n ≡ w + span w (n - 1)
unfolding span
span_less w zero h = absurd (not-suc-le-zero h)
span_less w (suc n) h = rw (sub-one (suc n))

pub span_add : (w m n : ℕ) → span w (m + n) ≡ span w m + span w n
unfolding span
span_add w zero n = let e : 0 + n ≡ n = omega arith in rw e (omega arith)
span_add w (suc m) n = let e : suc m + n ≡ suc (m + n) = omega arith in rw e (omega (arith, span_add w m n))

pub span_many : (w n : ℕ) → 0 < w → n ≤ span w n
unfolding span
span_many w zero h = omega arith
span_many w (suc n) h = omega (arith, span_many w n h)

pub span_most : (width : AsnLength) (n : ℕ) → span (width_of width) n ≤ 4 * n
span_most Bits16 n = omega (arith, span_is 2 n)
span_most Bits32 n = omega (arith, span_is 4 n)

pub width_pos : (width : AsnLength) → 0 < width_of width
width_pos Bits16 = omega arith
width_pos Bits32 = omega arith

pub width_most : (width : AsnLength) → width_of width ≤ 4
width_most Bits16 = omega arith
width_most Bits32 = omega arith

-- every number of 32 bits fits four bytes
pub fits_four : (asn : ℕ) → asn < 2 ^ 32 → fits_width asn Bits32 ≡ true
fits_four asn h = le-leb _ _ h

-- ---- a number read again

-- the number whose bytes stand after s, whatever follows them
pub number_back : (s : List ℕ) (at w v : ℕ) (t : List ℕ) → length s ≡ at → v < 256 ^ w → be_at (s ++ (to_be w v ++ t)) at w ≡ v
unfolding be_at
number_back s at w v t e h =
    let n : length (to_be w v) ≡ w = length_to_be w v in
    ap (λ (l : List ℕ). be (padded w l)) (drop_at s (to_be w v ++ t) at e)
    ∙ ap be (padded_take w (to_be w v ++ t) (omega (arith, n, length-append (to_be w v) t)) ∙ take_at (to_be w v) t w n)
    ∙ be_to_be w v h

-- ---- a number put

pub put_room : (out : List ℕ) (to asn : ℕ) (width : AsnLength) → fits_width asn width ≡ true → to + width_of width ≤ length out
    → with_number out to asn width ≡ laid out to (to_be (width_of width) asn)
unfolding with_number
put_room out to asn width e h = rw e (placed_fits out to (to_be (width_of width) asn) (omega (arith, length_to_be (width_of width) asn)))

-- ---- eight numbers at once

pub eight_says : (w n numbers bytes : ℕ) → eight_for w n numbers bytes ≡ true → (n ≤ 8) × (8 ≤ numbers) × (span w 8 ≤ bytes)
unfolding eight_for
eight_says w n numbers bytes e =
    let f = and_true (leb n 8) _ e in
    let g = and_true (leb 8 numbers) _ f.1 in
    (leb-true n 8 f.0, leb-true 8 numbers g.0, leb-true (span w 8) bytes g.1)
