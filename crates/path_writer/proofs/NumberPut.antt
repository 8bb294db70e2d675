-- The loops that look at the numbers of a segment and put them: what holds at the head of a turn, and what one number more gives.
-- Assumes nothing.
use Prim.Native.Nat.{ℕ, zero, suc, ◌+◌, ◌-◌, ◌^◌, ◌≤◌, ◌<◌}
use mathlib.Core.Path.{◌≡◌, refl, sym, ap, subst, ◌∙◌}
use mathlib.Core.List.{List, ◌∷◌, ◌++◌}
use mathlib.Core.Bool.{true}
use native.Mathlib.Numerals.{sub-one}
use native.Mathlib.Omega.{arith}
use borrow.Rule.Slice.PartMut.{put_mid}
use lib.ListN.{length, drop, take, get_or, length-append}
use Rattle.wire.proofs.NumberLaws.{length_to_be}
use Rattle.wire.specs.Number.{to_be}
use Rattle.wire.specs.Store.{laid, placed}
use Rattle.wire.proofs.StoreLaws.{laid_between, Laying, laying_start, laying_long, laying_room, laying_step, laying_done}
use Rattle.wire.specs.Walk.{flat}
use Rattle.path_writer.specs.Write.{all_fit}
use Rattle.path_writer.proofs.WriteLaws.{take_next, fit_here, fit_cons}

-- ---- numbers that fit

-- four bytes hold every number of 32 bits
pub all_four : (ns : List ℕ) → ((i : ℕ) → get_or ns i 0 < 2 ^ 32) → (n at : ℕ) → at + n ≤ length ns → all_fit 4 (take n (drop at ns)) ≡ true
unfolding all_fit
all_four ns h zero at inside = refl
all_four ns h (suc n) at inside =
    let less : suc n - 1 ≡ n = sub-one (suc n) in
    ap (all_fit 4) (take_next ns at (suc n) (omega arith) (omega arith) ∙ ap (λ (k : ℕ). get_or ns at 0 ∷ take k (drop (at + 1) ns)) less)
    ∙ fit_cons 4 (get_or ns at 0) (take n (drop (at + 1) ns)) (h at) (all_four ns h n (at + 1) (omega arith))

-- ---- numbers put

-- a number put into the part between two places, once the part is back
pub part_put : (d : List ℕ) (to end w v : ℕ) (part : List ℕ) → part ≡ placed (take (end - to) (drop to d)) 0 (to_be w v) → to + w ≡ end → end ≤ length d
    → put_mid to (end - to) d part ≡ laid d to (to_be w v)
part_put d to end w v part e f h =
    ap (put_mid to (end - to) d) e ∙ laid_between d to end (to_be w v) (ap (λ (k : ℕ). to + k) (length_to_be w v) ∙ f) h

-- n numbers that fit w bytes go from `from` to `start`; `left` of them are still to come, from `at`, to `to`
pub record Putting (ns : List ℕ) (from w n : ℕ) (d₀ : List ℕ) (start at to left : ℕ) (d : List ℕ) : Type 0 where
  pub inside : at + left ≤ length ns
  pub fit : all_fit w (take left (drop at ns)) ≡ true
  pub laying : Laying d₀ start (flat (to_be w) (take n (drop from ns))) d to (flat (to_be w) (take left (drop at ns)))

module _ (ns : List ℕ) (from w n : ℕ) (d₀ : List ℕ) (start : ℕ) (fits : start + length (flat (to_be w) (take n (drop from ns))) ≤ length d₀) where
  all : List ℕ
  all = flat (to_be w) (take n (drop from ns))

  pub putting_start : from + n ≤ length ns → all_fit w (take n (drop from ns)) ≡ true → Putting ns from w n d₀ start from start n d₀
  unfolding all
  putting_start h e = record { inside = h; fit = e; laying = laying_start d₀ start all fits }

  module _ (at to left : ℕ) (d : List ℕ) (h : Putting ns from w n d₀ start at to left d) where
    rest : List ℕ
    rest = flat (to_be w) (take left (drop at ns))

    pub putting_long : length d ≡ length d₀
    unfolding all rest
    putting_long = laying_long d₀ start all fits d to rest h.laying

    pub putting_done : left ≡ 0 → d ≡ laid d₀ start (flat (to_be w) (take n (drop from ns)))
    unfolding all rest flat
    putting_done e = laying_done d₀ start all fits d to rest h.laying (ap (λ (k : ℕ). flat (to_be w) (take k (drop at ns))) e)

    module _ (pos : 0 < left) where
      after : List ℕ
      after = flat (to_be w) (take (left - 1) (drop (at + 1) ns))

      next : flat (to_be w) (take left (drop at ns)) ≡ to_be w (get_or ns at 0) ++ after
      unfolding after flat
      next = ap (flat (to_be w)) (take_next ns at left pos (omega (arith, h.inside)))

      -- the next number is there, fits, and has room
      pub putting_room : to + w ≤ length d
      unfolding all rest after
      putting_room =
          omega (
            arith,
            laying_room d₀ start all fits d to rest h.laying,
            ap length next,
            length-append (to_be w (get_or ns at 0)) after,
            length_to_be w (get_or ns at 0),
          )

      both : (get_or ns at 0 < 256 ^ w) × (all_fit w (take (left - 1) (drop (at + 1) ns)) ≡ true)
      both = fit_here w (get_or ns at 0) (take (left - 1) (drop (at + 1) ns)) (sym (ap (all_fit w) (take_next ns at left pos (omega (arith, h.inside)))) ∙ h.fit)

      pub putting_fits : get_or ns at 0 < 256 ^ w
      putting_fits = both.0

      pub putting_next : Putting ns from w n d₀ start (at + 1) (to + w) (left - 1) (laid d to (to_be w (get_or ns at 0)))
      unfolding all rest after
      putting_next = record {
        inside = omega (arith, h.inside);
        fit = both.1;
        laying =
            subst (λ (k : ℕ). Laying d₀ start all (laid d to (to_be w (get_or ns at 0))) (to + k) after) (length_to_be w (get_or ns at 0))
            (laying_step d₀ start all fits d to rest h.laying (to_be w (get_or ns at 0)) after next);
      }
