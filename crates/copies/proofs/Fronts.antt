-- Laws of bytes moved to the front.
-- Assumes nothing.
use Prim.Native.Nat.{ℕ, ◌+◌, ◌-◌, ◌≤◌, ◌<◌}
use mathlib.Core.Path.{◌≡◌, refl, sym, ap}
use mathlib.Core.List.{List, ◌++◌}
use native.Mathlib.Omega.{arith}
use borrow.Author.Tests.{le-leb, lt-leb}
use lib.ListN.{length, take, drop, length-drop}
use lib.Seq.{paste, length-take-le, take_at}
use Rattle.copies.specs.Front.{to_front}

module _ (d : List ℕ) (at end : ℕ) where
  pub front_all : at ≤ end → end ≤ length d → paste d 0 (drop at d) (end - at) ≡ to_front d at end
  unfolding to_front
  front_all low high =
      let n : length (take (end - at) (drop at d)) ≡ end - at = length-take-le (end - at) (drop at d) (omega (arith, length-drop at d)) in
      rw (le-leb end (length d) high, le-leb at end low) (ap (λ (k : ℕ). take (end - at) (drop at d) ++ drop (0 + k) d) (sym n))

  pub front_past : length d < end → d ≡ to_front d at end
  unfolding to_front
  front_past h = rw (lt-leb end (length d) h) refl

  pub front_none : end ≤ length d → end < at → d ≡ to_front d at end
  unfolding to_front
  front_none high h = rw (le-leb end (length d) high, lt-leb at end h) refl

  -- what was moved stands at the front
  pub front_kept : at ≤ end → end ≤ length d → take (end - at) (to_front d at end) ≡ take (end - at) (drop at d)
  unfolding to_front
  front_kept low high =
      let part : List ℕ = take (end - at) (drop at d) in
      let n : length part ≡ end - at = length-take-le (end - at) (drop at d) (omega (arith, length-drop at d)) in
      rw (le-leb end (length d) high, le-leb at end low) (take_at part (drop (0 + length part) d) (end - at) n)
