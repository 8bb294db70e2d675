-- Two bytes and four as a number, by std's words for them.
-- Assumes nothing.
use Prim.Native.Nat.{ℕ, zero, suc, ◌+◌}
use mathlib.Core.Path.{◌≡◌, refl, ap, ◌∙◌}
use mathlib.Core.List.{List, [], ◌∷◌}
use native.Mathlib.Omega.{arith}
use lib.ListN.{get_or}
use Rattle.std.specs.Int.{w16, w32, from_be_bytes, from_le_bytes, swap_bytes}
use Rattle.std.proofs.lemmas.Nat.{le_bytes_4}
use Rattle.wire.specs.Number.{be_at, Bytes}
use Rattle.wire.proofs.NumberLaws.{two_at, four_at}

module _ (s : List ℕ) (at r : ℕ) where
  pub two_high_first : r ≡ from_be_bytes w16 (get_or s at 0 ∷ get_or s (at + 1) 0 ∷ []) → r ≡ be_at s at 2
  two_high_first e = two_at s at (e ∙ omega arith) refl refl

  -- the lowest first, and turned
  pub four_turned : Bytes s → (q : ℕ) → q ≡ from_le_bytes w32 (get_or s at 0 ∷ get_or s (at + 1) 0 ∷ get_or s (at + 2) 0 ∷ get_or s (at + 3) 0 ∷ []) → r ≡ swap_bytes w32 q → r ≡ be_at s at 4
  four_turned bytes q low e =
      let four : List ℕ = get_or s at 0 ∷ get_or s (at + 1) 0 ∷ get_or s (at + 2) 0 ∷ get_or s (at + 3) 0 ∷ [] in
      four_at s at (e ∙ ap (from_be_bytes w32) (le_bytes_4 four q refl each low) ∙ omega arith) refl refl refl refl
    where
      each : Bytes (get_or s at 0 ∷ get_or s (at + 1) 0 ∷ get_or s (at + 2) 0 ∷ get_or s (at + 3) 0 ∷ [])
      each zero = bytes at
      each (suc zero) = bytes (at + 1)
      each (suc (suc zero)) = bytes (at + 2)
      each (suc (suc (suc zero))) = bytes (at + 3)
      each (suc (suc (suc (suc i)))) = omega arith
