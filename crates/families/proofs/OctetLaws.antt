-- The rule of a table of octet counts, at each length and over the longest prefix.
-- Assumes nothing.
use Prim.Native.Nat.{ℕ, zero, suc, ◌+◌, ◌≤◌, ◌<◌}
use mathlib.Core.Path.{◌≡◌, refl, ap, ◌∙◌}
use native.Mathlib.Nat.{lt_of_not-le}
use native.Mathlib.Decide.{dec_le}
use native.Mathlib.Omega.{arith}
use borrow.Author.Tests.{le-leb, lt-leb, lt-ltb, le-ltb}
use lib.ListN.{get_or}
use Rattle.families.specs.Family.{octets}
use Rattle.families.specs.Octets.{refused_length, entry_of, listed, table_of, entry}

-- the entry at a place of a list of what f gives
listed_at : (f : ℕ → ℕ) (i n k : ℕ) → k < n → get_or (listed f i n) k 0 ≡ f (i + k)
listed_at f i zero k lt = absurd (omega arith)
listed_at f i (suc n) zero lt = ap f (omega arith)
listed_at f i (suc n) (suc k) lt = listed_at f (suc i) n k (omega arith) ∙ ap f (omega arith)

-- the rule, at every number: a byte has an entry, and no other number is a length
pub entry_is : (max : ℕ) → max < 256 → (l : ℕ) → entry (table_of max) l ≡ entry_of max l
unfolding table_of
entry_is max small l =
    elim (dec_le 256 l) [
      | yes past ↦ rw (le-ltb l 256 past, lt-leb l max (omega arith)) refl
      | no byte ↦ rw (lt-ltb l 256 (lt_of_not-le byte)) (listed_at (entry_of max) 0 256 l (lt_of_not-le byte) ∙ ap (entry_of max) (omega arith))
    ]

-- a length up to the maximum has its octets, and a longer one is refused
pub entry_in : (max : ℕ) → max < 256 → (l : ℕ) → l ≤ max → entry (table_of max) l ≡ octets l
entry_in max small l le = entry_is max small l ∙ rw (le-leb l max le) refl

pub entry_out : (max : ℕ) → max < 256 → (l : ℕ) → max < l → entry (table_of max) l ≡ refused_length
entry_out max small l lt = entry_is max small l ∙ rw (lt-leb l max lt) refl

-- and the octets of a length are never the number of a refusal
pub octets_few : (l : ℕ) → l < 256 → octets l ≡ refused_length → ⊥
octets_few l small e = omega arith
