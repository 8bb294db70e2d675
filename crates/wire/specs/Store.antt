-- Values one after another from a place of a lent list.
use Rattle.std.specs.Prelude.{ℕ, ◌+◌, ◌≤◌, ◌≡◌, List, ◌++◌, length, take, drop, leb}
use Rattle.wire.specs.Choice.{pick}

-- vs from place at on; the rest is d
abbrev pub laid : List ℕ → ℕ → List ℕ → List ℕ
laid d at vs = take at d ++ (vs ++ drop (at + length vs) d)

-- vs from place at on where they fit, and else d unchanged
unfoldable pub placed : List ℕ → ℕ → List ℕ → List ℕ
placed d at vs = pick (leb (at + length vs) (length d)) (laid d at vs) d

-- values that were put, and perhaps more up to place `total`
pub record PutAhead (total : ℕ) (d : List ℕ) (to : ℕ) (vs d' : List ℕ) : Type 0 where
  pub more : List ℕ
  pub fits : to + length (vs ++ more) ≤ total
  pub is : d' ≡ laid d to (vs ++ more)
