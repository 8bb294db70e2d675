-- Bytes as items laid end to end, over any idea of a well-formed item, and apart from any reader and any writer.
use Rattle.std.specs.Prelude.{ℕ, ◌≡◌, List, [], ◌∷◌, ◌++◌}

-- of each value of a list
pub data Each {A : Type 0} (P : A → Type 0) : List A → Type 0 where
  none : Each P []
  one : {a : A} {rest : List A} → P a → Each P rest → Each P (a ∷ rest)

-- of some value of a list
pub data Some {A : Type 0} (P : A → Type 0) : List A → Type 0 where
  here : {a : A} {rest : List A} → P a → Some P (a ∷ rest)
  later : {a : A} {rest : List A} → Some P rest → Some P (a ∷ rest)

-- items laid end to end
unfoldable pub joined : List (List ℕ) → List ℕ
joined [] = []
joined (item ∷ items) = item ++ joined items

-- a cutting of s: well-formed items that, laid end to end, are s
pub record Cutting (Formed : List ℕ → Type 0) (s : List ℕ) (items : List (List ℕ)) : Type 0 where
  pub each : Each Formed items
  pub whole : joined items ≡ s
