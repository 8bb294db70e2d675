-- The bytes of one route, apart from any reader and any writer.
use Rattle.std.specs.Prelude.{ℕ, ◌≤◌, ◌≡◌, List, ◌∷◌, ◌++◌, length, get_or}
use Rattle.wire.specs.Cutting.{Each}
use Rattle.families.specs.Family.{id_size, octets}
use Rattle.families.specs.declared.Form.{Form}

-- RFC 4271 section 4.3: a length octet, and the prefix in as few octets as hold that many bits.
-- RFC 7911 section 3: in the Tagged form four octets of path identifier stand before it.
pub record WellFormed (max : ℕ) (form : Form) (item : List ℕ) : Type 0 where
  pub ident : List ℕ
  pub len : ℕ
  pub prefix : List ℕ
  pub parts : item ≡ ident ++ (len ∷ prefix)
  pub ident_size : length ident ≡ id_size form
  pub in_range : len ≤ max
  pub prefix_size : length prefix ≡ octets len

-- no item starts with a zero byte
abbrev pub NoZeroFirst : List (List ℕ) → Type 0
NoZeroFirst = Each (λ (item : List ℕ). get_or item 0 0 ≡ 0 → ⊥)
