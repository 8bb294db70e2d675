-- What private functions ask of each other and answer each other; no promise rests on it.
use Rattle.std.specs.Prelude.{ℕ, ◌+◌, ◌-◌, ◌*◌, ◌^◌, ◌%◌, ◌≤◌, List, [], ◌∷◌, Bool, not, length, eqb, Result, Ok, Err}
use Rattle.wire.specs.declared.refusal.Refusal.{Refusal}
use Rattle.families.specs.Family.{id_size, octets}
use Rattle.families.specs.declared.Form.{Form}
use Rattle.routes.specs.declared.Prefix.{Prefix}

-- that the first `used` bytes of s hold an item's id and length byte
pub record Bounded (form : Form) (used : ℕ) (s : List ℕ) : Type 0 where
  pub front : id_size form + 1 ≤ used
  pub within : used ≤ length s

-- how many bytes an item takes
abbrev pub size_of : Result Prefix Refusal → Result ℕ Refusal
size_of (Ok p) = Ok p.used
size_of (Err r) = Err r

-- whether a bit past the length is set in the last byte of an item
abbrev pub past_length : ℕ → ℕ → Bool
past_length l last = not (eqb (last % 2 ^ (8 * octets l - l)) 0)

-- the bits of a last octet that are past a length, by the length modulo 8
abbrev pub past_masks : List ℕ
past_masks = 0 ∷ 127 ∷ 63 ∷ 31 ∷ 15 ∷ 7 ∷ 3 ∷ 1 ∷ []
