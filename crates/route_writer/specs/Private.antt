-- What private functions ask of each other and leave; no promise rests on it.
use Rattle.std.specs.Prelude.{ℕ, ◌+◌, ◌≤◌, ◌≡◌, List, [], ◌∷◌, ◌++◌, length, get_or}
use Rattle.wire.specs.Number.{to_be}
use Rattle.wire.specs.Verdict.{fine}
use Rattle.wire.proofs.StoreLaws.{Like}
use Rattle.wire.proofs.Turn.{Filled}
use Rattle.families.specs.Family.{id_size}
use Rattle.families.specs.declared.Form.{Form}
use Rattle.routes.specs.declared.Row.{Row}
use Rattle.route_bytes.specs.Encode.{length_of, row_bytes, write_step, writing, bytes_of}

-- the row of the six words at a place
abbrev pub row_at : List ℕ → ℕ → Row
row_at rows at = record { first = get_or rows at 0; id = get_or rows (at + 1) 0; w0 = get_or rows (at + 2) 0; w1 = get_or rows (at + 3) 0; w2 = get_or rows (at + 4) 0; w3 = get_or rows (at + 5) 0 }

-- what stands before a row's octets: the id where the form has one, and the length octet
abbrev pub head_bytes : Form → Row → List ℕ
head_bytes form r = to_be (id_size form) r.id ++ (length_of form r ∷ [])

-- rows that can be written, with `total` bytes, which the output has room for
pub record Fillable (rows : List ℕ) (max : ℕ) (form : Form) (out : List ℕ) (total : ℕ) : Type 0 where
  pub good : (writing rows max form).verdict ≡ fine
  pub size : length (bytes_of rows max form) ≡ total
  pub room : total ≤ length out

-- at the head of a loop: the output is like one that has the bytes of the rows before `at` and is as it was from there on, but for what was put
-- past them, below the end of the list
pub record Ahead (max : ℕ) (form : Form) (rows d₀ : List ℕ) (at to : ℕ) (d : List ℕ) : Type 0 where
  pub clean : List ℕ
  pub filled : Filled (write_step max form) (row_bytes form) tt rows d₀ tt at to clean
  pub like : Like (length (bytes_of rows max form)) to d clean
