-- What private functions ask of each other and promise: room for a piece, and text that grows piece by piece.
use Rattle.std.specs.Prelude.{◌≡◌, ℕ, ◌+◌, ◌≤◌, List, length}
use Rattle.wire.specs.Store.{laid}
use Rattle.slot_table.specs.declared.Text.{Text}

-- the most bytes of a number and the byte after it, and of the other pieces
abbrev pub number_room : ℕ
number_room = 21

abbrev pub state_room : ℕ
state_room = 9

abbrev pub fields_room : ℕ
fields_room = 72

abbrev pub section_room : ℕ
section_room = 42

abbrev pub entry_room : ℕ
entry_room = 177

-- so many places are left
abbrev pub Room : Text → ℕ → Type 0
Room text n = text.at + n ≤ length text.out.now

-- the text with a piece more is `after`, in the same output
pub record Grown (before : Text) (piece : List ℕ) (after : Text) : Type 0 where
  pub grown : after.out.now ≡ laid before.out.now before.at piece
  pub at : after.at ≡ before.at + length piece
  pub room : after.at ≤ length before.out.now
  pub same : after.out.ghost_name ≡ before.out.ghost_name
