-- What private functions answer; no promise rests on it.
use Rattle.std.specs.Prelude.{ℕ, length, Result, Ok, Err}
use Rattle.wire.specs.Walk.{Step, took, stop}
use Rattle.wire.specs.declared.refusal.Refusal.{Refusal}
use Rattle.families.specs.declared.Form.{Form}
use Rattle.routes.specs.declared.Row.{Row}
use Rattle.route_bytes.specs.Encode.{row_bytes}

-- one row: its bytes, or why it is refused
abbrev pub size_by : Form → Step (Unit {0}) Row → Result ℕ Refusal
size_by form (took used row st) = Ok (length (row_bytes form row))
size_by form (stop r) = Err r
