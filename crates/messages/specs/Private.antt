-- What private functions ask of each other; no promise rests on it.
use Rattle.std.specs.Prelude.{ℕ, ◌≤◌, Result, Ok, Err}
use Rattle.wire.specs.declared.refusal.Refusal.{Refusal}
use Rattle.messages.specs.Header.{header_size}
use Rattle.messages.specs.declared.Message.{Message}

-- what is taken is there, header and all
abbrev pub Fits : Result Message Refusal → ℕ → Type 0
Fits (Ok m) n = (header_size ≤ m.taken) × (m.taken ≤ n)
Fits (Err r) n = Unit
