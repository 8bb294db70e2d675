-- What only private functions' contracts name: what stands at the front of bytes, and a value that lies in its section.
use Rattle.std.specs.Prelude.{ℕ, ◌+◌, ◌≤◌, leb, Option, Some, None}
use Rattle.wire.specs.Choice.{pick}
use Rattle.wire.specs.Walk.{Step, took, stop}
use Rattle.attributes.specs.Attribute.{Head, NoState}
use Rattle.attributes.specs.Promises.{Found, value_at, standing}
use Rattle.attributes.specs.declared.Attribute.{Attribute}

-- an attribute by its head, where so many bytes are left from the start of its value on
unfoldable pub whole_if : ℕ → ℕ → ℕ → ℕ → ℕ → Option Attribute
whole_if flags kind start size left = pick (leb size left) (Some (record { flags = flags; kind = kind; start = start; length = size; next = start + size })) None

-- what a step found in bytes that stand at a place
abbrev pub front_of : ℕ → Step NoState Head → Option Attribute
front_of place (took used a st) = Some (standing place a)
front_of place (stop r) = None

-- the value lies within so many bytes
abbrev pub Inside : Found → ℕ → Type 0
Inside found n = (value_at found).start + (value_at found).size ≤ n
