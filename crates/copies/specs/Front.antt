-- Bytes moved to the front of the list that they stand in.
use Rattle.std.specs.Prelude.{ℕ, ◌-◌, List, length, take, drop, leb}
use Rattle.wire.specs.Choice.{pick}
use Rattle.wire.specs.Store.{laid}

-- those from `at` up to `end`, where they are all there; what stands past them is as it was
unfoldable pub to_front : List ℕ → ℕ → ℕ → List ℕ
to_front d at end = pick (leb end (length d)) (pick (leb at end) (laid d 0 (take (end - at) (drop at d))) d) d
