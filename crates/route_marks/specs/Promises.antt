-- What taking the marks off answers and leaves, from the words of a store.
use Rattle.std.specs.Prelude.{ℕ, ◌/◌, ◌%◌, List, length, eqb, Result, Ok, Err}
use Rattle.wire.specs.Choice.{pick}
use Rattle.wire.specs.declared.refusal.Refusal.{Refusal}
use Rattle.wire.specs.declared.refusal.Refusal.TheVariants.{NotWritable}
use Rattle.route_marks.specs.Marks.{cleared}

-- as many rows as the places hold, and 14 where these are not whole rows
unfoldable pub clear_answer : ℕ → Result ℕ Refusal
clear_answer places = pick (eqb (places % 6) 0) (Ok (places / 6)) (Err NotWritable)

-- the store afterwards: as it was where it is refused
unfoldable pub clear_after : List ℕ → List ℕ
clear_after ws = pick (eqb (length ws % 6) 0) (cleared ws) ws
