use Rattle.std.proofs.Common.{◌≡◌, ◌-◌, take, drop, arith, length-drop, take_all}
use Rattle.slot_table.specs.Private.{number_room}
use Rattle.slot_table.proofs.Text.number.Goals as goal

pub returns : goal.returns
returns c =
    let from = c.spell-from.result in
    let text = c.spell-from.new.text in
    let all : take (number_room - from) (drop from text) ≡ drop from text = take_all (number_room - from) (drop from text) (omega (arith, length-drop from text)) in
    rw (← c.spell-from.ensures.0, ← all) c.put.ensures
