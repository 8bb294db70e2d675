use Rattle.std.proofs.Common.{◌≡◌, suc, ◌^◌, ◌<◌, ◌≤◌, length, drop}
use Rattle.slot_table.specs.Line.{digits, number}
use Rattle.slot_table.specs.Private.{number_room}
use Rattle.slot_table.proofs.spell.Given as goal

abbrev pub invariant-loop-left : goal.invariant-loop-left
invariant-loop-left l = (length l.text ≡ number_room) × (l.at ≤ 19) × (l.left < 10 ^ suc l.at) × (digits (suc l.at) l.left (drop (suc l.at) l.text) ≡ number l.n (drop 20 l.initial.text))

abbrev pub decreases-loop-left : goal.decreases-loop-left
decreases-loop-left l = l.at
