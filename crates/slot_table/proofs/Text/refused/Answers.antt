use Rattle.slot_table.proofs.Growth.{grow}
use Rattle.slot_table.proofs.Text.refused.Goals as goal

pub returns : goal.returns
returns c = rw (← c.from.ensures, ← c.from-2.ensures) (grow c.put.ensures c.number.ensures)
