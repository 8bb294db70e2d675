use Rattle.slot_table.specs.Line.{stop_text}
use Rattle.slot_table.proofs.Growth.{grow}
use Rattle.slot_table.proofs.Text.stop.Goals as goal

pub returns : goal.returns
unfolding stop_text
returns c = grow c.put.ensures c.number.ensures
