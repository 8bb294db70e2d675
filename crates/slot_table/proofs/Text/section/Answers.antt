use Rattle.std.proofs.Common.{arith}
use Rattle.slot_table.specs.Line.{slash, section_text}
use Rattle.slot_table.proofs.LineLaws.{number_few}
use Rattle.slot_table.proofs.Growth.{grow, grown_few}
use Rattle.slot_table.proofs.Text.section.Goals as goal

pub number-requires-2 : goal.number-requires-2
number-requires-2 c = omega (arith, c.requires, grown_few c.number.ensures (number_few c.rows_in.result slash))

pub returns : goal.returns
unfolding section_text
returns c = rw (← c.rows_in.ensures, ← c.verdict_in.ensures, ← c.from.ensures) (grow c.number.ensures c.number-2.ensures)
