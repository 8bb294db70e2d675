use Rattle.std.proofs.Common.{arith}
use Rattle.slot_table.specs.Line.{space, line_of, entry_text}
use Rattle.slot_table.proofs.LineLaws.{number_few}
use Rattle.slot_table.proofs.Growth.{grow, grown_few}
use Rattle.slot_table.proofs.Text.line.Goals as goal

pub entry-requires : goal.entry-requires
entry-requires c = omega (arith, c.requires, grown_few c.number.ensures (number_few c.args.nth space))

pub refused-requires : goal.refused-requires
refused-requires c = omega (arith, c.requires, grown_few c.number.ensures (number_few c.args.nth space))

pub returns-in-Ok : goal.returns-in-Ok
unfolding line_of
returns-in-Ok c = rw (← c.of.ensures, c.in-Ok.is) (grow c.number.ensures c.entry.ensures)

pub returns-in-Err : goal.returns-in-Err
unfolding line_of entry_text
returns-in-Err c = rw (← c.of.ensures, c.in-Err.is) (grow c.number.ensures c.refused.ensures)
