use Rattle.std.proofs.Common.{arith}
use Rattle.slot_table.specs.Line.{space}
use Rattle.slot_table.specs.Table.{ending_text}
use Rattle.slot_table.proofs.LineLaws.{number_few}
use Rattle.slot_table.proofs.Growth.{grow, grown_few, grown_long}
use Rattle.slot_table.proofs.Text.ending.Goals as goal

pub number-requires-in-Stop : goal.number-requires-in-Stop
number-requires-in-Stop c = omega (arith, c.requires, c.put-in-Stop.ensures.at, grown_long c.put-in-Stop.ensures, grown_few c.number.ensures (number_few c.in-Stop.nth space))

pub returns-in-Whole : goal.returns-in-Whole
unfolding ending_text
returns-in-Whole c = rw c.in-Whole.is c.put.ensures

pub returns-in-Stop : goal.returns-in-Stop
unfolding ending_text
returns-in-Stop c = rw c.in-Stop.is (grow c.put-in-Stop.ensures (grow c.number.ensures c.number-in-Stop.ensures))

pub returns-in-Unread : goal.returns-in-Unread
unfolding ending_text
returns-in-Unread c = rw c.in-Unread.is (grow c.put-in-Unread.ensures c.number-in-Unread.ensures)

pub returns-in-Unwritten : goal.returns-in-Unwritten
unfolding ending_text
returns-in-Unwritten c = rw c.in-Unwritten.is c.put-in-Unwritten.ensures
