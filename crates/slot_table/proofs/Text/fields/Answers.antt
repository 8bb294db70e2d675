use Rattle.std.proofs.Common.{ap, length, arith}
use Rattle.slot_table.specs.Line.{space, fields_text}
use Rattle.slot_table.proofs.LineLaws.{number_few, state_few}
use Rattle.slot_table.proofs.Growth.{grow, grown_few}
use Rattle.slot_table.proofs.Text.fields.Goals as goal

pub number-requires-2 : goal.number-requires-2
number-requires-2 c = omega (arith, c.requires, grown_few c.number.ensures (number_few c.from-2.result space))

pub number-requires-3 : goal.number-requires-3
number-requires-3 c =
    omega (arith, c.requires, grown_few c.number.ensures (number_few c.from-2.result space), grown_few c.number-2.ensures (number_few c.args.claimed space))

pub put-requires : goal.put-requires
put-requires c =
    omega (
      arith,
      c.requires,
      grown_few c.number.ensures (number_few c.from-2.result space),
      grown_few c.number-2.ensures (number_few c.args.claimed space),
      grown_few c.number-3.ensures (number_few c.args.kept space),
      state_few c.args.state,
      ap length c.text.ensures,
    )

pub returns : goal.returns
unfolding fields_text
returns c = rw (← c.from.ensures, ← c.from-2.ensures, ← c.text.ensures) (grow c.number.ensures (grow c.number-2.ensures (grow c.number-3.ensures c.put.ensures)))
