use Rattle.std.proofs.Common.{arith}
use Rattle.messages.specs.Header.{update_kind}
use Rattle.slot_table.specs.Line.{entry_text}
use Rattle.slot_table.proofs.LineLaws.{fields_few, section_few}
use Rattle.slot_table.proofs.Growth.{grow, grown_few}
use Rattle.slot_table.proofs.Text.entry.Goals as goal

pub put-requires : goal.put-requires
put-requires c = omega (arith, c.requires, grown_few c.fields.ensures (fields_few _ c.in-Other.claimed c.args.kept c.in-Other.state))

pub section-requires : goal.section-requires
section-requires c = omega (arith, c.requires, grown_few c.fields-in-Update.ensures (fields_few update_kind c.in-Update.claimed c.args.kept c.in-Update.state))

pub section-requires-in-Update : goal.section-requires-in-Update
section-requires-in-Update c =
    let w = c.in-Update in
    omega (
      arith,
      c.requires,
      grown_few c.fields-in-Update.ensures (fields_few update_kind w.claimed c.args.kept w.state),
      grown_few c.section.ensures (section_few w.update.withdrawn),
    )

pub number-requires : goal.number-requires
number-requires c =
    let w = c.in-Update in
    omega (
      arith,
      c.requires,
      grown_few c.fields-in-Update.ensures (fields_few update_kind w.claimed c.args.kept w.state),
      grown_few c.section.ensures (section_few w.update.withdrawn),
      grown_few c.section-in-Update.ensures (section_few _),
    )

pub returns-in-Other : goal.returns-in-Other
unfolding entry_text
returns-in-Other c = rw c.in-Other.is (grow c.fields.ensures c.put.ensures)

pub returns-in-Update : goal.returns-in-Update
unfolding entry_text
returns-in-Update c = rw c.in-Update.is (grow c.fields-in-Update.ensures (grow c.section.ensures (grow c.section-in-Update.ensures c.number.ensures)))
