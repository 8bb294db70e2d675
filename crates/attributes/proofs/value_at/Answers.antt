use Rattle.attributes.proofs.AttributeLaws.{attribute_inside, value_by}
use Rattle.attributes.proofs.value_at.Goals as goal

pub value_of-requires : goal.value_of-requires
value_of-requires c = rw c.attribute_at.ensures (attribute_inside c.args.section.now c.args.place)

pub returns : goal.returns
returns c = value_by c.args.section _ _ _ c.attribute_at.ensures c.value_of.ensures
