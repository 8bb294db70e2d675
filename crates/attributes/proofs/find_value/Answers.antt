use native.Mathlib.Omega.{arith}
use lib.ListN.{length}
use Rattle.attributes.specs.Private.{Inside}
use Rattle.attributes.specs.Promises.{Found}
use Rattle.attributes.proofs.AttributeLaws.{attribute_inside, value_by}
use Rattle.attributes.proofs.SearchTurn.{find_by}
use Rattle.attributes.proofs.find_value.Goals as goal

pub value_of-requires : goal.value_of-requires
value_of-requires c =
    let a = c.args in
    rw c.find_attribute.ensures (find_by a.section.now a.kind (λ (x : Found). Inside x (length a.section.now)) (λ n. omega arith) (attribute_inside a.section.now))

pub returns : goal.returns
returns c = value_by c.args.section _ _ _ c.find_attribute.ensures c.value_of.ensures
