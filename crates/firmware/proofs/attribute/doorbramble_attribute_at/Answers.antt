use Rattle.firmware.proofs.AttributeBounds.{attribute_narrow}
use Rattle.firmware.proofs.attribute.doorbramble_attribute_at.Goals as goal

pub attribute_word-requires : goal.attribute_word-requires
attribute_word-requires c = rw c.attribute_at.ensures (attribute_narrow _ _ (λ i. (c.type_inv.section i).fits))
