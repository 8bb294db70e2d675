use Rattle.firmware.proofs.AttributeBounds.{find_narrow}
use Rattle.firmware.proofs.attribute.doorbramble_find_attribute.Goals as goal

pub attribute_word-requires : goal.attribute_word-requires
attribute_word-requires c = rw c.find_attribute.ensures (find_narrow _ _ (λ i. (c.type_inv.section i).fits))
