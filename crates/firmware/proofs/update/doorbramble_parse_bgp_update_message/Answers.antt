use Rattle.firmware.proofs.UpdateBounds.{read_update_narrow}
use Rattle.firmware.proofs.update.doorbramble_parse_bgp_update_message.Goals as goal

pub update_word-requires : goal.update_word-requires
update_word-requires c = rw c.parse_bgp_update_message.ensures.answer (read_update_narrow _ _ _ _)
