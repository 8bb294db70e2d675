use Rattle.firmware.proofs.UpdateBounds.{count_update_narrow}
use Rattle.firmware.proofs.update.doorbramble_count_bgp_update_message.Goals as goal

pub update_word-requires : goal.update_word-requires
update_word-requires c = rw c.count_bgp_update_message.ensures (count_update_narrow _ _)
