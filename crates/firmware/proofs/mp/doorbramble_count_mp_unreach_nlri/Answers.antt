use Rattle.firmware.proofs.MpBounds.{count_unreach_narrow}
use Rattle.firmware.proofs.mp.doorbramble_count_mp_unreach_nlri.Goals as goal

pub list_word-requires : goal.list_word-requires
list_word-requires c = rw c.count_mp_unreach_nlri.ensures (count_unreach_narrow _ _)
