use Rattle.firmware.proofs.MpBounds.{count_reach_narrow}
use Rattle.firmware.proofs.mp.doorbramble_count_mp_reach_nlri.Goals as goal

pub reach_word-requires : goal.reach_word-requires
reach_word-requires c = rw c.count_mp_reach_nlri.ensures (count_reach_narrow _ _)
