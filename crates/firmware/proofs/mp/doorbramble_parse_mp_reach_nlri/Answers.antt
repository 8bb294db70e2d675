use Rattle.firmware.proofs.MpBounds.{read_reach_narrow}
use Rattle.firmware.proofs.mp.doorbramble_parse_mp_reach_nlri.Goals as goal

pub reach_word-requires : goal.reach_word-requires
reach_word-requires c = rw c.parse_mp_reach_nlri.ensures.answer (read_reach_narrow _ _ _)
