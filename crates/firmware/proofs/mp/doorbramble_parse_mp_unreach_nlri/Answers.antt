use Rattle.firmware.proofs.MpBounds.{read_unreach_narrow}
use Rattle.firmware.proofs.mp.doorbramble_parse_mp_unreach_nlri.Goals as goal

pub list_word-requires : goal.list_word-requires
list_word-requires c = rw c.parse_mp_unreach_nlri.ensures.answer (read_unreach_narrow _ _ _)
