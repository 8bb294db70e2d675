use Rattle.firmware.proofs.ListBounds.{read_list_narrow}
use Rattle.firmware.proofs.list.doorbramble_parse_nlri_list.Goals as goal

pub list_word-requires : goal.list_word-requires
list_word-requires c = rw c.parse_nlri_list.ensures.answer (read_list_narrow _ _ _ _)

pub list_word-requires-in-Ipv6 : goal.list_word-requires-in-Ipv6
list_word-requires-in-Ipv6 c = rw c.parse_nlri_list-in-Ipv6.ensures.answer (read_list_narrow _ _ _ _)
