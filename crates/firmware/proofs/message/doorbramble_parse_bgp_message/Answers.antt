use Rattle.firmware.proofs.MessageBounds.{message_narrow}
use Rattle.firmware.proofs.message.doorbramble_parse_bgp_message.Goals as goal

pub message_word-requires : goal.message_word-requires
message_word-requires c = rw c.parse_bgp_message.ensures (message_narrow _)
