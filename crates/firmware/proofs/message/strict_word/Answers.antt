use Rattle.firmware.proofs.MessageBounds.{strict_narrow}
use Rattle.firmware.proofs.message.strict_word.Goals as goal

pub message_word-requires : goal.message_word-requires
message_word-requires c = let a = c.args in rw c.parse_bgp_message_strict.ensures (strict_narrow a.s.now a.edition)
