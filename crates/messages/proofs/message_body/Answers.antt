use Rattle.messages.specs.Header.{message_of}
use Rattle.messages.proofs.HeaderLaws.{message_fits, body_by_lem}
use Rattle.messages.proofs.message_body.Goals as goal

pub body_part-requires : goal.body_part-requires
body_part-requires c = rw c.parse_bgp_message.ensures (message_fits c.args.s.now)

pub returns : goal.returns
returns c = body_by_lem (message_of c.args.s.now) _ _ _ c.parse_bgp_message.ensures c.body_part.ensures
