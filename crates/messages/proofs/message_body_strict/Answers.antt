use Rattle.messages.specs.Header.{strict_of}
use Rattle.messages.proofs.HeaderLaws.{strict_fits, body_by_lem}
use Rattle.messages.proofs.message_body_strict.Goals as goal

pub body_part-requires : goal.body_part-requires
body_part-requires c = rw c.parse_bgp_message_strict.ensures (strict_fits _ c.args.s.now)

pub returns : goal.returns
returns c =
    let a = c.args in
    body_by_lem (strict_of a.edition a.s.now) _ _ _ c.parse_bgp_message_strict.ensures c.body_part.ensures
