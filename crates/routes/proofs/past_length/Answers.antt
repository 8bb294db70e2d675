use borrow.Author.Rules.{rules}
use Rattle.routes.proofs.HostLaws.{masked_past}
use Rattle.routes.proofs.past_length.Goals as goal

pub returns : goal.returns
returns c = rw c.from.ensures (masked_past c.args.bits c.args.last c.args.past.now (search rules) c.requires)
