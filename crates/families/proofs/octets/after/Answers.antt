use borrow.Author.Tests.{lt-ltb}
use borrow.Author.Rules.{rules}
use Rattle.families.proofs.octets.after.Goals as goal

pub returns : goal.returns
returns c = rw (lt-ltb c.args.len 256 (search rules))
