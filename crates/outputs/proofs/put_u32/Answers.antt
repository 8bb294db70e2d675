use Rattle.std.proofs.Common.{sym, ap, ◌∙◌}
use Rattle.wire.specs.Store.{placed}
use Rattle.wire.proofs.NumberLaws.{to_be_four}
use Rattle.outputs.proofs.put_u32.Goals as goal

pub returns : goal.returns
returns c = c.put.ensures ∙ ap (placed c.args.out.now c.args.to) (sym (to_be_four c.args.v))
