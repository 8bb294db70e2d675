use mathlib.Core.Path.{◌∙◌}
use Rattle.messages.proofs.HeaderLaws.{contained, opposite}
use Rattle.messages.proofs.kind.Kind.allows.Goals as goal

pub returns : goal.returns
returns c =
    let r = c.new.ensures in
    opposite _ _ (contained c.new.result _ _ c.args.length _ (r.start ∙ c.from.ensures ∙ c.least_length.ensures) (r.end ∙ c.most_length.ensures) r.exhausted c.contains.ensures.value)
