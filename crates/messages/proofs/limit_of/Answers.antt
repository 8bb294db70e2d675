use mathlib.Core.Path.{◌≡◌, refl, sym, ap, ◌∙◌}
use Rattle.messages.specs.Header.{limit_of}
use Rattle.messages.specs.declared.Edition.TheVariants.{Rfc4271, Rfc8654}
use Rattle.messages.proofs.limit_of.Goals as goal

-- the limit of each edition
old_limit : 4096 ≡ limit_of Rfc4271
old_limit = refl

new_limit : 65535 ≡ limit_of Rfc8654
new_limit = refl

pub returns-in-Rfc4271 : goal.returns-in-Rfc4271
returns-in-Rfc4271 c = old_limit ∙ sym (ap limit_of c.in-Rfc4271.is)

pub returns-in-Rfc8654 : goal.returns-in-Rfc8654
returns-in-Rfc8654 c = new_limit ∙ sym (ap limit_of c.in-Rfc8654.is)
