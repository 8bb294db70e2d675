use mathlib.Core.Path.{refl}
use Rattle.attributes.specs.Attribute.{is_extended}
use Rattle.attributes.proofs.is_extended.Goals as goal

pub returns : goal.returns
unfolding is_extended
returns c = refl
