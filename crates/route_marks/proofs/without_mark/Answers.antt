use mathlib.Core.Path.{refl}
use Rattle.route_marks.proofs.without_mark.Goals as goal

pub returns : goal.returns
returns c = refl
