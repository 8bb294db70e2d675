use mathlib.Core.Path.{sym, ap}
use Rattle.families.specs.Family.{guess_mark}
use Rattle.families.specs.declared.AddPath.TheVariants.{Guess}
use Rattle.families.proofs.guess_mark.Goals as goal

pub returns-in-Plain : goal.returns-in-Plain
returns-in-Plain c = ap (guess_mark Guess) (sym c.in-Plain.is)

pub returns-in-Tagged : goal.returns-in-Tagged
returns-in-Tagged c = ap (guess_mark Guess) (sym c.in-Tagged.is)
