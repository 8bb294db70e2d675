use mathlib.Core.Path.{sym, ap}
use Rattle.families.specs.Family.{mark_of}
use Rattle.families.proofs.mark_of.Goals as goal

pub returns-in-Plain : goal.returns-in-Plain
returns-in-Plain c = ap mark_of (sym c.in-Plain.is)

pub returns-in-Tagged : goal.returns-in-Tagged
returns-in-Tagged c = ap mark_of (sym c.in-Tagged.is)
