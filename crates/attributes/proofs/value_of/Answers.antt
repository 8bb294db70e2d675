use mathlib.Core.Path.{◌≡◌, ap, ◌∙◌}
use Rattle.std.specs.Prelude.{Option, Some, None, Ok}
use Rattle.attributes.specs.declared.Attribute.{Attribute}
use Rattle.attributes.proofs.AttributeLaws.{value_told}
use Rattle.attributes.proofs.value_of.Goals as goal

pub returns-in-Ok-Some : goal.returns-in-Ok-Some
returns-in-Ok-Some c =
    let w = c.in-Ok-Some in
    let some : w.field-0 ≡ Some w.attribute = rw w.is at w.field-0-is in
    value_told c.args.section _ _ _ _ (w.is ∙ ap Ok some) c.requires c.part.ensures

pub returns-in-Ok-None : goal.returns-in-Ok-None
returns-in-Ok-None c =
    let w = c.in-Ok-None in
    let none : ◌≡◌ {A = Option Attribute} w.field-0 None = rw w.is at w.field-0-is in
    value_told c.args.section _ _ _ _ (w.is ∙ ap Ok none) c.requires c.part-in-Ok-None.ensures

pub returns-in-Err : goal.returns-in-Err
returns-in-Err c = value_told c.args.section _ _ _ _ c.in-Err.is c.requires c.part-in-Err.ensures
