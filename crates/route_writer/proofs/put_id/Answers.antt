use mathlib.Core.Path.{sym, ap, ◌∙◌}
use Prim.Native.Nat.{◌+◌}
use native.Mathlib.Omega.{arith}
use lib.ListN.{get_or}
use Rattle.wire.specs.Number.{to_be}
use Rattle.wire.specs.Store.{laid}
use Rattle.wire.proofs.StoreLaws.{laid_nil}
use Rattle.families.specs.Family.{id_size}
use Rattle.families.specs.declared.Form.{Form}
use Rattle.route_writer.proofs.put_id.Goals as goal

pub put_word-requires : goal.put_word-requires
put_word-requires c = (omega arith, omega (arith, ap id_size c.in-Tagged.is))

pub returns-in-Plain : goal.returns-in-Plain
returns-in-Plain c =
    let a = c.args in
    sym (ap (λ (f : Form). laid a.out.now a.to (to_be (id_size f) (get_or a.rows.now (a.at + 1) 0))) c.in-Plain.is ∙ laid_nil a.out.now a.to)

pub returns-in-Tagged : goal.returns-in-Tagged
returns-in-Tagged c =
    let a = c.args in
    c.put_word.ensures ∙ sym (ap (λ (f : Form). laid a.out.now a.to (to_be (id_size f) (get_or a.rows.now (a.at + 1) 0))) c.in-Tagged.is)
