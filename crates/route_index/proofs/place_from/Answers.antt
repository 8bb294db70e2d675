use mathlib.Core.Path.{ap, ◌∙◌}
use Rattle.routes.specs.List.{Reader}
use Rattle.routes.proofs.TableLaws.{item_family}
use Rattle.route_index.specs.Private.{skipped}
use Rattle.route_index.proofs.place_from.Goals as goal

pub returns : goal.returns
returns c =
    let a = c.args in
    c.pass.ensures ∙ ap (λ (read : Reader). skipped read a.form a.s.now a.n a.from) (item_family _ a.afi c.counts.ensures)
