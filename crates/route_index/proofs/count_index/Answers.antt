use mathlib.Core.Path.{◌∙◌}
use Rattle.route_index.proofs.IndexLaws.{count_family}
use Rattle.route_index.proofs.count_index.Goals as goal

pub returns : goal.returns
returns c = let a = c.args in record { answer = c.count_places.ensures ∙ count_family _ a.afi c.counts.ensures a.s.now a.form }
