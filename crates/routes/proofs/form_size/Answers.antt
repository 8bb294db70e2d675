use mathlib.Core.Path.{◌∙◌}
use Rattle.routes.specs.ByTable.{by_table}
use Rattle.routes.proofs.PrefixLaws.{passed}
use Rattle.routes.proofs.ListLaws.{size_fixed}
use Rattle.routes.proofs.form_size.Goals as goal

pub returns-in_err-used : goal.returns-in_err-used
returns-in_err-used c = let a = c.args in passed _ _ c.from_residual.ensures.1 ∙ size_fixed (by_table a.counts.now) a.form a.s.now _ c.in_err-used.ensures

pub returns : goal.returns
returns c = let a = c.args in size_fixed (by_table a.counts.now) a.form a.s.now _ c.in_ok-used.ensures
