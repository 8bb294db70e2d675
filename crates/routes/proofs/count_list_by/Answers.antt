use mathlib.Core.Path.{sym}
use Rattle.routes.specs.ByTable.{by_table}
use Rattle.routes.specs.List.{list_by, hosts_by}
use Rattle.routes.proofs.ListLaws.{beside, count_long}
use Rattle.routes.proofs.count_list_by.Goals as goal

pub returns-then-whole-gt-LIST_LIMIT : goal.returns-then-whole-gt-LIST_LIMIT
returns-then-whole-gt-LIST_LIMIT c =
    let a = c.args in
    let read = by_table a.counts.now in
    record { answer = sym (beside (hosts_by read a.s.now a.mode) _ _ (count_long a.s.now (list_by read a.s.now a.mode) c.if-whole-gt-LIST_LIMIT.true)) }
