use mathlib.Core.Path.{sym, ap, ◌∙◌}
use Rattle.wire.specs.Walk.{Reading}
use Rattle.routes.specs.ByTable.{by_table}
use Rattle.routes.specs.List.{hosts_by}
use Rattle.routes.specs.Promises.{count_answer, with_hosts}
use Rattle.routes.specs.declared.Row.{Row}
use Rattle.routes.proofs.ListLaws.{beside, section_strange, section_list}
use Rattle.routes.proofs.count_section_by.Goals as goal

pub returns-then-is_strange : goal.returns-then-is_strange
returns-then-is_strange c =
    let a = c.args in
    let read = by_table a.counts.now in
    record { answer = sym (beside (hosts_by read a.s.now a.mode) _ _ (section_strange read a.s.now a.mode (sym c.is_strange.ensures ∙ c.if-is_strange.true))) }

pub returns : goal.returns
returns c =
    let a = c.args in
    let read = by_table a.counts.now in
    record {
      answer = c.count_list_by.ensures.answer
          ∙ ap (λ (r : Reading Row). with_hosts (count_answer a.s.now r) (hosts_by read a.s.now a.mode))
          (sym (section_list read a.s.now a.mode (sym c.is_strange.ensures ∙ c.if-is_strange.false)));
    }
