use mathlib.Core.Path.{sym, ◌∙◌}
use Rattle.families.specs.Family.{max_of}
use Rattle.routes.specs.List.{up_to, hosts_of, section_of}
use Rattle.routes.proofs.ListLaws.{beside, section_strange, section_list, leave_refused}
use Rattle.route_reader.proofs.read_nlri.Goals as goal

pub returns-then-is_strange : goal.returns-then-is_strange
returns-then-is_strange c =
    let a = c.args in
    let strange = sym c.is_strange.ensures ∙ c.if-is_strange.true in
    let l = leave_refused a.s.now (section_of a.s.now (max_of a.afi) a.mode) a.store.now _ (section_strange (up_to (max_of a.afi)) a.s.now a.mode strange) in
    record {
      answer = beside (hosts_of a.s.now (max_of a.afi) a.mode) _ _ l.0;
      store = l.1;
    }

pub returns : goal.returns
returns c =
    let a = c.args in
    let list = sym c.is_strange.ensures ∙ c.if-is_strange.false in
    rw (section_list (up_to (max_of a.afi)) a.s.now a.mode list) c.parse_nlri_list.ensures
