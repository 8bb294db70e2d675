use mathlib.Core.Path.{refl, ◌∙◌}
use Rattle.routes.proofs.TableLaws.{count_list_family}
use Rattle.routes.proofs.count_nlri_list.Goals as goal

pub returns : goal.returns
returns c =
    let a = c.args in
    record {
      answer = c.count_list_by.ensures.answer
          ∙ count_list_family _ a.afi (c.put_counts.ensures refl) a.s.now a.mode;
    }
