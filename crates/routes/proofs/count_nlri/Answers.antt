use mathlib.Core.Path.{refl, ◌∙◌}
use Rattle.routes.proofs.TableLaws.{count_section_family}
use Rattle.routes.proofs.count_nlri.Goals as goal

pub returns : goal.returns
returns c =
    let a = c.args in
    record {
      answer = c.count_section_by.ensures.answer
          ∙ count_section_family _ a.afi (c.put_counts.ensures refl) a.s.now a.mode;
    }
