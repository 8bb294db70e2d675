use mathlib.Core.Path.{◌∙◌}
use Rattle.families.specs.Family.{max_of}
use Rattle.route_reader.proofs.PairLaws.{section_fits}
use Rattle.route_reader.proofs.ListKind.fill_counted.Goals as goal

pub fill-requires : goal.fill-requires
fill-requires c =
    let a = c.args in
    let kind = a.self.now in
    (section_fits a.s.now (max_of kind.afi) kind.mode a.store.now a.counted c.if-is_ok.ensures.value c.requires.counted_value c.requires.store_value).0

pub returns-then-is_ok : goal.returns-then-is_ok
returns-then-is_ok c =
    let a = c.args in
    let kind = a.self.now in
    c.fill.ensures ∙ (section_fits a.s.now (max_of kind.afi) kind.mode a.store.now a.counted c.if-is_ok.ensures.value c.requires.counted_value c.requires.store_value).1
