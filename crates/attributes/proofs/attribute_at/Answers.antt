use mathlib.Core.Path.{◌≡◌, sym, ap, ◌∙◌}
use Prim.Native.Nat.{ℕ}
use mathlib.Core.List.{List}
use lib.ListN.{drop}
use Rattle.std.specs.Prelude.{Some, Ok}
use Rattle.wire.proofs.Turn.{rest}
use Rattle.attributes.specs.Attribute.{attribute_of}
use Rattle.attributes.specs.Private.{front_of}
use Rattle.attributes.specs.declared.Attribute.{Attribute}
use Rattle.attributes.proofs.AttributeLaws.{front_whole, front_cut, over_limit, none_left, cut_at, taken_at}
use Rattle.attributes.proofs.attribute_at.Goals as goal

pub returns-then-section-gt-LIST_LIMIT : goal.returns-then-section-gt-LIST_LIMIT
returns-then-section-gt-LIST_LIMIT c = over_limit _ _ c.if-section-gt-LIST_LIMIT.true

pub returns-then-section-place : goal.returns-then-section-place
returns-then-section-place c = none_left _ c.if-section-gt-LIST_LIMIT.false _ c.if-section-place.true

pub returns-in-Some : goal.returns-in-Some
returns-in-Some c =
    let a = c.args in
    let front_is : c.front.result ≡ front_of a.place (attribute_of tt (drop a.place a.section.now)) = c.front.ensures ∙ ap (λ (l : List ℕ). front_of a.place (attribute_of tt l)) (rest a.section.now a.place) in
    let f = front_whole _ a.place _ (sym front_is ∙ c.in-Some.is) in
    ap (λ (x : Attribute). Ok (Some x)) (sym f.1) ∙ taken_at a.section.now c.if-section-gt-LIST_LIMIT.false a.place _ _ c.if-section-place.false f.0

pub returns-in-None : goal.returns-in-None
returns-in-None c =
    let a = c.args in
    let front_is : c.front.result ≡ front_of a.place (attribute_of tt (drop a.place a.section.now)) = c.front.ensures ∙ ap (λ (l : List ℕ). front_of a.place (attribute_of tt l)) (rest a.section.now a.place) in
    cut_at a.section.now c.if-section-gt-LIST_LIMIT.false a.place c.if-section-place.false (front_cut _ a.place (sym front_is ∙ c.in-None.is))
