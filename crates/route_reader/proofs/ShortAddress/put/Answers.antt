use mathlib.Core.Path.{◌≡◌, ap, ◌∙◌}
use mathlib.Core.List.{[], ◌∷◌}
use native.Mathlib.Omega.{arith}
use lib.ListN.{length-take}
use Rattle.wire.specs.Store.{laid}
use Rattle.route_reader.proofs.WordsLaws.{address_first}
use Rattle.route_reader.proofs.ShortAddress.put.Goals as goal

pub returns : goal.returns
returns c =
    let a = c.args in
    let w = c.first_word.result in
    let put : c.put_words.new.store ≡ laid a.store.now a.to (w ∷ 0 ∷ 0 ∷ 0 ∷ []) = c.put_words.ensures in
    put ∙ ap (laid a.store.now a.to) (address_first _ w (omega (arith, c.requires.octets.few, length-take a.n a.s.now)) c.first_word.ensures)
