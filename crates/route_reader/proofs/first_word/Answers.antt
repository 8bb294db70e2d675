use Rattle.wire.specs.Number.{Bytes}
use Rattle.route_reader.proofs.WordsLaws.{first_octets}
use Rattle.route_reader.proofs.first_word.Goals as goal

pub returns : goal.returns
returns c =
    let a = c.args in
    let bytes : Bytes a.s.now = λ i. (c.type_inv.s i).fits in
    (first_octets a.s.now a.n _ bytes c.requires.1 c.u32_at-w.ensures).0
