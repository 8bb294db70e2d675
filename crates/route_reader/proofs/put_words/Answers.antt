use Rattle.route_reader.proofs.WordsLaws.{two_by_two}
use Rattle.route_reader.proofs.put_words.Goals as goal

pub returns : goal.returns
returns c =
    let a = c.args in
    two_by_two a.store.now _ _ a.to a.w0 a.w1 a.w2 a.w3 c.requires c.put_pair.ensures c.put_pair-2.ensures
