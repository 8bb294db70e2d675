use mathlib.Core.Path.{ap, ◌∙◌}
use mathlib.Core.List.{List}
use Prim.Native.Nat.{ℕ, ◌+◌}
use native.Mathlib.Omega.{arith}
use lib.ListN.{get_or}
use Rattle.wire.specs.Number.{to_be}
use Rattle.wire.specs.Store.{laid}
use Rattle.route_writer.proofs.Ahead.{words_laid}
use Rattle.route_writer.proofs.put_words.Goals as goal

pub returns : goal.returns
returns c =
    let a = c.args in
    let w : ℕ → ℕ = λ i. get_or a.rows.now (a.at + i) 0 in
    c.put_word-4.ensures
    ∙ ap (λ (l : List ℕ). laid l (a.to + 12) (to_be 4 (w 5))) (c.put_word-3.ensures
    ∙ ap (λ (l : List ℕ). laid l (a.to + 8) (to_be 4 (w 4))) (c.put_word-2.ensures
    ∙ ap (λ (l : List ℕ). laid l (a.to + 4) (to_be 4 (w 3))) c.put_word.ensures))
    ∙ words_laid a.out.now a.to (w 2) (w 3) (w 4) (w 5) (omega arith)
