use mathlib.Core.Path.{sym, ◌∙◌}
use native.Mathlib.Omega.{arith}
use lib.Seq.{length-take-le}
use Rattle.asns.proofs.AsnLaws.{eight_says}
use Rattle.paths.proofs.NumberTurn.{numbers_first}
use Rattle.paths.proofs.put_ahead.Goals as goal

pub returns-then-eight_for : goal.returns-then-eight_for
returns-then-eight_for c =
    let eight = eight_says _ _ _ _ (sym c.eight_for.ensures ∙ c.if-eight_for.true) in
    numbers_first _ c.args.n _ _ _ _ (omega (arith, eight, length-take-le 8 c.args.numbers.now eight.1)) c.put_numbers.ensures
