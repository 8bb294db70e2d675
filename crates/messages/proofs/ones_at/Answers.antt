use mathlib.Core.Path.{ap, ◌∙◌}
use Prim.Native.Nat.{ℕ}
use lib.Dec.{eqb}
use Rattle.messages.proofs.HeaderLaws.{eight_ones, ones_word}
use Rattle.messages.proofs.ones_at.Goals as goal

pub returns : goal.returns
returns c =
    let a = c.args in
    ap (λ (n : ℕ). eqb n eight_ones) c.join8.ensures ∙ ones_word a.s.now a.at (λ i. (c.type_inv.s i).fits)
