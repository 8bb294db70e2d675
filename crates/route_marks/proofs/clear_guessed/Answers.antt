use Prim.Native.Nat.{◌+◌, ◌*◌}
use mathlib.Core.Path.{◌≡◌, subst, ◌∙◌}
use native.Mathlib.Omega.{arith}
use lib.ListN.{set}
use Rattle.route_marks.proofs.ClearLaws.{Clearing, clearing_step, clearing_done, clear_whole, clear_part}
use Rattle.route_marks.proofs.clear_guessed.Goals as goal

pub returns-then-store-ne0 : goal.returns-then-store-ne0
returns-then-store-ne0 c =
    let both = clear_part c.args.store.now (λ z. c.if-store-ne0.true z) in
    record { answer = both.0; store = both.1 }

pub loop-row-preserved : goal.loop-row-preserved
loop-row-preserved c =
    let on : c.loop-row.row * 6 + 6 ≡ (c.loop-row.row + 1) * 6 = omega arith in
    subst (Clearing c.args.store.now (set c.loop-row.store (c.loop-row.row * 6) c.without_mark.result)) on
    (clearing_step c.args.store.now c.loop-row.store (c.loop-row.row * 6) c.loop-row.invariant (omega (arith, c.loop-row.invariant.long, c.loop-row-test.true)) _ c.without_mark.ensures)

pub returns : goal.returns
returns c =
    let ws = c.args.store.now in
    let whole = clear_whole ws (omega (arith, c.if-store-ne0.false)) in
    record {
      answer = whole.0;
      store = clearing_done ws c.loop-row.store (c.loop-row.row * 6) c.loop-row.invariant (omega (arith, c.loop-row.invariant.long, c.loop-row-test.false, c.if-store-ne0.false)) ∙ whole.1;
    }
