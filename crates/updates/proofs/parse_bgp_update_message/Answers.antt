use mathlib.Core.Path.{refl}
use Rattle.routes.proofs.PrefixLaws.{passed}
use Rattle.updates.specs.Update.{read_update}
use Rattle.updates.proofs.BodyLaws.{holds_withdrawn, holds_announced}
use Rattle.updates.proofs.UpdateLaws.{both_told}
use Rattle.updates.proofs.parse_bgp_update_message.Goals as goal

pub returns-in_err-update_parts : goal.returns-in_err-update_parts
unfolding read_update
returns-in_err-update_parts c =
    rw (passed _ _ c.from_residual.ensures.1) (record {
      answer = rw (← c.in_err-update_parts.ensures) refl;
      withdrawn = refl;
      announced = refl;
    })

pub returns-in_err-both : goal.returns-in_err-both
unfolding read_update
returns-in_err-both c =
    let g = c.args in
    let b = g.body in
    let w = holds_withdrawn b _ c.withdrawn_part.ensures in
    let a = holds_announced b _ c.announced_part.ensures in
    let told = c.in_err-both.ensures in
    let both = both_told c.withdrawn_part.result.now c.announced_part.result.now g.mode g.withdrawn.now g.announced.now _ _ _ _ refl told.answer told.first told.second in
    rw (passed _ _ c.from_residual-in_err-both.ensures.1) (record {
      answer = rw (← c.in_ok-update_parts.ensures, ← w, ← a) both.0;
      withdrawn = told.first;
      announced = told.second;
    })

pub returns : goal.returns
unfolding read_update
returns c =
    let g = c.args in
    let b = g.body in
    let w = holds_withdrawn b _ c.withdrawn_part.ensures in
    let a = holds_announced b _ c.announced_part.ensures in
    let told = c.in_ok-both.ensures in
    let both = both_told c.withdrawn_part.result.now c.announced_part.result.now g.mode g.withdrawn.now g.announced.now _ _ _ _ refl told.answer told.first told.second in
    record {
      answer = rw (← c.in_ok-update_parts.ensures, ← w, ← a) both.0;
      withdrawn = rw (← w) both.1.0;
      announced = rw (← a) both.1.1;
    }
