use mathlib.Core.List.{List}
use mathlib.Core.Path.{◌≡◌, sym, ap, ◌∙◌}
use Prim.Native.Nat.{ℕ, ◌-◌}
use native.Mathlib.Omega.{arith}
use lib.ListN.{length, take, drop, length-drop}
use Rattle.wire.proofs.Turn.{rest}
use Rattle.families.specs.declared.Form.{Form}
use Rattle.families.specs.declared.Form.TheVariants.{Plain, Tagged}
use Rattle.routes.specs.ByTable.{by_table}
use Rattle.routes.specs.List.{fixed, step_by}
use Rattle.routes.specs.Promises.{sized}
use Rattle.routes.proofs.TableLaws.{step_none}
use Rattle.routes.proofs.item_step.Goals as goal

-- a step in one form, of what stands from a place on
step_from : (counts s : List ℕ) (n : ℕ) (form : Form) (r : _) → r ≡ sized (step_by (by_table counts) (fixed form) form (take (length s - n) (drop n s))) → r ≡ sized (step_by (by_table counts) (fixed form) form (drop n s))
step_from counts s n form r e = e ∙ ap (λ (l : List ℕ). sized (step_by (by_table counts) (fixed form) form l)) (rest s n)

pub returns-then-s-n : goal.returns-then-s-n
returns-then-s-n c =
    let a = c.args in
    sym (ap sized (step_none a.counts.now a.mode a.form (drop a.n a.s.now) (omega (arith, c.if-s-n.true, length-drop a.n a.s.now))))

pub returns-in-On : goal.returns-in-On
unfolding step_by
returns-in-On c = let a = c.args in rw c.in-On.is (step_from a.counts.now a.s.now a.n Tagged _ c.form_size.ensures)

pub returns-in-Off : goal.returns-in-Off
unfolding step_by
returns-in-Off c = let a = c.args in rw c.in-Off.is (step_from a.counts.now a.s.now a.n Plain _ c.form_size-in-Off.ensures)

pub returns-in-Guess : goal.returns-in-Guess
returns-in-Guess c = rw c.in-Guess.is c.guess_at.ensures
