use Prim.Native.Nat.{ℕ, ◌-◌}
use mathlib.Core.List.{List}
use lib.ListN.{length}
use Rattle.route_writer.specs.Private.{Ahead}
use Rattle.route_writer.proofs.fill.Given as goal

-- over any maximum length and any first output, which the loop does not know
abbrev pub invariant-loop-at : goal.invariant-loop-at
invariant-loop-at l = (max : ℕ) (d₀ : List ℕ) → Ahead max l.form l.ws d₀ l.initial.at l.initial.to l.initial.out → Ahead max l.form l.ws d₀ l.at l.to l.out

abbrev pub decreases-loop-at : goal.decreases-loop-at
decreases-loop-at l = length l.ws - l.at
