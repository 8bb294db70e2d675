-- Whether all is fine, or why it is refused.
use Rattle.std.specs.Prelude.{ℕ, Result, Ok, Err}
use Rattle.wire.specs.Refusal.{number_of}
use Rattle.wire.specs.declared.refusal.Refusal.{Refusal}

abbrev pub Verdict : Type 0
Verdict = Result Unit Refusal

abbrev pub fine : Verdict
fine = Ok tt

-- its number: 0 where all is fine
abbrev pub verdict_number : Verdict → ℕ
verdict_number (Ok tt) = 0
verdict_number (Err r) = number_of r

-- by a verdict: what is good where it is fine, and else a refusal
abbrev pub answer_by : {X : Type 0} → Verdict → X → (Refusal → X) → X
answer_by (Ok tt) good refused = good
answer_by (Err r) good refused = refused r

-- a value, unless a verdict refuses it
abbrev pub unless : {X : Type 0} → Verdict → X → Result X Refusal
unless v x = answer_by v (Ok x) Err

-- the first of two faults, where there is one
abbrev pub either : Verdict → Verdict → Verdict
either (Ok tt) v = v
either (Err r) v = Err r
