use Prim.Native.Nat.{◌+◌}
use mathlib.Core.Path.{sym, ◌∙◌}
use native.Mathlib.Omega.{arith}
use Rattle.as4.proofs.LeadTurn.{led_start, led_ends, led_fits, led_next, led_split}
use Rattle.as4.proofs.leading_part.Goals as goal

pub loop-kind-init : goal.loop-kind-init
loop-kind-init c = led_start c.requires.good

pub bounds-as_path-lead-in-loop-kind : goal.bounds-as_path-lead-in-loop-kind
bounds-as_path-lead-in-loop-kind c = omega (arith, led_fits c.loop-kind.invariant (sym c.goes_on.ensures ∙ c.loop-kind-test.true))

pub returns-then-left-counted : goal.returns-then-left-counted
returns-then-left-counted c =
    led_split c.loop-kind.invariant (sym c.goes_on.ensures ∙ c.loop-kind-test.true) (rw (c.route_len-counted.ensures, c.from.ensures) at c.if-left-counted.true)
    (omega (arith, c.type_inv.as_path (c.loop-kind.lead.end + 1)))

pub overflow_add-lead : goal.overflow_add-lead
overflow_add-lead c =
    omega (arith, led_fits c.loop-kind.invariant (sym c.goes_on.ensures ∙ c.loop-kind-test.true), c.segment_size.ensures, c.requires.short)

pub loop-kind-preserved : goal.loop-kind-preserved
loop-kind-preserved c =
    rw (c.segment_size.ensures, c.route_len-counted.ensures, c.from.ensures, c.from-in-loop-kind.ensures)
    (led_next c.loop-kind.invariant (sym c.goes_on.ensures ∙ c.loop-kind-test.true) (rw (c.route_len-counted.ensures, c.from.ensures) at c.if-left-counted.false))

pub returns : goal.returns
returns c = led_ends c.loop-kind.invariant (sym c.goes_on.ensures ∙ c.loop-kind-test.false)
