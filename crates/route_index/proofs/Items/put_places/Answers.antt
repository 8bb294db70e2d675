use native.Mathlib.Omega.{arith}
use Rattle.routes.proofs.TableLaws.{fair_table}
use Rattle.route_index.proofs.KnownLaws.{putting_start, putting_inside, putting_last, putting_more, putting_next}
use Rattle.route_index.proofs.Items.put_places.Goals.{then-i-n, else-i-n}
use Rattle.route_index.proofs.Items.put_places.Goals as goal

pub loop-i-init : goal.loop-i-init
loop-i-init c = putting_start c.requires

pub overflow_cast-places : goal.overflow_cast-places
overflow_cast-places c =
    let inside = putting_inside (fair_table c.args.self.counts.now) c.loop-i.invariant (omega (arith, c.loop-i-test.true, c.loop-i.auto.places)) in
    omega (arith, inside, c.args.self.short)

pub pass_known-at-requires : goal.pass_known-at-requires
pass_known-at-requires c =
    putting_more (fair_table c.args.self.counts.now) c.loop-i.invariant (omega (arith, c.loop-i-test.true, c.loop-i.auto.places)) (omega (arith, c.if-i-n.true, c.loop-i.auto.places))

pub loop-i-preserved : goal.loop-i-preserved
loop-i-preserved c =
    let fair = fair_table c.args.self.counts.now in
    elim c.if-i-n.branch [
      | then-i-n w ↦ rw w.at-is
          (putting_next fair c.loop-i.invariant (omega (arith, c.loop-i-test.true, c.loop-i.auto.places)) (omega (arith, w.if-i-n.true, c.loop-i.auto.places)) w.pass_known-at.ensures)
      | else-i-n w ↦ rw w.at-is
          (putting_last fair c.loop-i.invariant (omega (arith, c.loop-i-test.true, c.loop-i.auto.places)) (omega (arith, w.if-i-n.false, c.loop-i.auto.places)))
    ]

pub returns : goal.returns
returns c = c.loop-i.invariant.done (omega (arith, c.loop-i-test.false, c.loop-i.auto.places))
