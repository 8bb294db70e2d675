use native.Mathlib.Omega.{arith}
use mathlib.Core.Path.{sym, ◌∙◌}
use Rattle.route_index.proofs.KnownLaws.{known_there, known_start, known_next}
use Rattle.route_index.proofs.Items.pass_known_alike.Goals as goal

pub octets_at-n-requires : goal.octets_at-n-requires
octets_at-n-requires c = known_there c.args.self.counts.now c.requires.some c.requires.remain

pub overflow_add-used-2 : goal.overflow_add-used-2
overflow_add-used-2 c = omega (arith, (known_start c.args.self.counts.now c.id_size.ensures c.requires.some c.requires.remain c.octets_at-n.ensures).0, c.args.self.short)

pub overflow_add-at : goal.overflow_add-at
overflow_add-at c = omega (arith, (known_start c.args.self.counts.now c.id_size.ensures c.requires.some c.requires.remain c.octets_at-n.ensures).0, c.args.self.short)

pub loop-left-init : goal.loop-left-init
loop-left-init c = (known_start c.args.self.counts.now c.id_size.ensures c.requires.some c.requires.remain c.octets_at-n.ensures).1

pub octets_at-requires : goal.octets_at-requires
octets_at-requires c = known_there c.args.self.counts.now c.loop-left-test.true c.loop-left.invariant.remain

pub overflow_add-at-in-loop-left : goal.overflow_add-at-in-loop-left
overflow_add-at-in-loop-left c =
    let next = known_next c.args.self.counts.now c.id_size.ensures c.loop-left.invariant c.loop-left-test.true (sym c.if-octets_at-n.false ∙ c.octets_at.ensures) in
    omega (arith, next.0, c.args.self.short)

pub loop-left-preserved : goal.loop-left-preserved
loop-left-preserved c = (known_next c.args.self.counts.now c.id_size.ensures c.loop-left.invariant c.loop-left-test.true (sym c.if-octets_at-n.false ∙ c.octets_at.ensures)).1
