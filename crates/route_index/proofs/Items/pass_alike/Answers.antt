use Prim.Native.Nat.{◌+◌, ◌-◌}
use native.Mathlib.Omega.{arith}
use mathlib.Core.Path.{◌≡◌, sym, ◌∙◌}
use Rattle.route_index.proofs.SkipLaws.{first_fits, alike_start, alike_there, alike_step}
use Rattle.route_index.proofs.Items.pass_alike.Goals as goal

pub overflow_sub-n : goal.overflow_sub-n
overflow_sub-n c = omega (arith, first_fits c.requires, c.id_size.ensures)

pub overflow_sub-n-2 : goal.overflow_sub-n-2
overflow_sub-n-2 c = omega (arith, first_fits c.requires, c.id_size.ensures)

pub overflow_mul-most : goal.overflow_mul-most
overflow_mul-most c = omega (arith, first_fits c.requires, c.args.self.short)

pub overflow_add-from : goal.overflow_add-from
overflow_add-from c = omega (arith, first_fits c.requires, c.args.self.short)

pub overflow_sub-last : goal.overflow_sub-last
overflow_sub-last c = omega (arith, (alike_start c.requires c.id_size.ensures c.min.ensures).0)

pub overflow_add-at : goal.overflow_add-at
overflow_add-at c = omega (arith, first_fits c.requires, c.args.self.short)

pub loop-at-init : goal.loop-at-init
loop-at-init c = (omega (arith, c.requires.some), (alike_start c.requires c.id_size.ensures c.min.ensures).1)

pub octets_at-requires : goal.octets_at-requires
octets_at-requires c = (alike_there c.loop-at.invariant.1 c.loop-at-test.true).0

pub overflow_add-passed : goal.overflow_add-passed
overflow_add-passed c = omega (arith, (alike_there c.loop-at.invariant.1 c.loop-at-test.true).2)

pub loop-at-preserved : goal.loop-at-preserved
loop-at-preserved c =
    let there = alike_there c.loop-at.invariant.1 c.loop-at-test.true in
    let one_less : c.args.most - c.loop-at.passed - 1 ≡ c.args.most - (c.loop-at.passed + 1) = omega arith in
    (omega (arith, there.2), rw (← one_less) (alike_step c.loop-at.invariant.1 c.loop-at-test.true (sym c.if-octets_at-n.false ∙ c.octets_at.ensures)))
