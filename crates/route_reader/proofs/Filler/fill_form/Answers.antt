use mathlib.Core.Path.{sym, ap, ◌∙◌}
use native.Mathlib.Omega.{arith}
use Rattle.wire.specs.Store.{laid}
use Rattle.wire.specs.Walk.{Reading, flat}
use Rattle.families.specs.Family.{max_of}
use Rattle.routes.specs.Prefix.{words}
use Rattle.routes.specs.List.{up_to, fixed}
use Rattle.routes.proofs.ListLaws.{no_mark, list_fixed}
use Rattle.routes.specs.declared.Row.{Row}
use Rattle.route_reader.proofs.FillLaws.{held_start, held_done, fitting_form, front_there, turn_form}
use Rattle.route_reader.proofs.Filler.fill_form.Goals as goal

pub loop-n-init : goal.loop-n-init
loop-n-init g c =
    let a = c.args in
    let max = max_of g.A.Address.afi in
    held_start max (fixed a.form) a.form a.s.now a.store.now (fitting_form a.s.now max a.form a.store.now c.requires)

pub bounds-rest-n : goal.bounds-rest-n
bounds-rest-n g c =
    let a = c.args in
    let there = front_there (max_of g.A.Address.afi) a.form a.s.now a.store.now c.loop-n.rest.now c.loop-n.n c.loop-n.to c.loop-n.store c.loop-n.invariant c.loop-n-test.true in
    omega (arith, c.id_size-k.ensures, there)

pub put_head-requires : goal.put_head-requires
put_head-requires g c =
    let item = turn_form g.A.Address.afi c.args.self.now.family c.loop-n.invariant c.loop-n-test.true c.id_size-k.ensures c.after-next.ensures in
    record { to_in_bounds = (omega (arith, item.room), omega arith); form_in_bounds = item.front }

pub slice_bounds-rest-count : goal.slice_bounds-rest-count
slice_bounds-rest-count g c =
    let item = turn_form g.A.Address.afi c.args.self.now.family c.loop-n.invariant c.loop-n-test.true c.id_size-k.ensures c.after-next.ensures in
    omega (arith, item.inside)

pub slice_bounds-rest-start : goal.slice_bounds-rest-start
slice_bounds-rest-start g c =
    let item = turn_form g.A.Address.afi c.args.self.now.family c.loop-n.invariant c.loop-n-test.true c.id_size-k.ensures c.after-next.ensures in
    omega (arith, item.inside)

pub put-requires : goal.put-requires
put-requires g c =
    let item = turn_form g.A.Address.afi c.args.self.now.family c.loop-n.invariant c.loop-n-test.true c.id_size-k.ensures (c.from-n.ensures ∙ c.after-next.ensures) in
    record { to_in_bounds = item.more _ _ c.put_head.ensures; octets = item.spot }

pub loop-n-preserved : goal.loop-n-preserved
loop-n-preserved g c =
    let item = turn_form g.A.Address.afi c.args.self.now.family c.loop-n.invariant c.loop-n-test.true c.id_size-k.ensures (c.from-n.ensures ∙ c.after-next.ensures) in
    item.next 0 (no_mark c.args.form) _ _ c.put_head.ensures c.put.ensures

pub returns : goal.returns
returns g c =
    let a = c.args in
    let max = max_of g.A.Address.afi in
    held_done max (fixed a.form) a.form a.s.now a.store.now c.loop-n.rest.now c.loop-n.n a.form c.loop-n.to c.loop-n.store c.loop-n.invariant c.loop-n-test.false
    ∙ ap (λ (r : Reading Row). laid a.store.now 0 (flat words r.rows)) (sym (list_fixed (up_to max) a.s.now a.form))
