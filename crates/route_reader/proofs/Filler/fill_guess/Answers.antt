use Prim.Native.Nat.{◌≤◌}
use native.Mathlib.Omega.{arith}
use Rattle.families.specs.Family.{max_of}
use Rattle.families.proofs.FamilyLaws.{guess_mark_small}
use Rattle.families.specs.declared.AddPath.TheVariants.{Guess}
use Rattle.families.specs.declared.Form.TheVariants.{Plain}
use Rattle.routes.specs.List.{list_by}
use Rattle.route_reader.proofs.FillLaws.{held_start, held_done, turn_taken, step_never}
use Rattle.route_reader.proofs.Filler.fill_guess.Goals as goal

pub loop-n-init : goal.loop-n-init
unfolding list_by
loop-n-init g c = held_start (max_of g.A.Address.afi) Guess Plain c.args.s.now c.args.store.now c.requires

pub returns-in_default : goal.returns-in_default
returns-in_default g c = absurd (step_never g.A.Address.afi Guess c.args.self.now.family c.loop-n.invariant c.loop-n-test.true _ c.in_default.ensures)

pub put_head-requires : goal.put_head-requires
put_head-requires g c =
    let item = (turn_taken g.A.Address.afi Guess c.args.self.now.family c.loop-n.invariant c.in-Ok.ensures _ c.id_size-b.ensures).1 in
    let small : c.guess_mark.result ≤ 512 = rw c.guess_mark.ensures (guess_mark_small Guess c.in-Ok.item.form) in
    record { to_in_bounds = (omega (arith, item.room), small); form_in_bounds = item.front }

pub slice_bounds-rest-count : goal.slice_bounds-rest-count
slice_bounds-rest-count g c =
    let item = turn_taken g.A.Address.afi Guess c.args.self.now.family c.loop-n.invariant c.in-Ok.ensures _ c.id_size-b.ensures in
    omega (arith, item.1.inside)

pub slice_bounds-rest-start : goal.slice_bounds-rest-start
slice_bounds-rest-start g c =
    let item = turn_taken g.A.Address.afi Guess c.args.self.now.family c.loop-n.invariant c.in-Ok.ensures _ c.id_size-b.ensures in
    omega (arith, item.1.inside)

pub overflow_sub-n : goal.overflow_sub-n
overflow_sub-n g c = (turn_taken g.A.Address.afi Guess c.args.self.now.family c.loop-n.invariant c.in-Ok.ensures _ c.id_size-b.ensures).0

pub put-requires : goal.put-requires
put-requires g c =
    let item = (turn_taken g.A.Address.afi Guess c.args.self.now.family c.loop-n.invariant c.in-Ok.ensures _ c.id_size-b.ensures).1 in
    record { to_in_bounds = item.more _ _ c.put_head.ensures; octets = item.spot }

pub loop-n-preserved : goal.loop-n-preserved
loop-n-preserved g c =
    let item = (turn_taken g.A.Address.afi Guess c.args.self.now.family c.loop-n.invariant c.in-Ok.ensures _ c.id_size-b.ensures).1 in
    item.next _ c.guess_mark.ensures _ _ c.put_head.ensures c.put.ensures

pub returns : goal.returns
unfolding list_by
returns g c =
    let a = c.args in
    held_done (max_of g.A.Address.afi) Guess Plain a.s.now a.store.now c.loop-n.rest.now c.loop-n.n c.loop-n.form c.loop-n.to c.loop-n.store c.loop-n.invariant c.loop-n-test.false
