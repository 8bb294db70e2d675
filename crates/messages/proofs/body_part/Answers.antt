use mathlib.Core.Path.{refl}
use Prim.Native.Nat.{◌≤◌}
use lib.ListN.{length}
use Rattle.wire.proofs.ExtentLaws.{empty_part}
use Rattle.messages.specs.Header.{header_size}
use Rattle.messages.proofs.body_part.Goals as goal

pub slice_bounds-result-count : goal.slice_bounds-result-count
slice_bounds-result-count c =
    let fits : (header_size ≤ c.in-Ok.message.taken) × (c.in-Ok.message.taken ≤ length c.args.s.now) = rw c.in-Ok.is at c.requires in
    fits.0

pub slice_bounds-result-start : goal.slice_bounds-result-start
slice_bounds-result-start c =
    let fits : (header_size ≤ c.in-Ok.message.taken) × (c.in-Ok.message.taken ≤ length c.args.s.now) = rw c.in-Ok.is at c.requires in
    fits.0

pub slice_bounds-result-end : goal.slice_bounds-result-end
slice_bounds-result-end c =
    let fits : (header_size ≤ c.in-Ok.message.taken) × (c.in-Ok.message.taken ≤ length c.args.s.now) = rw c.in-Ok.is at c.requires in
    fits.1

pub returns-in-Ok : goal.returns-in-Ok
returns-in-Ok c = rw c.in-Ok.is (record { holds = refl; lies = refl })

pub returns-in-Err : goal.returns-in-Err
returns-in-Err c = rw c.in-Err.is (empty_part c.args.s _ refl refl)
