use mathlib.Core.Path.{ap, ◌∙◌}
use Prim.Native.Nat.{ℕ, ◌-◌}
use native.Mathlib.Omega.{arith}
use lib.ListN.{length, get_or, length-set}
use Rattle.wire.proofs.StoreLaws.{length_laid}
use Rattle.route_writer.proofs.Ahead.{head_length, head_laid}
use Rattle.route_writer.specs.Private.{row_at, head_bytes}
use Rattle.route_writer.proofs.put_head.Goals as goal

pub put_id-requires : goal.put_id-requires
put_id-requires c = (omega arith, rw length-set (omega (arith, c.id_size.ensures)))

pub returns : goal.returns
returns c =
    let a = c.args in
    let len = ap (λ (x : ℕ). get_or a.rows.now a.at 0 - x) c.mark_of.ensures in
    record {
      length = len;
      out = c.put_id.ensures ∙ head_laid a.form (row_at a.rows.now a.at) a.out.now a.to c.id_size.result _ c.id_size.ensures len c.requires.at_in_bounds.1;
    }

pub shape_of-out : goal.shape_of-out
shape_of-out c =
    let a = c.args in
    ap length (returns c).out ∙ length_laid a.out.now a.to (head_bytes a.form (row_at a.rows.now a.at)) (omega (arith, head_length a.form (row_at a.rows.now a.at), c.requires.at_in_bounds.1))
