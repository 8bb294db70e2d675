use mathlib.Core.Path.{refl, sym, ◌∙◌}
use Rattle.routes.proofs.PrefixLaws.{passed}
use Rattle.mp_nlri.proofs.ValueLaws.{pair_good, head_refused, head_cut, head_other, head_short, head_by}
use Rattle.mp_nlri.proofs.mp_reach_head.Goals as goal

pub returns-in_err-check_pair : goal.returns-in_err-check_pair
returns-in_err-check_pair c = passed _ _ c.from_residual.ensures.1 ∙ head_refused _ _ c.in_err-check_pair.ensures

pub returns-then-value-lt-NEXT_HOP_OFFSET : goal.returns-then-value-lt-NEXT_HOP_OFFSET
returns-then-value-lt-NEXT_HOP_OFFSET c = head_cut _ (pair_good _ c.in_ok-check_pair.ensures) c.if-value-lt-NEXT_HOP_OFFSET.true

pub returns-then-not-is_hop_size : goal.returns-then-not-is_hop_size
returns-then-not-is_hop_size c = head_other _ (pair_good _ c.in_ok-check_pair.ensures) c.if-value-lt-NEXT_HOP_OFFSET.false _ c.from-next_hop.ensures c.if-not-is_hop_size.ensures

pub returns-then-value-end : goal.returns-then-value-end
returns-then-value-end c =
    head_short _ (pair_good _ c.in_ok-check_pair.ensures) c.if-value-lt-NEXT_HOP_OFFSET.false _ c.from-next_hop.ensures c.if-not-is_hop_size.ensures c.if-value-end.true

pub returns : goal.returns
returns c =
    let size = c.if-not-is_hop_size.ensures in
    sym (head_by _ _ _ (record { paired = pair_good _ c.in_ok-check_pair.ensures; told = c.from-next_hop.ensures; sized = sym size; whole = c.if-value-end.false; flagged = refl }))
