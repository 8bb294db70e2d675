use Rattle.std.proofs.Common.{◌∙◌}
use Rattle.copies.proofs.Fronts.{front_all, front_past, front_none}
use Rattle.copies.proofs.to_front.Goals as goal
use Rattle.copies.proofs.to_front.Goals.{else-end-bytes-via-then-end-bytes+else-at-end, else-end-bytes-via-else-end-bytes}

pub returns-then-at-end : goal.returns-then-at-end
returns-then-at-end c = c.copy_within.ensures.after ∙ front_all c.args.bytes.now c.args.at c.args.end c.if-at-end.true c.if-end-bytes.true

pub returns-else-end-bytes : goal.returns-else-end-bytes
returns-else-end-bytes c =
    elim c.else-end-bytes.branch [
      | else-end-bytes-via-then-end-bytes+else-at-end w ↦ front_none c.args.bytes.now c.args.at c.args.end w.if-end-bytes.true w.if-at-end.false
      | else-end-bytes-via-else-end-bytes w ↦ front_past c.args.bytes.now c.args.at c.args.end w.if-end-bytes.false
    ]
