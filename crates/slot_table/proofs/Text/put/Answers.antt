use Rattle.std.proofs.Common.{refl, ◌∙◌}
use Rattle.wire.proofs.StoreLaws.{placed_fits}
use Rattle.slot_table.proofs.Text.put.Goals as goal

pub returns : goal.returns
returns c =
    let text = c.args.self.now in
    record { grown = c.copy_at.ensures ∙ placed_fits text.out.now text.at c.args.piece.now c.requires; at = refl; room = c.requires; same = refl }
