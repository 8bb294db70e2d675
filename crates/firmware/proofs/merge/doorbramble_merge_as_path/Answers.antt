use Rattle.firmware.proofs.MergeBounds.{merge_narrow}
use Rattle.firmware.proofs.merge.doorbramble_merge_as_path.Goals as goal

pub path_word-requires : goal.path_word-requires
path_word-requires c = rw c.merge_as_path.ensures.answer (merge_narrow _ _ _ _ _ _)
