use Rattle.firmware.proofs.MergeBounds.{built_narrow}
use Rattle.firmware.proofs.merge.doorbramble_count_merged_as_path.Goals as goal

pub path_word-requires : goal.path_word-requires
path_word-requires c = rw c.count_merged_as_path.ensures (built_narrow _ _ _ _)
