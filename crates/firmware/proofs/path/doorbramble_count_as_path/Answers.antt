use Rattle.firmware.proofs.PathBounds.{count_path_narrow}
use Rattle.firmware.proofs.path.doorbramble_count_as_path.Goals as goal

pub path_word-requires : goal.path_word-requires
path_word-requires c = rw c.count_as_path.ensures (count_path_narrow _ c.asn_length_of.result _)
