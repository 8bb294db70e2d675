use Rattle.firmware.proofs.PathBounds.{read_path_narrow}
use Rattle.firmware.proofs.path.doorbramble_parse_as_path_strict.Goals as goal

pub path_word-requires : goal.path_word-requires
path_word-requires c = rw c.parse_as_path.ensures.answer (read_path_narrow _ c.asn_length_of.result _ _ _)
