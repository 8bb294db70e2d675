-- What writing a path answers and leaves.
use Rattle.std.specs.Prelude.{ℕ, List, length, Result, Err}
use Rattle.wire.specs.Answer.{filled, count_meaning, limited}
use Rattle.wire.specs.Choice.{pick}
use Rattle.wire.specs.Refusal.{list_limit}
use Rattle.wire.specs.Verdict.{answer_by}
use Rattle.wire.specs.declared.refusal.Refusal.{Refusal}
use Rattle.wire.specs.declared.refusal.Refusal.TheVariants.{NotWritable}
use Rattle.paths.specs.Segment.{Rule}
use Rattle.path_writer.specs.Write.{adds_up, lent_path, path_bytes}

-- the bytes of what is lent
unfoldable pub lent_bytes : Rule → ℕ → List ℕ → List ℕ → List ℕ
lent_bytes rule w pairs numbers = path_bytes w (lent_path rule w pairs numbers).rows

-- 14 first; then the verdict on the segments; then 1 and 11 by the size
unfoldable pub encode_answer : Rule → ℕ → List ℕ → List ℕ → ℕ → Result ℕ Refusal
encode_answer rule w pairs numbers places =
    pick (adds_up pairs (length numbers))
    (answer_by (lent_path rule w pairs numbers).verdict (limited list_limit (length (lent_bytes rule w pairs numbers)) places) Err)
    (Err NotWritable)

-- the output afterwards
unfoldable pub encode_left : Rule → ℕ → List ℕ → List ℕ → List ℕ → List ℕ
encode_left rule w pairs numbers out = filled (count_meaning (encode_answer rule w pairs numbers (length out))) (lent_bytes rule w pairs numbers) out
