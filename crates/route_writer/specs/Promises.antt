-- What the call that writes rows answers and leaves, from the writing of them and the bytes that `Encode` of route_bytes defines.
use Rattle.std.specs.Prelude.{ℕ, ◌+◌, List, length, Result, Err}
use Rattle.wire.specs.Answer.{Answer, given, refusal, filled, count_meaning, limited}
use Rattle.wire.specs.Refusal.{list_limit}
use Rattle.wire.specs.Store.{laid}
use Rattle.wire.specs.Verdict.{answer_by}
use Rattle.wire.specs.declared.refusal.Refusal.{Refusal}
use Rattle.families.specs.declared.Form.{Form}
use Rattle.route_bytes.specs.Encode.{writing, bytes_of}

-- into an output of so many places: 14 row by row, then 1, and 11 last
unfoldable pub write_answer : List ℕ → ℕ → Form → ℕ → Result ℕ Refusal
write_answer ws max form places = answer_by (writing ws max form).verdict (limited list_limit (length (bytes_of ws max form)) places) Err

-- the output afterwards: the bytes from its front where they were written, and else as it was
unfoldable pub out_after : List ℕ → ℕ → Form → List ℕ → List ℕ
out_after ws max form out = filled (count_meaning (write_answer ws max form (length out))) (bytes_of ws max form) out

-- ---- as the end of a value, after so many bytes of it

-- 1 is over all of them, and all of them are the answer
unfoldable pub write_after : ℕ → List ℕ → ℕ → Form → ℕ → Result ℕ Refusal
write_after before ws max form places = answer_by (writing ws max form).verdict (limited list_limit (before + length (bytes_of ws max form)) places) Err

abbrev pub filled_after : Answer → ℕ → List ℕ → List ℕ → List ℕ
filled_after (given values) before bytes out = laid out before bytes
filled_after (refusal n) before bytes out = out
