-- A message to write: a type and a body under a header of an all-FF marker (RFC 4271 section 4.1).
use Rattle.std.specs.Prelude.{ℕ, ◌+◌, List, [], ◌∷◌, ◌++◌, length, replicate, ltb, Result, Ok, Err}
use Rattle.wire.specs.Answer.{filled, count_meaning}
use Rattle.wire.specs.Choice.{pick}
use Rattle.wire.specs.Number.{to_be}
use Rattle.messages.specs.Header.{header_size, marker_size, least_length, most_length, is_outside, is_unknown}
use Rattle.wire.specs.declared.refusal.Refusal.{Refusal}
use Rattle.wire.specs.declared.refusal.Refusal.TheVariants.{MessageType, MessageLength, NoRoom}

-- the header of a message of so many bytes
unfoldable pub header : ℕ → ℕ → List ℕ
header total kind = replicate marker_size 255 ++ (to_be 2 total ++ (kind ∷ []))

abbrev pub total_of : List ℕ → ℕ
total_of body = header_size + length body

unfoldable pub message_bytes : ℕ → List ℕ → List ℕ
message_bytes kind body = header (total_of body) kind ++ body

-- into an output of so many places: 4, 3, then 11
unfoldable pub write_message : ℕ → List ℕ → ℕ → Result ℕ Refusal
write_message kind body places =
    pick (is_unknown kind) (Err MessageType)
    (pick (is_outside (least_length kind) (most_length kind) (total_of body)) (Err MessageLength)
    (pick (ltb places (total_of body)) (Err NoRoom)
    (Ok (total_of body))))

-- the output afterwards: the message from its front where it was written, and else as it was
unfoldable pub message_after : ℕ → List ℕ → List ℕ → List ℕ
message_after kind body out = filled (count_meaning (write_message kind body (length out))) (message_bytes kind body) out
