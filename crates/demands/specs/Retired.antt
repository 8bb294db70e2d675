-- Refusal 5, which is never given (document 02, K10): document 01's reading of a message ends with a check of its body. Here stands the reading with that check, which
-- the calls have, and the reading without it. What is shown of them stands in proofs/Retired.antt: the check never fails.
-- Assumes nothing.
use Rattle.std.specs.Prelude.{ℕ, ◌-◌, List, Bool, length, ltb, Result, Ok, Err}
use Rattle.wire.specs.Choice.{pick}
use Rattle.wire.specs.declared.refusal.Refusal.{Refusal}
use Rattle.wire.specs.declared.refusal.Refusal.TheVariants.{Truncated, MessageLength, MessageType, ShortBody}
use Rattle.messages.specs.Header.{header_size, crate_limit, is_unknown, claimed_of, kind_of, taken_of, accepted}
use Rattle.messages.specs.declared.Message.{Message}

-- ---- the reading with the check

-- the body is what is taken past the header; the check fails where less than that was given there
abbrev pub lacks_body : List ℕ → Bool
lacks_body s = ltb (length s - header_size) (taken_of s - header_size)

-- document 01, "The message header", the crate reading, check by check
unfoldable pub checked_of : List ℕ → Result Message Refusal
checked_of s =
    pick (ltb (length s) header_size) (Err Truncated)
    (pick (ltb (claimed_of s) header_size) (Err MessageLength)
    (pick (is_unknown (kind_of s)) (Err MessageType)
    (pick (ltb (crate_limit (kind_of s)) (claimed_of s)) (Err MessageLength)
    (pick (lacks_body s) (Err ShortBody)
    (Ok (accepted s))))))

-- the same without the last check
unfoldable pub unchecked_of : List ℕ → Result Message Refusal
unchecked_of s =
    pick (ltb (length s) header_size) (Err Truncated)
    (pick (ltb (claimed_of s) header_size) (Err MessageLength)
    (pick (is_unknown (kind_of s)) (Err MessageType)
    (pick (ltb (crate_limit (kind_of s)) (claimed_of s)) (Err MessageLength)
    (Ok (accepted s)))))
