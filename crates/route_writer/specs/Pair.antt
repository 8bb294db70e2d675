-- What the call on two lists answers and leaves: both are written, with bytes before and between them, or nothing is.
use Rattle.std.specs.Prelude.{ℕ, ◌+◌, List, [], ◌∷◌, get_or, ltb, Result, Ok, Err}
use Rattle.wire.specs.Answer.{Answer, given, refusal, meaning_of}
use Rattle.wire.specs.Choice.{pick}
use Rattle.wire.specs.Refusal.{list_limit}
use Rattle.wire.specs.Store.{laid}
use Rattle.wire.specs.declared.refusal.Refusal.{Refusal}
use Rattle.wire.specs.declared.refusal.Refusal.TheVariants.{TooLong, NoRoom}
use Rattle.families.specs.declared.Form.{Form}
use Rattle.route_bytes.specs.Promises.{measured}
use Rattle.route_writer.specs.declared.Lists.{Lists}

-- two lists as document 01 has them: the bytes of each
abbrev pub lists_meaning : Result Lists Refusal → Answer
lists_meaning = meaning_of (λ sizes. sizes.first ∷ sizes.second ∷ [])

-- where the second list ends
abbrev pub write_pair_end : ℕ → ℕ → ℕ → ℕ → ℕ
write_pair_end start between first second = start + first + between + second

-- lists of these sizes: 1 for a list, 1 for all of it, then 11 where an output has fewer places
unfoldable pub write_pair_sized : ℕ → ℕ → ℕ → ℕ → ℕ → ℕ → Result Lists Refusal
write_pair_sized start between most places first second =
    pick (ltb list_limit first) (Err TooLong)
    (pick (ltb list_limit second) (Err TooLong)
    (pick (ltb most (write_pair_end start between first second)) (Err TooLong)
    (pick (ltb places (write_pair_end start between first second)) (Err NoRoom)
    (Ok (record { first = first; second = second })))))

-- 14 in either list comes first, in the first before the second
abbrev pub if_both : Result ℕ Refusal → Result ℕ Refusal → (ℕ → ℕ → Result Lists Refusal) → Result Lists Refusal
if_both (Ok a) (Ok b) next = next a b
if_both (Ok a) (Err r) next = Err r
if_both (Err r) second next = Err r

unfoldable pub write_pair_answer : List ℕ → List ℕ → ℕ → Form → ℕ → ℕ → ℕ → ℕ → Result Lists Refusal
write_pair_answer first second max form start between most places =
    if_both (measured first max form) (measured second max form) (write_pair_sized start between most places)

-- the output afterwards, by the answer: the first list's bytes at `start`, the second's `between` bytes after them
abbrev pub write_pair_after : Answer → ℕ → ℕ → List ℕ → List ℕ → List ℕ → List ℕ
write_pair_after (given sizes) start between first second out = laid (laid out start first) (start + get_or sizes 0 0 + between) second
write_pair_after (refusal n) start between first second out = out
