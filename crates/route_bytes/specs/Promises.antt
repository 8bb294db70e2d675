-- What measuring answers, from the writing of a store of rows that `Encode` defines.
use Rattle.std.specs.Prelude.{ℕ, List, length, Result}
use Rattle.wire.specs.Verdict.{unless}
use Rattle.wire.specs.declared.refusal.Refusal.{Refusal}
use Rattle.families.specs.declared.Form.{Form}
use Rattle.route_bytes.specs.Encode.{writing, bytes_of}

-- 14 row by row, and else the bytes of all rows
unfoldable pub measured : List ℕ → ℕ → Form → Result ℕ Refusal
measured ws max form = unless (writing ws max form).verdict (length (bytes_of ws max form))
