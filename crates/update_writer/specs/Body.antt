-- An UPDATE body to write. RFC 4271 section 4.3: a two-octet length and the withdrawn routes, a two-octet length and the path attributes, and
-- the announced routes.
use Rattle.std.specs.Prelude.{ℕ, ◌+◌, List, ◌++◌, length, ltb, Result, Ok, Err}
use Rattle.wire.specs.Answer.{limited}
use Rattle.wire.specs.Choice.{pick}
use Rattle.wire.specs.Number.{to_be}
use Rattle.wire.specs.Refusal.{list_limit, body_limit}
use Rattle.families.specs.Family.{max_of}
use Rattle.families.specs.declared.Afi.TheVariants.{Ipv4}
use Rattle.families.specs.declared.Form.{Form}
use Rattle.route_bytes.specs.Encode.{bytes_of}
use Rattle.route_bytes.specs.Promises.{measured}
use Rattle.updates.specs.Body.{length_size}
use Rattle.wire.specs.declared.refusal.Refusal.{Refusal}
use Rattle.wire.specs.declared.refusal.Refusal.TheVariants.{TooLong}

-- the three sections, one after another
unfoldable pub sections : List ℕ → List ℕ → List ℕ → List ℕ
sections withdrawn attributes announced = to_be length_size (length withdrawn) ++ (withdrawn ++ (to_be length_size (length attributes) ++ (attributes ++ announced)))

-- of rows to withdraw, attributes and rows to announce
unfoldable pub body_bytes : List ℕ → List ℕ → List ℕ → Form → List ℕ
body_bytes withdrawn attributes announced form = sections (bytes_of withdrawn (max_of Ipv4) form) attributes (bytes_of announced (max_of Ipv4) form)

-- the size of a body whose sections have these sizes
abbrev pub body_size : ℕ → ℕ → ℕ → ℕ
body_size withdrawn attributes announced = length_size + withdrawn + length_size + attributes + announced

-- 1 for the withdrawn section, for the attributes and for all of it, then 11 where an output has fewer places
unfoldable pub body_sized : ℕ → ℕ → ℕ → ℕ → Result ℕ Refusal
body_sized withdrawn attributes announced places =
    pick (ltb list_limit withdrawn) (Err TooLong)
    (pick (ltb list_limit attributes) (Err TooLong)
    (limited body_limit (body_size withdrawn attributes announced) places))

-- 14 in either list comes first, in the withdrawn one before the other
abbrev pub if_writable : Result ℕ Refusal → (ℕ → Result ℕ Refusal) → Result ℕ Refusal
if_writable (Ok n) next = next n
if_writable (Err r) next = Err r

unfoldable pub body_answer : List ℕ → List ℕ → List ℕ → Form → ℕ → Result ℕ Refusal
body_answer withdrawn attributes announced form places =
    if_writable (measured withdrawn (max_of Ipv4) form) (λ w.
    if_writable (measured announced (max_of Ipv4) form) (λ a.
    body_sized w (length attributes) a places))
