-- What the calls that write MP_REACH_NLRI and MP_UNREACH_NLRI answer.
use Rattle.std.specs.Prelude.{ℕ, ◌+◌, List, Result, Err}
use Rattle.wire.specs.Choice.{pick}
use Rattle.wire.specs.declared.refusal.Refusal.{Refusal}
use Rattle.wire.specs.declared.refusal.Refusal.TheVariants.{NextHopLength}
use Rattle.families.specs.Family.{max_of}
use Rattle.families.specs.declared.Afi.TheVariants.{Ipv6}
use Rattle.families.specs.declared.Form.{Form}
use Rattle.route_bytes.specs.Encode.{bytes_of}
use Rattle.route_writer.specs.Promises.{write_after}
use Rattle.mp_nlri.specs.Value.{is_hop_size, hop_start}

-- the bytes of rows as IPv6 routes
abbrev pub route_bytes : List ℕ → Form → List ℕ
route_bytes rows form = bytes_of rows (max_of Ipv6) form

-- after a next hop of so many bytes: 18; then 14 row by row, 1 over the whole value, and 11 last
unfoldable pub write_reach : ℕ → List ℕ → Form → ℕ → Result ℕ Refusal
write_reach hop rows form places = pick (is_hop_size hop) (write_after (hop_start + hop + 1) rows (max_of Ipv6) form places) (Err NextHopLength)

-- the same without 18
abbrev pub write_unreach : List ℕ → Form → ℕ → Result ℕ Refusal
write_unreach rows form places = write_after 3 rows (max_of Ipv6) form places
