-- The message header. RFC 4271 section 4.1: sixteen octets of marker, two of length, header and all, and one of type.
use Rattle.std.specs.Prelude.{ℕ, ◌-◌, ◌≤◌, ◌<◌, min, ◌≡◌, List, [], ◌∷◌, Bool, true, false, not, ◌⊎◌, length, get_or, take, ltb, eqb, Result, Ok, Err, codes}
use Rattle.wire.specs.Answer.{Answer, value_in, flag, handed, meaning_of}
use Rattle.wire.specs.Choice.{pick}
use Rattle.wire.specs.Extent.{Extent, extent}
use Rattle.wire.specs.Number.{be_at}
use Rattle.wire.specs.declared.refusal.Refusal.{Refusal}
use Rattle.wire.specs.declared.refusal.Refusal.TheVariants.{Truncated, MessageLength, MessageType, ShortBody, BadMarker}
use Rattle.messages.specs.declared.Edition.{Edition}
use Rattle.messages.specs.declared.Edition.TheVariants.{Rfc4271, Rfc8654}
use Rattle.messages.specs.declared.Message.{Message}
use Rattle.messages.specs.declared.kind.Kind.{Kind}
use Rattle.messages.specs.declared.kind.Kind.TheVariants.{Open, Update, Notification, Keepalive, RouteRefresh}

-- ---- the types (RFC 4271 section 4.1, RFC 2918 section 3)

abbrev pub open_kind : ℕ
open_kind = 1

abbrev pub update_kind : ℕ
update_kind = 2

abbrev pub notification_kind : ℕ
notification_kind = 3

abbrev pub keepalive_kind : ℕ
keepalive_kind = 4

abbrev pub route_refresh_kind : ℕ
route_refresh_kind = 5

abbrev pub kind_number : Kind → ℕ
kind_number Open = open_kind
kind_number Update = update_kind
kind_number Notification = notification_kind
kind_number Keepalive = keepalive_kind
kind_number RouteRefresh = route_refresh_kind

-- the type that a number names, which is one of these
unfoldable pub kind_named : ℕ → Kind
kind_named number =
    pick (eqb number open_kind) Open
    (pick (eqb number update_kind) Update
    (pick (eqb number notification_kind) Notification
    (pick (eqb number keepalive_kind) Keepalive RouteRefresh)))

-- its name, as it prints
abbrev pub kind_text : Kind → List ℕ
kind_text Open = codes "OPEN"
kind_text Update = codes "UPDATE"
kind_text Notification = codes "NOTIFICATION"
kind_text Keepalive = codes "KEEPALIVE"
kind_text RouteRefresh = codes "ROUTE-REFRESH"

-- ---- a message as document 01 has it: type, claimed, taken, and the flags marker, cut and trailing

abbrev pub message_values : Message → List ℕ
message_values m = kind_number m.kind ∷ m.claimed ∷ m.taken ∷ flag m.marker ∷ flag m.cut ∷ flag m.trailing ∷ []

abbrev pub message_meaning : Result Message Refusal → Answer
message_meaning = meaning_of message_values

-- ---- sizes and limits

abbrev pub marker_size : ℕ
marker_size = 16

abbrev pub header_size : ℕ
header_size = 19

-- where the type stands
abbrev pub kind_place : ℕ
kind_place = 18

-- the most octets of a message: RFC 4271 section 4.1, and RFC 8654 section 4 where both ends agreed on long ones
abbrev pub message_limit : ℕ
message_limit = 4096

abbrev pub extended_limit : ℕ
extended_limit = 65535

-- the most that an edition of the strict reading lets a message claim, whatever its type
abbrev pub limit_of : Edition → ℕ
limit_of Rfc4271 = message_limit
limit_of Rfc8654 = extended_limit

-- the most that the crate takes of a type: OPEN and KEEPALIVE are never long (RFC 8654 section 4)
unfoldable pub crate_limit : ℕ → ℕ
crate_limit kind = pick (eqb kind open_kind) message_limit (pick (eqb kind keepalive_kind) message_limit extended_limit)

-- the fewest of a type: the header and what its body always has (RFC 4271 sections 4.2 to 4.5, RFC 2918 section 3)
unfoldable pub least_length : ℕ → ℕ
least_length kind =
    pick (eqb kind open_kind) 29
    (pick (eqb kind update_kind) 23
    (pick (eqb kind notification_kind) 21
    (pick (eqb kind route_refresh_kind) 23 header_size)))

-- the most of a type under any edition: a KEEPALIVE is a header (RFC 4271 section 4.4)
unfoldable pub most_length : ℕ → ℕ
most_length kind = pick (eqb kind keepalive_kind) header_size (crate_limit kind)

-- ---- tests

-- under lo or over hi
unfoldable pub is_outside : ℕ → ℕ → ℕ → Bool
is_outside lo hi n = pick (ltb n lo) true (ltb hi n)

-- not 1 to 5
unfoldable pub is_unknown : ℕ → Bool
is_unknown kind = is_outside open_kind route_refresh_kind kind

-- the type of that number, or 4
unfoldable pub kind_read : ℕ → Result Kind Refusal
kind_read number = pick (is_unknown number) (Err MessageType) (Ok (kind_named number))

-- all ones
unfoldable pub all_ff : List ℕ → Bool
all_ff [] = true
all_ff (b ∷ s) = pick (eqb b 255) (all_ff s) false

-- ---- the fields

abbrev pub marker_of : List ℕ → List ℕ
marker_of s = take marker_size s

abbrev pub claimed_of : List ℕ → ℕ
claimed_of s = be_at s marker_size 2

abbrev pub kind_of : List ℕ → ℕ
kind_of s = get_or s kind_place 0

-- ---- the readings

-- what the crate takes is the smaller of what the message claims and what there is
abbrev pub taken_of : List ℕ → ℕ
taken_of s = min (claimed_of s) (length s)

-- a message that the crate accepts, and one that the strict reading does
abbrev pub accepted : List ℕ → Message
accepted s = record {
  kind = kind_named (kind_of s);
  claimed = claimed_of s;
  taken = taken_of s;
  marker = not (all_ff (marker_of s));
  cut = ltb (length s) (claimed_of s);
  trailing = ltb (claimed_of s) (length s);
}

abbrev pub accepted_whole : List ℕ → Message
accepted_whole s = record {
  kind = kind_named (kind_of s);
  claimed = claimed_of s;
  taken = claimed_of s;
  marker = false;
  cut = false;
  trailing = ltb (claimed_of s) (length s);
}

-- the crate's reading
unfoldable pub message_of : List ℕ → Result Message Refusal
message_of s =
    pick (ltb (length s) header_size) (Err Truncated)
    (pick (ltb (claimed_of s) header_size) (Err MessageLength)
    (pick (is_unknown (kind_of s)) (Err MessageType)
    (pick (ltb (crate_limit (kind_of s)) (claimed_of s)) (Err MessageLength)
    (pick (ltb (length s - header_size) (taken_of s - header_size)) (Err ShortBody)
    (Ok (accepted s))))))

-- the strict reading, under a limit
unfoldable pub strict_within : ℕ → List ℕ → Result Message Refusal
strict_within limit s =
    pick (ltb (length s) header_size) (Err Truncated)
    (pick (not (all_ff (marker_of s))) (Err BadMarker)
    (pick (is_outside header_size limit (claimed_of s)) (Err MessageLength)
    (pick (is_unknown (kind_of s)) (Err MessageType)
    (pick (is_outside (least_length (kind_of s)) (most_length (kind_of s)) (claimed_of s)) (Err MessageLength)
    (pick (ltb (length s) (claimed_of s)) (Err Truncated)
    (Ok (accepted_whole s)))))))

-- and under an edition
abbrev pub strict_of : Edition → List ℕ → Result Message Refusal
strict_of edition s = strict_within (limit_of edition) s

-- ---- long messages (RFC 8654 section 4)

-- the types whose messages may be long
abbrev pub LongKind : ℕ → Type 0
LongKind kind = (kind ≡ update_kind) ⊎ ((kind ≡ notification_kind) ⊎ (kind ≡ route_refresh_kind))

-- one of such a type that claims over 4,096, has an all-FF marker and is all there
pub record LongMessage (s : List ℕ) : Type 0 where
  pub kind : LongKind (kind_of s)
  pub over : message_limit < claimed_of s
  pub ones : all_ff (marker_of s) ≡ true
  pub there : claimed_of s ≤ length s

-- ---- the body

-- what is taken past the header, and nothing where the message is refused
abbrev pub body_at : Result Message Refusal → Extent
body_at a = handed (message_meaning a) (extent header_size (value_in 2 (message_meaning a) - header_size))
