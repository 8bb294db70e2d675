-- The fields of every answer of the module message are of 16 bits.
-- Assumes nothing.
use Prim.Native.Nat.{ℕ, ◌≤◌}
use mathlib.Core.List.{List}
use native.Mathlib.Nat.{min-le_left}
use native.Mathlib.Omega.{arith}
use lib.ListN.{length}
use lib.Dec.{eqb}
use Rattle.std.specs.Prelude.{Ok}
use Rattle.wire.specs.Answer.{count_meaning}
use Rattle.wire.proofs.ChoiceLaws.{pick_any}
use Rattle.messages.specs.Header.{message_of, strict_of, accepted, accepted_whole, limit_of, message_limit, kind_number, kind_of, claimed_of, crate_limit, open_kind, keepalive_kind, route_refresh_kind, extended_limit}
use Rattle.messages.proofs.HeaderLaws.{message_cases, strict_cases}
use Rattle.messages.specs.Written.{write_message}
use Rattle.messages.proofs.WrittenLaws.{most_small, written_fit}
use Rattle.messages.specs.declared.Edition.{Edition}
use Rattle.messages.specs.declared.Edition.TheVariants.{Rfc4271, Rfc8654}
use Rattle.messages.specs.declared.Message.{Message}
use Rattle.messages.specs.declared.kind.Kind.{Kind}
use Rattle.messages.specs.declared.kind.Kind.TheVariants as K
use Rattle.words.specs.Word.{in_fields, Narrow}
use Rattle.words.proofs.FlagLaws.{flag_small}
use Rattle.words.proofs.WordLaws.{refused_narrow}
use Rattle.firmware.specs.Fields.{message_fields}
use Rattle.firmware.proofs.Bounds.{count_narrow}

kind_low : (kind : Kind) → kind_number kind ≤ route_refresh_kind
kind_low K.Open = omega arith
kind_low K.Update = omega arith
kind_low K.Notification = omega arith
kind_low K.Keepalive = omega arith
kind_low K.RouteRefresh = omega arith

crate_small : (kind : ℕ) → crate_limit kind ≤ extended_limit
unfolding crate_limit
crate_small kind =
    let Fine : ℕ → Type 0 = λ n. n ≤ extended_limit in
    pick_any Fine (eqb kind open_kind) message_limit _ (omega arith) (pick_any Fine (eqb kind keepalive_kind) message_limit extended_limit (omega arith) (omega arith))

edition_small : (edition : Edition) → limit_of edition ≤ extended_limit
edition_small Rfc4271 = omega arith
edition_small Rfc8654 = omega arith

message_by : (m : Message) → m.claimed ≤ extended_limit → m.taken ≤ m.claimed → Narrow (message_fields (Ok m))
message_by m short within = record {
  a = omega (arith, short);
  b = omega (arith, short, within);
  c = omega (arith, kind_low m.kind, flag_small m.marker, flag_small m.cut, flag_small m.trailing);
}

module _ (s : List ℕ) where
  pub message_narrow : Narrow (message_fields (message_of s))
  message_narrow =
      message_cases s (λ a. Narrow (message_fields a)) (λ r. refused_narrow _)
      (λ h. message_by (accepted s) (omega (arith, h.short, crate_small (kind_of s))) (min-le_left (claimed_of s) (length s)))

  pub strict_narrow : (edition : Edition) → Narrow (message_fields (strict_of edition s))
  strict_narrow edition =
      strict_cases s (λ a. Narrow (message_fields a)) (λ r. refused_narrow _) (limit_of edition)
      (λ h. message_by (accepted_whole s) (omega (arith, h.within, edition_small edition)) (omega arith))

pub write_message_narrow : (kind : ℕ) (body : List ℕ) (places : ℕ) → Narrow (in_fields (count_meaning (write_message kind body places)))
write_message_narrow kind body places =
    count_narrow (write_message kind body places) (λ n e. (let h = written_fit kind body places n e in omega (arith, h.size, h.most, most_small kind)))
