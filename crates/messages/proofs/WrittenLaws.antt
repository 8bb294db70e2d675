-- Laws of a message to write: its header as it is put, and what the output holds.
-- Assumes nothing.
use Prim.Native.Nat.{ℕ, ◌+◌, ◌*◌, ◌/◌, ◌%◌, ◌≤◌, ◌<◌}
use mathlib.Core.Path.{◌≡◌, refl, sym, ap, ap₂, ◌∙◌}
use mathlib.Core.List.{List, [], ◌∷◌, ◌++◌}
use mathlib.Core.Bool.{Bool, true, false}
use native.Mathlib.Omega.{arith}
use borrow.Author.Tests.{lt-ltb, le-ltb, ltb-false}
use lib.ListN.{length, take, drop, length-append}
use lib.Dec.{ltb, eqb}
use Rattle.std.specs.Prelude.{Result, Ok, Err}
use Rattle.wire.specs.Answer.{filled, count_meaning}
use Rattle.wire.proofs.ChoiceLaws.{pick_any, pick_eqb, pick_unless}
use Rattle.wire.specs.Number.{to_be, be_at}
use Rattle.wire.proofs.NumberLaws.{to_be_four}
use Rattle.wire.specs.Store.{laid, placed}
use Rattle.wire.proofs.StoreLaws.{placed_next, placed_fits}
use Rattle.wire.proofs.AnswerLaws.{written_front}
use Rattle.messages.specs.Header.{open_kind, keepalive_kind, route_refresh_kind, header_size, message_limit, extended_limit, crate_limit, least_length, most_length, is_outside, is_unknown, all_ff, marker_of, claimed_of, kind_of}
use Rattle.messages.proofs.HeaderLaws.{inside, inside_low, inside_high}
use Rattle.messages.specs.Written.{header, total_of, message_bytes, write_message, message_after}
use Rattle.wire.specs.declared.refusal.Refusal.{Refusal}
use Rattle.wire.specs.declared.refusal.Refusal.TheVariants.{MessageType, MessageLength, NoRoom}

-- ---- the header

-- length and type, as the first three bytes of one number
tail_bytes : (total kind : ℕ) → total ≤ extended_limit → kind < 256 → take 3 (to_be 4 (total * 65536 + kind * 256)) ≡ to_be 2 total ++ (kind ∷ [])
tail_bytes total kind ht hk =
    let v : ℕ = total * 65536 + kind * 256 in
    let high : v / 16777216 ≡ total / 256 = omega arith in
    let low : v / 65536 % 256 ≡ total % 256 / 1 = omega arith in
    let last : v / 256 % 256 ≡ kind = omega arith in
    ap (take 3) (to_be_four v) ∙ ap₂ ◌∷◌ high (ap₂ ◌∷◌ low (ap (λ (b : ℕ). b ∷ []) last))

-- four octets of ones, as a number
abbrev pub all_ones : ℕ
all_ones = 4294967295

-- four words of ones, then those three bytes
pub header_put : (d d₁ d₂ d₃ d₄ d₅ : List ℕ) (total kind : ℕ) → total ≤ extended_limit → kind < 256 → header_size ≤ length d
    → d₁ ≡ placed d 0 (take 4 (to_be 4 all_ones))
    → d₂ ≡ placed d₁ 4 (take 4 (to_be 4 all_ones))
    → d₃ ≡ placed d₂ 8 (take 4 (to_be 4 all_ones))
    → d₄ ≡ placed d₃ 12 (take 4 (to_be 4 all_ones))
    → d₅ ≡ placed d₄ 16 (take 3 (to_be 4 (total * 65536 + kind * 256)))
    → d₅ ≡ laid d 0 (header total kind)
unfolding header
header_put d d₁ d₂ d₃ d₄ d₅ total kind ht hk room e₁ e₂ e₃ e₄ e₅ =
    let o : List ℕ = 255 ∷ 255 ∷ 255 ∷ 255 ∷ [] in
    let p₁ : d₁ ≡ laid d 0 o = e₁ ∙ placed_fits d 0 o (omega arith) in
    let p₂ : d₂ ≡ laid d 0 (o ++ o) = e₂ ∙ ap (λ (l : List ℕ). placed l 4 o) p₁ ∙ placed_next d o 4 o refl (omega arith) in
    let p₃ : d₃ ≡ laid d 0 ((o ++ o) ++ o) = e₃ ∙ ap (λ (l : List ℕ). placed l 8 o) p₂ ∙ placed_next d (o ++ o) 8 o refl (omega arith) in
    let p₄ : d₄ ≡ laid d 0 (((o ++ o) ++ o) ++ o) = e₄ ∙ ap (λ (l : List ℕ). placed l 12 o) p₃ ∙ placed_next d ((o ++ o) ++ o) 12 o refl (omega arith) in
    e₅
    ∙ ap₂ (λ (l t : List ℕ). placed l 16 t) p₄ (tail_bytes total kind ht hk)
    ∙ placed_next d (((o ++ o) ++ o) ++ o) 16 (to_be 2 total ++ (kind ∷ [])) refl (omega arith)

pub length_header : (total kind : ℕ) → length (header total kind) ≡ header_size
unfolding header
length_header total kind = refl

-- ---- lengths

pub most_small : (kind : ℕ) → most_length kind ≤ extended_limit
unfolding most_length crate_limit
most_small kind =
    let P : ℕ → Type 0 = λ n. n ≤ extended_limit in
    pick_any P (eqb kind keepalive_kind) header_size (crate_limit kind) (omega arith)
    (pick_any P (eqb kind open_kind) message_limit _ (omega arith) (pick_any P (eqb kind keepalive_kind) message_limit extended_limit (omega arith) (omega arith)))

pub most_crate : (kind : ℕ) → most_length kind ≤ crate_limit kind
unfolding most_length crate_limit
most_crate kind =
    pick_eqb (λ (n : ℕ). n ≤ crate_limit kind) kind keepalive_kind header_size (crate_limit kind)
    (λ _. let P : ℕ → Type 0 = λ n. header_size ≤ n in
    pick_any P (eqb kind open_kind) message_limit _ (omega arith) (pick_any P (eqb kind keepalive_kind) message_limit extended_limit (omega arith) (omega arith)))
    (λ _. omega arith)

pub over_outside : (lo hi n : ℕ) → hi < n → is_outside lo hi n ≡ true
unfolding is_outside
over_outside lo hi n h = rw (lt-ltb hi n h) (pick_any (λ (t : Bool). t ≡ true) (ltb n lo) true true refl refl)

-- ---- the output

pub out_by : (kind : ℕ) (body out : List ℕ) (a : Result ℕ Refusal) → write_message kind body (length out) ≡ a → message_after kind body out ≡ filled (count_meaning a) (message_bytes kind body) out
unfolding message_after
out_by kind body out a e = ap (λ (x : Result ℕ Refusal). filled (count_meaning x) (message_bytes kind body) out) e

-- the body after the header
pub body_put : (kind : ℕ) (body d d₁ d₂ : List ℕ) → total_of body ≤ length d
    → d₁ ≡ laid d 0 (header (total_of body) kind) → d₂ ≡ placed d₁ header_size body → d₂ ≡ laid d 0 (message_bytes kind body)
unfolding message_bytes
body_put kind body d d₁ d₂ room e₁ e₂ =
    let h : List ℕ = header (total_of body) kind in
    e₂ ∙ ap (λ (l : List ℕ). placed l header_size body) e₁ ∙ placed_next d h header_size body (sym (length_header (total_of body) kind)) room

-- ---- what was written, read again, whatever follows it

-- what the writer found of a message that it does not refuse
pub record Fit (kind : ℕ) (body : List ℕ) (places n : ℕ) : Type 0 where
  pub known : is_unknown kind ≡ false
  pub least : least_length kind ≤ total_of body
  pub most : total_of body ≤ most_length kind
  pub room : total_of body ≤ places
  pub size : n ≡ total_of body

pub written_fit : (kind : ℕ) (body : List ℕ) (places n : ℕ) → write_message kind body places ≡ Ok n → Fit kind body places n
unfolding write_message
written_fit kind body places n =
    let never : (r : Refusal) → Err r ≡ Ok n → Fit kind body places n = λ r e. let z : ◌≡◌ {A = ℕ} 0 1 = cc in absurd (omega arith) in
    let P : Result ℕ Refusal → Type 0 = λ a. a ≡ Ok n → Fit kind body places n in
    let total : ℕ = total_of body in
    pick_unless P (is_unknown kind) (Err MessageType) _ (never MessageType) (λ known.
    pick_unless P (is_outside (least_length kind) (most_length kind) total) (Err MessageLength) _ (never MessageLength) (λ own.
    pick_unless P (ltb places total) (Err NoRoom) (Ok total) (never NoRoom) (λ room e.
    record {
      known = known;
      least = inside_low (least_length kind) (most_length kind) total own;
      most = inside_high (least_length kind) (most_length kind) total own;
      room = ltb-false places total room;
      size = cc;
    })))

-- the answer from what the tests before it found
module _ (kind : ℕ) (body : List ℕ) (places : ℕ) where
  pub write_unknown : is_unknown kind ≡ true → write_message kind body places ≡ Err MessageType
  unfolding write_message
  write_unknown unknown = rw unknown

  module _ (known : is_unknown kind ≡ false) where
    pub write_misfit : is_outside (least_length kind) (most_length kind) (total_of body) ≡ true → write_message kind body places ≡ Err MessageLength
    unfolding write_message
    write_misfit misfit = rw (known, misfit)

    module _ (own : is_outside (least_length kind) (most_length kind) (total_of body) ≡ false) where
      pub write_full : places < total_of body → write_message kind body places ≡ Err NoRoom
      unfolding write_message
      write_full full = rw (known, own, lt-ltb places (total_of body) full)

      pub write_fits : total_of body ≤ places → write_message kind body places ≡ Ok (total_of body)
      unfolding write_message
      write_fits room = rw (known, own, le-ltb places (total_of body) room)

-- and a message of a known type, whose length its type allows, is written where there is room
pub fit_written : (kind : ℕ) (body : List ℕ) (places : ℕ) → open_kind ≤ kind → kind ≤ route_refresh_kind → least_length kind ≤ total_of body → total_of body ≤ most_length kind
    → total_of body ≤ places → write_message kind body places ≡ Ok (total_of body)
unfolding is_unknown
fit_written kind body places lo hi least most room =
    write_fits kind body places (inside open_kind route_refresh_kind kind lo hi) (inside (least_length kind) (most_length kind) (total_of body) least most) room

-- the bytes that it says are the message
pub message_length_lem : (kind : ℕ) (body : List ℕ) (places n : ℕ) → write_message kind body places ≡ Ok n → length (message_bytes kind body) ≡ n
unfolding message_bytes
message_length_lem kind body places n e = omega (arith, length-append (header (total_of body) kind) body, length_header (total_of body) kind, (written_fit kind body places n e).size)

-- and the front of the output
pub message_front : (kind : ℕ) (body out : List ℕ) (n : ℕ) → write_message kind body (length out) ≡ Ok n → take n (message_after kind body out) ≡ message_bytes kind body
unfolding message_after
message_front kind body out n e = written_front (write_message kind body (length out)) n (message_bytes kind body) out e (message_length_lem kind body (length out) n e)

module _ (kind : ℕ) (body rest : List ℕ) where
  pub written_long : length (message_bytes kind body ++ rest) ≡ total_of body + length rest
  unfolding message_bytes header
  written_long = omega (arith, length-append (message_bytes kind body) rest, length-append (header (total_of body) kind) body)

  pub written_kind : kind_of (message_bytes kind body ++ rest) ≡ kind
  unfolding message_bytes header
  written_kind = refl

  pub written_marker : all_ff (marker_of (message_bytes kind body ++ rest)) ≡ true
  unfolding message_bytes header all_ff
  written_marker = refl

  pub written_past : drop header_size (message_bytes kind body ++ rest) ≡ body ++ rest
  unfolding message_bytes header
  written_past = refl

  pub written_claimed : total_of body ≤ extended_limit → claimed_of (message_bytes kind body ++ rest) ≡ total_of body
  unfolding message_bytes header be_at
  written_claimed h = omega arith
