-- Refusal 5 is never given: the check of the body, with which document 01's reading of a message ends, never fails, so that the reading with it and the reading
-- without it answer the same on every input. The two readings stand in specs/Retired.antt.
-- Assumes nothing.
use Rattle.std.specs.Prelude.{ℕ, ◌-◌, ◌/◌, ◌≡◌, refl, List, false, length, ltb, eqb, Result, Err}
use Rattle.std.proofs.Common.{sym, ap, subst, ◌∙◌, arith, le-ltb}
use Rattle.std.proofs.lemmas.Bool.{false≢true}
use Rattle.std.proofs.Math.Nat.{min-le_right}
use Rattle.wire.specs.Answer.{number_in}
use Rattle.wire.specs.Extent.{PartOf}
use Rattle.wire.specs.Refusal.{short_body}
use Rattle.wire.specs.declared.refusal.Refusal.{Refusal}
use Rattle.wire.specs.declared.refusal.Refusal.TheVariants.{ShortBody}
use Rattle.wire.proofs.ChoiceLaws.{pick_any}
use Rattle.messages.specs.Header.{header_size, crate_limit, is_unknown, claimed_of, kind_of, message_of, message_meaning, body_at}
use Rattle.messages.specs.declared.Message.{Message}
use Rattle.messages.proofs.parse_bgp_message.Reads as parse_bgp_message
use Rattle.messages.proofs.message_body.Reads as message_body
use Rattle.words.proofs.WordLaws.{word_refusal}
use Rattle.firmware.specs.Fields.{message_fields}
use Rattle.firmware.proofs.MessageBounds.{message_narrow}
use Rattle.firmware.proofs.message.doorbramble_parse_bgp_message.Reads as c_parse_bgp_message
use Rattle.demands.specs.Retired.{lacks_body, checked_of, unchecked_of}

-- ---- on every input

-- what is taken is the smaller of two lengths, one of which is what was given: the check never fails
pub body_is_there : (s : List ℕ) → lacks_body s ≡ false
body_is_there s = le-ltb (length s - header_size) _ (omega (arith, min-le_right (claimed_of s) (length s)))

-- the reading of the calls is the one with the check
pub same_reading : (s : List ℕ) → checked_of s ≡ message_of s
unfolding checked_of message_of
same_reading s = refl

-- so it is the reading without it
pub without_check : (s : List ℕ) → unchecked_of s ≡ message_of s
unfolding unchecked_of message_of
without_check s = rw (body_is_there s) refl

-- the number of either is never 5
unchecked_number : (s : List ℕ) → eqb (number_in (message_meaning (unchecked_of s))) short_body ≡ false
unfolding unchecked_of
unchecked_number s =
    let Other : Result Message Refusal → Type 0 = λ a. eqb (number_in (message_meaning a)) short_body ≡ false in
    pick_any Other (ltb (length s) header_size) _ _ refl
    (pick_any Other (ltb (claimed_of s) header_size) _ _ refl
    (pick_any Other (is_unknown (kind_of s)) _ _ refl
    (pick_any Other (ltb (crate_limit (kind_of s)) (claimed_of s)) _ _ refl refl)))

other_number : (s : List ℕ) → eqb (number_in (message_meaning (message_of s))) short_body ≡ false
other_number s = subst (λ (a : Result Message Refusal). eqb (number_in (message_meaning a)) short_body ≡ false) (without_check s) (unchecked_number s)

-- so neither gives it
pub reading_never_five : (s : List ℕ) → checked_of s ≡ Err ShortBody → ⊥
reading_never_five s five =
    false≢true (sym (other_number s) ∙ ap (λ (a : Result Message Refusal). eqb (number_in (message_meaning a)) short_body) (sym (same_reading s) ∙ five))

-- ---- of the calls

module _ (κs : _) (given : _) (answer : _) (exit : _) (call : parse_bgp_message.Learnt κs given answer exit) where
  -- the call answers as the reading with the check
  pub as_with_check : answer ≡ checked_of given.0.now
  as_with_check = call ∙ sym (same_reading given.0.now)

  -- and never 5
  pub never_five : answer ≡ Err ShortBody → ⊥
  never_five five = reading_never_five given.0.now (sym as_with_check ∙ five)

-- the body that is handed back is that of the reading with the check
pub body_as_with_check : (κs : _) (given : _) (part : _) (exit : _) → message_body.Learnt κs given part exit → PartOf given.0 (body_at (checked_of given.0.now)) part
body_as_with_check κs given part exit call = subst (λ (a : Result Message Refusal). PartOf given.0 (body_at a) part) (sym (same_reading given.0.now)) call

-- and C is never told 5, in the field where doorbramble_refusal looks
pub c_never_five : (κs : _) (given : _) (word : _) (exit : _) → c_parse_bgp_message.Learnt κs given word exit → word / 281474976710656 ≡ short_body → ⊥
c_never_five κs given word exit call five =
    let s : List ℕ = given.0.now in
    let told : word / 281474976710656 ≡ number_in (message_meaning (message_of s)) = ap (λ (w : ℕ). w / 281474976710656) call ∙ word_refusal (message_fields (message_of s)) (message_narrow s) in
    false≢true (sym (other_number s) ∙ ap (λ (n : ℕ). eqb n short_body) (sym told ∙ five))
