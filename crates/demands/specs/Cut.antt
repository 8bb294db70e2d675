-- Cut messages: one that is accepted though it claims more than was given is marked as cut, and no other is; the strict reading never takes one.
-- Of the calls themselves: whatever they are given and answer.
use Rattle.std.specs.Prelude.{ℕ, ◌-◌, ◌≤◌, ◌<◌, ◌≡◌, List, true, false, length, Result, Ok, Err}
use Rattle.std.proofs.Common.{sym, ◌∙◌, subst}
use Rattle.wire.specs.Extent.{extent, nothing, PartOf}
use Rattle.wire.specs.declared.refusal.Refusal.{Refusal}
use Rattle.messages.specs.Header.{header_size, limit_of, body_at}
use Rattle.messages.specs.declared.Message.{Message}
use Rattle.messages.proofs.Framing.{Lengths, cut_marked, Unmarked, strict_unmarked}
use Rattle.messages.proofs.parse_bgp_message.Reads as parse_bgp_message
use Rattle.messages.proofs.parse_bgp_message_strict.Reads as parse_bgp_message_strict
use Rattle.messages.proofs.message_body.Reads as message_body
use Rattle.messages.proofs.message_body_strict.Reads as message_body_strict

-- ---- the crate's reading

-- any call, and any call for the body of the same bytes
module _ (κs : _) (given : _) (answer : _) (exit : _) (call : parse_bgp_message.Learnt κs given answer exit) where
  abbrev bytes : List ℕ
  bytes = given.0.now

  module _ (message : Message) (accepted : answer ≡ Ok message) where
    lengths : Lengths bytes message
    lengths = cut_marked bytes message (sym call ∙ accepted)

    -- a message that claims more than was given is marked as cut
    pub cut_is_marked : length bytes < message.claimed → message.cut ≡ true
    cut_is_marked = lengths.marked

    -- and no other is
    pub marked_is_cut : message.cut ≡ true → length bytes < message.claimed
    marked_is_cut = lengths.only

    -- what is taken of it is all that was given
    pub cut_takes_all : message.cut ≡ true → message.taken ≡ length bytes
    cut_takes_all = lengths.all

    -- and of any other what it claims
    pub uncut_takes_claimed : message.cut ≡ false → message.taken ≡ message.claimed
    uncut_takes_claimed = lengths.claims

  module _ (κs' : _) (part : _) (exit' : _) (body : message_body.Learnt κs' given part exit') where
    -- the body is just what is taken past the header: that part of the caller's bytes
    pub body_is_taken : (message : Message) → answer ≡ Ok message
        → PartOf given.0 (extent header_size (message.taken - header_size)) part
    body_is_taken message accepted = subst (λ (a : Result Message Refusal). PartOf given.0 (body_at a) part) (sym call ∙ accepted) body

    -- and nothing of a message that is refused
    pub no_body : (why : Refusal) → answer ≡ Err why → PartOf given.0 nothing part
    no_body why refused = subst (λ (a : Result Message Refusal). PartOf given.0 (body_at a) part) (sym call ∙ refused) body

-- ---- the strict reading, by whichever edition

module _ (κs : _) (given : _) (answer : _) (exit : _) (call : parse_bgp_message_strict.Learnt κs given answer exit) where
  abbrev bytes_strict : List ℕ
  bytes_strict = given.0.now

  module _ (message : Message) (accepted : answer ≡ Ok message) where
    unmarked : Unmarked bytes_strict message
    unmarked = strict_unmarked bytes_strict message (limit_of given.1.0) (sym call ∙ accepted)

    -- what is accepted was given whole
    pub strict_is_whole : message.claimed ≤ length bytes_strict
    strict_is_whole = unmarked.there

    -- all that it claims is taken
    pub strict_takes_claimed : message.taken ≡ message.claimed
    strict_takes_claimed = unmarked.takes

    -- its marker is all FF
    pub strict_not_marked : message.marker ≡ false
    strict_not_marked = unmarked.ones

    -- and it is not cut
    pub strict_not_cut : message.cut ≡ false
    strict_not_cut = unmarked.uncut

  module _ (κs' : _) (part : _) (exit' : _) (body : message_body_strict.Learnt κs' given part exit') where
    -- the body is just what is taken past the header
    pub strict_body_is_taken : (message : Message) → answer ≡ Ok message
        → PartOf given.0 (extent header_size (message.taken - header_size)) part
    strict_body_is_taken message accepted = subst (λ (a : Result Message Refusal). PartOf given.0 (body_at a) part) (sym call ∙ accepted) body

    -- and nothing of a message that is refused
    pub no_strict_body : (why : Refusal) → answer ≡ Err why → PartOf given.0 nothing part
    no_strict_body why refused = subst (λ (a : Result Message Refusal). PartOf given.0 (body_at a) part) (sym call ∙ refused) body
