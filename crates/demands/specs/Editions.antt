-- The editions of the strict reading, of calls that are given the same bytes, one by RFC 4271 and one by RFC 8654: what RFC 4271 accepts, RFC 8654 accepts
-- the same; and it alone accepts exactly the long messages. What both share, whatever the edition, stands in Cut and in Written. And how C names them.
use Rattle.std.specs.Prelude.{◌≤◌, ◌≡◌, Result, Ok, Err}
use Rattle.std.proofs.Common.{sym, subst, ◌∙◌, arith}
use Rattle.wire.specs.Extent.{PartOf}
use Rattle.wire.specs.Number.{Bytes}
use Rattle.wire.specs.declared.refusal.Refusal.{Refusal}
use Rattle.wire.specs.declared.refusal.Refusal.TheVariants.{MessageLength}
use Rattle.wire.proofs.ExtentLaws.{one_part}
use Rattle.messages.specs.Header.{message_limit, extended_limit, claimed_of, accepted_whole, strict_of, body_at, LongMessage}
use Rattle.messages.specs.declared.Edition.{Edition}
use Rattle.messages.specs.declared.Edition.TheVariants.{Rfc4271, Rfc8654}
use Rattle.messages.specs.declared.Message.{Message}
use Rattle.messages.proofs.HeaderLaws.{whole_by}
use Rattle.messages.proofs.EditionLaws.{limits_alike, over_refused, accepted_whole_lem, accepted_alike, alone_over, long_whole, whole_long}
use Rattle.messages.proofs.parse_bgp_message_strict.Reads as parse_bgp_message_strict
use Rattle.messages.proofs.message_body_strict.Reads as message_body_strict
use Rattle.words.specs.Settings.{edition_number}
use Rattle.words.specs.Word.{word_of}
use Rattle.words.proofs.SettingsLaws.{edition_read}
use Rattle.words.proofs.WordLaws.{told}
use Rattle.firmware.specs.Fields.{message_fields}
use Rattle.firmware.proofs.message.doorbramble_parse_bgp_message_strict.Reads as c_parse_bgp_message_strict
use Rattle.firmware.proofs.message.doorbramble_parse_bgp_message_by_edition.Reads as c_parse_bgp_message_by_edition

-- ---- the two editions

module _ (s : _) (κs : _) (answer : _) (exit : _) (old : parse_bgp_message_strict.Learnt κs (s, (Rfc4271, tt)) answer exit)
    (κs' : _) (answer' : _) (exit' : _) (new : parse_bgp_message_strict.Learnt κs' (s, (Rfc8654, tt)) answer' exit') where
  -- a message that claims no more than RFC 4271 allows is answered the same by both, refused or not
  pub short_is_same : claimed_of s.now ≤ message_limit → answer' ≡ answer
  short_is_same short = new ∙ sym (limits_alike s.now message_limit extended_limit short (omega arith)) ∙ sym old

  module _ (message : Message) where
    -- what RFC 4271 accepts, RFC 8654 accepts the same, in every field
    pub old_is_new : answer ≡ Ok message → answer' ≡ Ok message
    old_is_new accepted = new ∙ accepted_alike s.now message message_limit extended_limit (omega arith) (sym old ∙ accepted)

    -- and its body is the same part of the bytes
    pub same_body : answer ≡ Ok message
        → (κb : _) (part : _) (left : _) → message_body_strict.Learnt κb (s, (Rfc4271, tt)) part left
        → (κb' : _) (part' : _) (left' : _) → message_body_strict.Learnt κb' (s, (Rfc8654, tt)) part' left'
        → (part.now ≡ part'.now) × (part.ref_ptr ≡ part'.ref_ptr)
    same_body accepted κb part left body κb' part' left' body' =
        let same : strict_of Rfc4271 s.now ≡ strict_of Rfc8654 s.now = sym old ∙ accepted ∙ sym (old_is_new accepted) ∙ new in
        one_part s (body_at (strict_of Rfc8654 s.now)) part part' (subst (λ (a : Result Message Refusal). PartOf s (body_at a) part) same body) body'

    -- what RFC 8654 accepts and RFC 4271 refuses is a long message
    pub alone_is_long : answer' ≡ Ok message → (why : Refusal) → answer ≡ Err why → LongMessage s.now
    alone_is_long accepted why refused =
        whole_long s.now (accepted_whole_lem s.now message extended_limit (sym new ∙ accepted))
        (alone_over s.now message message_limit extended_limit why (sym new ∙ accepted) (sym old ∙ refused))

  -- and every long message is such a one: RFC 4271 refuses it with 3, and RFC 8654 takes all that it claims
  pub long_is_alone : Bytes s.now → LongMessage s.now
      → (answer ≡ Err MessageLength)
      × (answer' ≡ Ok (accepted_whole s.now))
  long_is_alone bytes m =
      let whole = long_whole s.now bytes m in
      (old ∙ over_refused s.now message_limit extended_limit whole m.over, new ∙ whole_by extended_limit s.now whole)

-- ---- in C

-- the header's number of an edition is read as that edition
pub c_by_edition : (edition : Edition) (κs : _) (s : _) (word : _) (exit : _) → c_parse_bgp_message_by_edition.Learnt κs (s, (edition_number edition, tt)) word exit
    → word ≡ word_of (message_fields (strict_of edition s.now))
c_by_edition edition κs s word exit call = told (λ (e : Edition). message_fields (strict_of e s.now)) call (edition_read edition)

-- and the call that takes none is RFC 4271's
pub c_strict_is_old : (κs : _) (s : _) (word : _) (exit : _) → c_parse_bgp_message_strict.Learnt κs (s, tt) word exit
    → (κs' : _) (word' : _) (exit' : _) → c_parse_bgp_message_by_edition.Learnt κs' (s, (edition_number Rfc4271, tt)) word' exit' → word ≡ word'
c_strict_is_old κs s word exit call κs' word' exit' call' = call ∙ sym (c_by_edition Rfc4271 κs' s word' exit' call')
