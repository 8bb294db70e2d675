-- UPDATE bodies, of the calls that read them: the sections are the whole of the body, each good or malformed by one of three numbers, and what
-- is read into stores is what is counted.
use Rattle.std.specs.Prelude.{ℕ, ◌+◌, ◌≤◌, ◌≡◌, List, ◌++◌, length, take, drop, Ok}
use Rattle.std.proofs.Common.{sym, ap, ap₂, ◌∙◌}
use Rattle.wire.specs.Refusal.{truncated, prefix_length, one_byte_section, body_limit}
use Rattle.routes.specs.Promises.{rows_in, verdict_in}
use Rattle.families.specs.declared.AddPath.{AddPath}
use Rattle.updates.specs.Body.{length_size, parts_of}
use Rattle.updates.specs.Update.{count_update}
use Rattle.updates.specs.declared.Parts.{Parts}
use Rattle.updates.specs.declared.Update.{Update}
use Rattle.updates.proofs.BodyLaws.{parts_add_up, holds_withdrawn, holds_attributes, holds_announced}
use Rattle.updates.proofs.Sections.{withdrawn_length, attributes_length, announced_length, sections_are_body, update_verdicts, read_is_count}
use Rattle.updates.proofs.Sections as Sections
use Rattle.updates.proofs.update_parts.Reads as update_parts
use Rattle.updates.proofs.withdrawn_part.Reads as withdrawn_part
use Rattle.updates.proofs.attribute_part.Reads as attribute_part
use Rattle.updates.proofs.announced_part.Reads as announced_part
use Rattle.updates.proofs.count_bgp_update_message.Reads as count_bgp_update_message
use Rattle.updates.proofs.parse_bgp_update_message.Reads as parse_bgp_update_message
use Rattle.firmware.specs.Fields.{body_rows}
use Rattle.firmware.proofs.UpdateBounds.{update_few}

-- ---- the sections

-- any call whose answer is the three lengths
module _ (κs : _) (given : _) (answer : _) (exit : _) (call : update_parts.Learnt κs given answer exit) (parts : Parts) (accepted : answer ≡ Ok parts) where
  abbrev body : List ℕ
  body = given.0.now

  found : parts_of body ≡ Ok parts
  found = sym call ∙ accepted

  -- the three lengths and the four length bytes add up to the body
  pub lengths_add_up : parts.withdrawn + parts.attributes + parts.announced + (length_size + length_size) ≡ length body
  lengths_add_up = (parts_add_up body parts found).0

  pub body_within_limit : length body ≤ body_limit
  body_within_limit = (parts_add_up body parts found).1

  -- any calls for the sections of the same body
  module _ (κ₁ : _) (withdrawn : _) (e₁ : _) (first : withdrawn_part.Learnt κ₁ given withdrawn e₁)
      (κ₂ : _) (attributes : _) (e₂ : _) (middle : attribute_part.Learnt κ₂ given attributes e₂)
      (κ₃ : _) (announced : _) (e₃ : _) (last : announced_part.Learnt κ₃ given announced e₃) where
    -- each is as long as it was said to be
    pub lengths_are_theirs : (length withdrawn.now ≡ parts.withdrawn) × (length attributes.now ≡ parts.attributes) × (length announced.now ≡ parts.announced)
    lengths_are_theirs = (
      ap length (holds_withdrawn given.0 withdrawn first) ∙ withdrawn_length body parts found,
      ap length (holds_attributes given.0 attributes middle) ∙ attributes_length body parts found,
      ap length (holds_announced given.0 announced last) ∙ announced_length body parts found,
    )

    -- the length bytes and the sections, one after another, are the body
    pub sections_are_the_body : body ≡ take length_size body ++ (withdrawn.now ++ (take length_size (drop (length_size + parts.withdrawn) body) ++ (attributes.now ++ announced.now)))
    sections_are_the_body =
        rw (holds_withdrawn given.0 withdrawn first, holds_attributes given.0 attributes middle, holds_announced given.0 announced last)
        (sections_are_body body parts found)

-- ---- verdicts

-- good, or malformed: too few bytes, too long a prefix, or one nonzero byte
pub data Verdict : ℕ → Type 0 where
  good : Verdict 0
  short : Verdict truncated
  long : Verdict prefix_length
  single : Verdict one_byte_section

of_list : {n : ℕ} → Sections.ListVerdict n → Verdict n
of_list Sections.good = good
of_list Sections.short = short
of_list Sections.long = long

of_section : {n : ℕ} → Sections.SectionVerdict n → Verdict n
of_section (Sections.of_list v) = of_list v
of_section Sections.single = single

-- ---- reading and counting

-- any call that counts
module _ (κs : _) (given : _) (answer : _) (exit : _) (call : count_bgp_update_message.Learnt κs given answer exit) where
  -- each section of an UPDATE that is not refused is good or malformed
  pub counted_verdicts : (update : Update) → answer ≡ Ok update → Verdict (verdict_in update.withdrawn) × Verdict (verdict_in update.announced)
  counted_verdicts update accepted =
      let v = update_verdicts given.0.now given.1.0 update (sym call ∙ accepted) in
      (of_section v.0, of_section v.1)

  -- both together have at most so many rows
  pub counted_few : (update : Update) → answer ≡ Ok update → rows_in update.withdrawn + rows_in update.announced ≤ body_rows
  counted_few update accepted = update_few given.0.now given.1.0 update (sym call ∙ accepted)

  -- and any call that reads the same body under the same setting, whatever its stores: what it accepts is as it is counted
  module _ (κs' : _) (given' : _) (answer' : _) (exit' : _) (call' : parse_bgp_update_message.Learnt κs' given' answer' exit') where
    pub read_as_counted : given'.0.now ≡ given.0.now → given'.1.0 ≡ given.1.0 → (update : Update) → answer' ≡ Ok update → answer ≡ answer'
    read_as_counted body setting update accepted =
        let counts : count_update given'.0.now given'.1.0 ≡ Ok update =
        read_is_count given'.0.now given'.1.0 (length given'.1.1.0.now) (length given'.1.1.1.0.now) update (sym call'.0 ∙ accepted) in
        call ∙ ap₂ (λ (b : List ℕ) (m : AddPath). count_update b m) (sym body) (sym setting) ∙ counts ∙ sym accepted
