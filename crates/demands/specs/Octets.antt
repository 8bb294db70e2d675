-- The tables of octet counts, of the calls themselves: what a family's table says of each length; and that a call which is lent it answers as one that is given the family.
-- Assumes nothing.
use Rattle.std.specs.Prelude.{ℕ, ◌≤◌, ◌<◌, ◌≡◌, List, length}
use Rattle.std.specs.Borrow.{Bor}
use Rattle.std.proofs.Common.{sym, ap, ◌∙◌, arith}
use Rattle.families.specs.Family.{max_of, octets}
use Rattle.families.specs.Octets.{refused_length, table_of, entry}
use Rattle.families.specs.declared.Afi.{Afi}
use Rattle.families.specs.declared.AddPath.{AddPath}
use Rattle.families.proofs.FamilyLaws.{max_small}
use Rattle.families.proofs.OctetLaws.{entry_in, entry_out}
use Rattle.families.proofs.octets.counts.Reads as counts
use Rattle.families.proofs.octets.put_counts.Reads as put_counts
use Rattle.families.proofs.octets.after.Reads as after
use Rattle.routes.proofs.TableLaws.{count_list_family, count_section_family}
use Rattle.routes.proofs.count_list_by.Reads as count_list_by
use Rattle.routes.proofs.count_section_by.Reads as count_section_by
use Rattle.routes.proofs.count_nlri_list.Reads as count_nlri_list
use Rattle.routes.proofs.count_nlri.Reads as count_nlri

-- a table that was taken of a family, and is lent
module _ (afi : Afi) (κt : _) (table : _) (exit : _) (made : counts.Learnt κt (afi, tt) table exit) (lent : Bor (List ℕ)) (same : lent.now ≡ table) where
  -- ---- what it says of a length

  module _ (length : ℕ) (κs : _) (said : _) (left : _) (asked : after.Learnt κs (lent, (length, tt)) said left) where
    small : max_of afi < 256
    small = omega (arith, max_small afi)

    here : said ≡ entry (table_of (max_of afi)) length
    here = asked ∙ ap (λ (l : List ℕ). entry l length) (same ∙ made)

    -- one that the family has: that many bits, in whole octets
    pub in_range : length ≤ max_of afi → said ≡ octets length
    in_range fits = here ∙ entry_in (max_of afi) small length fits

    -- one that it has not
    pub out_of_range : max_of afi < length → said ≡ refused_length
    out_of_range past = here ∙ entry_out (max_of afi) small length past

  -- ---- put over an array of 256 entries, it is the same

  pub put_alike : (κp : _) (out : _) (z : _) (left : _) → put_counts.Learnt κp (afi, (out, tt)) z left → length out.now ≡ 256 → left.1.0.now ≡ table
  put_alike κp out z left put long = put long ∙ sym made

  -- ---- a list and a section that are counted by it

  module _ (s : _) (mode : AddPath) (κs : _) (answer : _) (left : _) (κf : _) (given : _) (after : _) where
    pub list_by_family : count_list_by.Learnt κs (s, (lent, (mode, tt))) answer left → count_nlri_list.Learnt κf (s, (afi, (mode, tt))) given after → answer ≡ given
    list_by_family call family = call ∙ count_list_family lent.now afi (same ∙ made) s.now mode ∙ sym family

    pub section_by_family : count_section_by.Learnt κs (s, (lent, (mode, tt))) answer left → count_nlri.Learnt κf (s, (afi, (mode, tt))) given after → answer ≡ given
    section_by_family call family = call ∙ count_section_family lent.now afi (same ∙ made) s.now mode ∙ sym family
