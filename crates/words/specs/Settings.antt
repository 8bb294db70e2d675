-- The numbers of a C call that stand for a choice: 0 is no, or the first of two, and any other number is yes, or the second. A settings byte is that of
-- a slot: `mode_of` of families.
use Rattle.std.specs.Prelude.{ℕ, Bool, not, eqb}
use Rattle.wire.specs.Choice.{pick}
use Rattle.families.specs.declared.Afi.{Afi}
use Rattle.families.specs.declared.Afi.TheVariants.{Ipv4, Ipv6}
use Rattle.families.specs.declared.Form.{Form}
use Rattle.families.specs.declared.Form.TheVariants.{Plain, Tagged}
use Rattle.families.specs.declared.AddPath.{AddPath}
use Rattle.families.specs.declared.AddPath.TheVariants.{On, Off, Guess}
use Rattle.asns.specs.declared.AsnLength.{AsnLength}
use Rattle.asns.specs.declared.AsnLength.TheVariants.{Bits16, Bits32}
use Rattle.messages.specs.declared.Edition.{Edition}
use Rattle.messages.specs.declared.Edition.TheVariants.{Rfc4271, Rfc8654}

abbrev pub is_yes : ℕ → Bool
is_yes flag = not (eqb flag 0)

unfoldable pub family_of : ℕ → Afi
family_of ipv6 = pick (eqb ipv6 0) Ipv4 Ipv6

unfoldable pub form_of : ℕ → Form
form_of add_path = pick (eqb add_path 0) Plain Tagged

unfoldable pub asn_length_of : ℕ → AsnLength
asn_length_of four_bytes = pick (eqb four_bytes 0) Bits16 Bits32

unfoldable pub edition_of : ℕ → Edition
edition_of edition = pick (eqb edition 0) Rfc4271 Rfc8654

-- the header's number of an edition, which is read as that edition
abbrev pub edition_number : Edition → ℕ
edition_number Rfc4271 = 0
edition_number Rfc8654 = 1

-- the settings byte of a setting, which is read as that setting
abbrev pub settings_of : AddPath → ℕ
settings_of Off = 0
settings_of On = 1
settings_of Guess = 2
