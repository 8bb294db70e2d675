-- What a family of routes and a form of an item fix. RFC 4271 section 4.3: a length octet, and that many bits of address in whole octets.
-- RFC 7911 section 3: where Add-Path is in use, four octets of path identifier before it.
use Rattle.std.specs.Prelude.{ℕ, ◌+◌, ◌/◌, ◌%◌, eqb}
use Rattle.wire.specs.Choice.{pick}
use Rattle.families.specs.declared.Afi.{Afi}
use Rattle.families.specs.declared.Afi.TheVariants.{Ipv4, Ipv6}
use Rattle.families.specs.declared.Form.{Form}
use Rattle.families.specs.declared.Form.TheVariants.{Plain, Tagged}
use Rattle.families.specs.declared.AddPath.{AddPath}
use Rattle.families.specs.declared.AddPath.TheVariants.{On, Off, Guess}

-- the longest prefix of a family, in bits
abbrev pub max_of : Afi → ℕ
max_of Ipv4 = 32
max_of Ipv6 = 128

-- the bytes of an id, and what an id adds to a row's first word
abbrev pub id_size : Form → ℕ
id_size Plain = 0
id_size Tagged = 4

abbrev pub mark_of : Form → ℕ
mark_of Plain = 0
mark_of Tagged = 256

-- the mark of an id that came from the guess
abbrev pub guessed : ℕ
guessed = 512

-- what a setting adds beside the 256, by the form that it took an item in: an id is the guess's where the setting is (document 02, K8)
abbrev pub guess_mark : AddPath → Form → ℕ
guess_mark On form = 0
guess_mark Off form = 0
guess_mark Guess Plain = 0
guess_mark Guess Tagged = guessed

-- l bits, in whole octets
abbrev pub octets : ℕ → ℕ
octets l = (l + 7) / 8

-- the setting of a settings byte (document 01, "The lister"): 1 is Add-Path, and 2 the guess, which is for Add-Path off alone; no other bit is read
unfoldable pub mode_of : ℕ → AddPath
mode_of settings = pick (eqb (settings % 2) 1) On (pick (eqb (settings / 2 % 2) 1) Guess Off)
