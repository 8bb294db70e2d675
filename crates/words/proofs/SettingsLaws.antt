-- A setting told to C as a settings byte is read as that setting, and the header's number of an edition as that edition.
-- Assumes nothing.
use mathlib.Core.Path.{◌≡◌, refl}
use Rattle.families.specs.Family.{mode_of}
use Rattle.families.specs.declared.AddPath.{AddPath}
use Rattle.families.specs.declared.AddPath.TheVariants.{On, Off, Guess}
use Rattle.messages.specs.declared.Edition.{Edition}
use Rattle.messages.specs.declared.Edition.TheVariants.{Rfc4271, Rfc8654}
use Rattle.words.specs.Settings.{settings_of, edition_of, edition_number}

pub settings_read : (mode : AddPath) → mode_of (settings_of mode) ≡ mode
unfolding mode_of
settings_read Off = refl
settings_read On = refl
settings_read Guess = refl

pub edition_read : (edition : Edition) → edition_of (edition_number edition) ≡ edition
unfolding edition_of
edition_read Rfc4271 = refl
edition_read Rfc8654 = refl
