-- Two results that the promise of a call allows are equal, and so is what it leaves: of the ensures clauses themselves.
use mathlib.Core.Path.{◌≡◌, sym, ◌∙◌}
use Rattle.words.proofs.family_of.Reads as family_of
use Rattle.words.proofs.form_of.Reads as form_of
use Rattle.words.proofs.asn_length_of.Reads as asn_length_of
use Rattle.words.proofs.edition_of.Reads as edition_of
use Rattle.words.proofs.settings_of.Reads as settings_of
use Rattle.words.proofs.word.Reads as word

pub tight_family_of : (κs : _) (a : _) (z z' : _) (e e' : _) → family_of.Learnt κs a z e → family_of.Learnt κs a z' e' → z ≡ z'
tight_family_of κs a z z' e e' p q = p ∙ sym q

pub tight_form_of : (κs : _) (a : _) (z z' : _) (e e' : _) → form_of.Learnt κs a z e → form_of.Learnt κs a z' e' → z ≡ z'
tight_form_of κs a z z' e e' p q = p ∙ sym q

pub tight_asn_length_of : (κs : _) (a : _) (z z' : _) (e e' : _) → asn_length_of.Learnt κs a z e → asn_length_of.Learnt κs a z' e' → z ≡ z'
tight_asn_length_of κs a z z' e e' p q = p ∙ sym q

pub tight_edition_of : (κs : _) (a : _) (z z' : _) (e e' : _) → edition_of.Learnt κs a z e → edition_of.Learnt κs a z' e' → z ≡ z'
tight_edition_of κs a z z' e e' p q = p ∙ sym q

pub tight_settings_of : (κs : _) (a : _) (z z' : _) (e e' : _) → settings_of.Learnt κs a z e → settings_of.Learnt κs a z' e' → z ≡ z'
tight_settings_of κs a z z' e e' p q = p ∙ sym q

pub tight_word : (κs : _) (a : _) (z z' : _) (e e' : _) → word.Learnt κs a z e → word.Learnt κs a z' e' → z ≡ z'
tight_word κs a z z' e e' p q = p ∙ sym q
