-- Two results that the promise of a call allows are equal, and so is what it leaves: of the ensures clauses themselves.
use mathlib.Core.Path.{◌≡◌, sym, ◌∙◌}
use Rattle.routes.proofs.try_parse_prefix.Reads as try_parse_prefix
use Rattle.routes.proofs.form_size.Reads as form_size
use Rattle.routes.proofs.item_step.Reads as item_step
use Rattle.routes.proofs.count_nlri_list.Reads as count_nlri_list
use Rattle.routes.proofs.is_strange.Reads as is_strange
use Rattle.routes.proofs.rows_in.Reads as rows_in
use Rattle.routes.proofs.verdict_in.Reads as verdict_in
use Rattle.routes.proofs.count_nlri.Reads as count_nlri
use Rattle.routes.proofs.count_list_by.Reads as count_list_by
use Rattle.routes.proofs.count_section_by.Reads as count_section_by

pub tight_try_parse_prefix : (κs : _) (a : _) (z z' : _) (e e' : _) → try_parse_prefix.Learnt κs a z e → try_parse_prefix.Learnt κs a z' e' → z ≡ z'
tight_try_parse_prefix κs a z z' e e' p q = p ∙ sym q

pub tight_form_size : (κs : _) (a : _) (z z' : _) (e e' : _) → form_size.Learnt κs a z e → form_size.Learnt κs a z' e' → z ≡ z'
tight_form_size κs a z z' e e' p q = p ∙ sym q

pub tight_item_step : (κs : _) (a : _) (z z' : _) (e e' : _) → item_step.Learnt κs a z e → item_step.Learnt κs a z' e' → z ≡ z'
tight_item_step κs a z z' e e' p q = p ∙ sym q

pub tight_count_nlri_list : (κs : _) (a : _) (z z' : _) (e e' : _) → count_nlri_list.Learnt κs a z e → count_nlri_list.Learnt κs a z' e' → z ≡ z'
tight_count_nlri_list κs a z z' e e' p q = p ∙ sym q

pub tight_is_strange : (κs : _) (a : _) (z z' : _) (e e' : _) → is_strange.Learnt κs a z e → is_strange.Learnt κs a z' e' → z ≡ z'
tight_is_strange κs a z z' e e' p q = p ∙ sym q

pub tight_rows_in : (κs : _) (a : _) (z z' : _) (e e' : _) → rows_in.Learnt κs a z e → rows_in.Learnt κs a z' e' → z ≡ z'
tight_rows_in κs a z z' e e' p q = p ∙ sym q

pub tight_verdict_in : (κs : _) (a : _) (z z' : _) (e e' : _) → verdict_in.Learnt κs a z e → verdict_in.Learnt κs a z' e' → z ≡ z'
tight_verdict_in κs a z z' e e' p q = p ∙ sym q

pub tight_count_nlri : (κs : _) (a : _) (z z' : _) (e e' : _) → count_nlri.Learnt κs a z e → count_nlri.Learnt κs a z' e' → z ≡ z'
tight_count_nlri κs a z z' e e' p q = p ∙ sym q

pub tight_count_list_by : (κs : _) (a : _) (z z' : _) (e e' : _) → count_list_by.Learnt κs a z e → count_list_by.Learnt κs a z' e' → z ≡ z'
tight_count_list_by κs a z z' e e' p q = p ∙ sym q

pub tight_count_section_by : (κs : _) (a : _) (z z' : _) (e e' : _) → count_section_by.Learnt κs a z e → count_section_by.Learnt κs a z' e' → z ≡ z'
tight_count_section_by κs a z z' e e' p q = p ∙ sym q
