-- Two results that the promise of a call allows are equal, and so is what it leaves: by what firmware shows of the functions that are called.
use mathlib.Core.Path.{◌≡◌}
use Rattle.firmware.proofs.Tight as Firmware
use Rattle.firmware_c.proofs.Called.{as_called_parse_bgp_message, as_called_parse_bgp_message_strict, as_called_parse_bgp_message_by_edition, as_called_encode_bgp_message, as_called_withdrawn_part, as_called_attribute_part, as_called_announced_part, as_called_count_bgp_update_message, as_called_count_update_hosts, as_called_parse_bgp_update_message, as_called_encode_bgp_update_message, as_called_attribute_at, as_called_find_attribute, as_called_count_nlri_list, as_called_parse_nlri_list, as_called_encode_nlri_prefixes, as_called_clear_guessed, as_called_count_index, as_called_build_index, as_called_route_at, as_called_count_mp_reach_nlri, as_called_parse_mp_reach_nlri, as_called_encode_mp_reach_nlri, as_called_count_mp_unreach_nlri, as_called_parse_mp_unreach_nlri, as_called_encode_mp_unreach_nlri, as_called_count_as_path, as_called_parse_as_path, as_called_encode_as_path, as_called_count_as_path_strict, as_called_parse_as_path_strict, as_called_encode_as_path_strict, as_called_parse_aggregator, as_called_encode_aggregator, as_called_standing_aggregator, as_called_count_merged_as_path, as_called_merge_as_path, as_called_next_slot, as_called_version}
use Rattle.firmware_c.proofs.message.doorbramble_parse_bgp_message.Reads as parse_bgp_message
use Rattle.firmware_c.proofs.message.doorbramble_parse_bgp_message_strict.Reads as parse_bgp_message_strict
use Rattle.firmware_c.proofs.message.doorbramble_parse_bgp_message_by_edition.Reads as parse_bgp_message_by_edition
use Rattle.firmware_c.proofs.message.doorbramble_encode_bgp_message.Reads as encode_bgp_message
use Rattle.firmware_c.proofs.update.doorbramble_withdrawn_part.Reads as withdrawn_part
use Rattle.firmware_c.proofs.update.doorbramble_attribute_part.Reads as attribute_part
use Rattle.firmware_c.proofs.update.doorbramble_announced_part.Reads as announced_part
use Rattle.firmware_c.proofs.update.doorbramble_count_bgp_update_message.Reads as count_bgp_update_message
use Rattle.firmware_c.proofs.update.doorbramble_count_update_hosts.Reads as count_update_hosts
use Rattle.firmware_c.proofs.update.doorbramble_parse_bgp_update_message.Reads as parse_bgp_update_message
use Rattle.firmware_c.proofs.update.doorbramble_encode_bgp_update_message.Reads as encode_bgp_update_message
use Rattle.firmware_c.proofs.attribute.doorbramble_attribute_at.Reads as attribute_at
use Rattle.firmware_c.proofs.attribute.doorbramble_find_attribute.Reads as find_attribute
use Rattle.firmware_c.proofs.list.doorbramble_count_nlri_list.Reads as count_nlri_list
use Rattle.firmware_c.proofs.list.doorbramble_parse_nlri_list.Reads as parse_nlri_list
use Rattle.firmware_c.proofs.list.doorbramble_encode_nlri_prefixes.Reads as encode_nlri_prefixes
use Rattle.firmware_c.proofs.list.doorbramble_clear_guessed.Reads as clear_guessed
use Rattle.firmware_c.proofs.index.doorbramble_count_index.Reads as count_index
use Rattle.firmware_c.proofs.index.doorbramble_build_index.Reads as build_index
use Rattle.firmware_c.proofs.index.doorbramble_route_at.Reads as route_at
use Rattle.firmware_c.proofs.mp.doorbramble_count_mp_reach_nlri.Reads as count_mp_reach_nlri
use Rattle.firmware_c.proofs.mp.doorbramble_parse_mp_reach_nlri.Reads as parse_mp_reach_nlri
use Rattle.firmware_c.proofs.mp.doorbramble_encode_mp_reach_nlri.Reads as encode_mp_reach_nlri
use Rattle.firmware_c.proofs.mp.doorbramble_count_mp_unreach_nlri.Reads as count_mp_unreach_nlri
use Rattle.firmware_c.proofs.mp.doorbramble_parse_mp_unreach_nlri.Reads as parse_mp_unreach_nlri
use Rattle.firmware_c.proofs.mp.doorbramble_encode_mp_unreach_nlri.Reads as encode_mp_unreach_nlri
use Rattle.firmware_c.proofs.path.doorbramble_count_as_path.Reads as count_as_path
use Rattle.firmware_c.proofs.path.doorbramble_parse_as_path.Reads as parse_as_path
use Rattle.firmware_c.proofs.path.doorbramble_encode_as_path.Reads as encode_as_path
use Rattle.firmware_c.proofs.path.doorbramble_count_as_path_strict.Reads as count_as_path_strict
use Rattle.firmware_c.proofs.path.doorbramble_parse_as_path_strict.Reads as parse_as_path_strict
use Rattle.firmware_c.proofs.path.doorbramble_encode_as_path_strict.Reads as encode_as_path_strict
use Rattle.firmware_c.proofs.aggregator.doorbramble_parse_aggregator.Reads as parse_aggregator
use Rattle.firmware_c.proofs.aggregator.doorbramble_encode_aggregator.Reads as encode_aggregator
use Rattle.firmware_c.proofs.merge.doorbramble_standing_aggregator.Reads as standing_aggregator
use Rattle.firmware_c.proofs.merge.doorbramble_count_merged_as_path.Reads as count_merged_as_path
use Rattle.firmware_c.proofs.merge.doorbramble_merge_as_path.Reads as merge_as_path
use Rattle.firmware_c.proofs.slot.doorbramble_next_slot.Reads as next_slot
use Rattle.firmware_c.proofs.version.doorbramble_version.Reads as version

pub tight_parse_bgp_message : (κs : _) (a : _) (z z' : _) (e e' : _) → parse_bgp_message.Learnt κs a z e → parse_bgp_message.Learnt κs a z' e' → z ≡ z'
tight_parse_bgp_message κs a z z' e e' p q = Firmware.tight_parse_bgp_message κs a z z' e e' (as_called_parse_bgp_message κs a z e p) (as_called_parse_bgp_message κs a z' e' q)

pub tight_parse_bgp_message_strict : (κs : _) (a : _) (z z' : _) (e e' : _) → parse_bgp_message_strict.Learnt κs a z e → parse_bgp_message_strict.Learnt κs a z' e' → z ≡ z'
tight_parse_bgp_message_strict κs a z z' e e' p q = Firmware.tight_parse_bgp_message_strict κs a z z' e e' (as_called_parse_bgp_message_strict κs a z e p) (as_called_parse_bgp_message_strict κs a z' e' q)

pub tight_parse_bgp_message_by_edition : (κs : _) (a : _) (z z' : _) (e e' : _) → parse_bgp_message_by_edition.Learnt κs a z e → parse_bgp_message_by_edition.Learnt κs a z' e' → z ≡ z'
tight_parse_bgp_message_by_edition κs a z z' e e' p q = Firmware.tight_parse_bgp_message_by_edition κs a z z' e e' (as_called_parse_bgp_message_by_edition κs a z e p) (as_called_parse_bgp_message_by_edition κs a z' e' q)

pub tight_encode_bgp_message : (κs : _) (a : _) (z z' : _) (e e' : _) → encode_bgp_message.Learnt κs a z e → encode_bgp_message.Learnt κs a z' e' → (z ≡ z') × (e.1.1.0.now ≡ e'.1.1.0.now)
tight_encode_bgp_message κs a z z' e e' p q = Firmware.tight_encode_bgp_message κs a z z' e e' (as_called_encode_bgp_message κs a z e p) (as_called_encode_bgp_message κs a z' e' q)

pub tight_withdrawn_part : (κs : _) (a : _) (z z' : _) (e e' : _) → withdrawn_part.Learnt κs a z e → withdrawn_part.Learnt κs a z' e' → z ≡ z'
tight_withdrawn_part κs a z z' e e' p q = Firmware.tight_withdrawn_part κs a z z' e e' (as_called_withdrawn_part κs a z e p) (as_called_withdrawn_part κs a z' e' q)

pub tight_attribute_part : (κs : _) (a : _) (z z' : _) (e e' : _) → attribute_part.Learnt κs a z e → attribute_part.Learnt κs a z' e' → z ≡ z'
tight_attribute_part κs a z z' e e' p q = Firmware.tight_attribute_part κs a z z' e e' (as_called_attribute_part κs a z e p) (as_called_attribute_part κs a z' e' q)

pub tight_announced_part : (κs : _) (a : _) (z z' : _) (e e' : _) → announced_part.Learnt κs a z e → announced_part.Learnt κs a z' e' → z ≡ z'
tight_announced_part κs a z z' e e' p q = Firmware.tight_announced_part κs a z z' e e' (as_called_announced_part κs a z e p) (as_called_announced_part κs a z' e' q)

pub tight_count_bgp_update_message : (κs : _) (a : _) (z z' : _) (e e' : _) → count_bgp_update_message.Learnt κs a z e → count_bgp_update_message.Learnt κs a z' e' → z ≡ z'
tight_count_bgp_update_message κs a z z' e e' p q = Firmware.tight_count_bgp_update_message κs a z z' e e' (as_called_count_bgp_update_message κs a z e p) (as_called_count_bgp_update_message κs a z' e' q)

pub tight_count_update_hosts : (κs : _) (a : _) (z z' : _) (e e' : _) → count_update_hosts.Learnt κs a z e → count_update_hosts.Learnt κs a z' e' → z ≡ z'
tight_count_update_hosts κs a z z' e e' p q = Firmware.tight_count_update_hosts κs a z z' e e' (as_called_count_update_hosts κs a z e p) (as_called_count_update_hosts κs a z' e' q)

pub tight_parse_bgp_update_message : (κs : _) (a : _) (z z' : _) (e e' : _) → parse_bgp_update_message.Learnt κs a z e → parse_bgp_update_message.Learnt κs a z' e' → (z ≡ z') × (e.1.1.0.now ≡ e'.1.1.0.now) × (e.1.1.1.0.now ≡ e'.1.1.1.0.now)
tight_parse_bgp_update_message κs a z z' e e' p q = Firmware.tight_parse_bgp_update_message κs a z z' e e' (as_called_parse_bgp_update_message κs a z e p) (as_called_parse_bgp_update_message κs a z' e' q)

pub tight_encode_bgp_update_message : (κs : _) (a : _) (z z' : _) (e e' : _) → encode_bgp_update_message.Learnt κs a z e → encode_bgp_update_message.Learnt κs a z' e' → (z ≡ z') × (e.1.1.1.1.0.now ≡ e'.1.1.1.1.0.now)
tight_encode_bgp_update_message κs a z z' e e' p q = Firmware.tight_encode_bgp_update_message κs a z z' e e' (as_called_encode_bgp_update_message κs a z e p) (as_called_encode_bgp_update_message κs a z' e' q)

pub tight_attribute_at : (κs : _) (a : _) (z z' : _) (e e' : _) → attribute_at.Learnt κs a z e → attribute_at.Learnt κs a z' e' → z ≡ z'
tight_attribute_at κs a z z' e e' p q = Firmware.tight_attribute_at κs a z z' e e' (as_called_attribute_at κs a z e p) (as_called_attribute_at κs a z' e' q)

pub tight_find_attribute : (κs : _) (a : _) (z z' : _) (e e' : _) → find_attribute.Learnt κs a z e → find_attribute.Learnt κs a z' e' → z ≡ z'
tight_find_attribute κs a z z' e e' p q = Firmware.tight_find_attribute κs a z z' e e' (as_called_find_attribute κs a z e p) (as_called_find_attribute κs a z' e' q)

pub tight_count_nlri_list : (κs : _) (a : _) (z z' : _) (e e' : _) → count_nlri_list.Learnt κs a z e → count_nlri_list.Learnt κs a z' e' → z ≡ z'
tight_count_nlri_list κs a z z' e e' p q = Firmware.tight_count_nlri_list κs a z z' e e' (as_called_count_nlri_list κs a z e p) (as_called_count_nlri_list κs a z' e' q)

pub tight_parse_nlri_list : (κs : _) (a : _) (z z' : _) (e e' : _) → parse_nlri_list.Learnt κs a z e → parse_nlri_list.Learnt κs a z' e' → (z ≡ z') × (e.1.1.1.0.now ≡ e'.1.1.1.0.now)
tight_parse_nlri_list κs a z z' e e' p q = Firmware.tight_parse_nlri_list κs a z z' e e' (as_called_parse_nlri_list κs a z e p) (as_called_parse_nlri_list κs a z' e' q)

pub tight_encode_nlri_prefixes : (κs : _) (a : _) (z z' : _) (e e' : _) → encode_nlri_prefixes.Learnt κs a z e → encode_nlri_prefixes.Learnt κs a z' e' → (z ≡ z') × (e.1.1.1.0.now ≡ e'.1.1.1.0.now)
tight_encode_nlri_prefixes κs a z z' e e' p q = Firmware.tight_encode_nlri_prefixes κs a z z' e e' (as_called_encode_nlri_prefixes κs a z e p) (as_called_encode_nlri_prefixes κs a z' e' q)

pub tight_clear_guessed : (κs : _) (a : _) (z z' : _) (e e' : _) → clear_guessed.Learnt κs a z e → clear_guessed.Learnt κs a z' e' → (z ≡ z') × (e.0.now ≡ e'.0.now)
tight_clear_guessed κs a z z' e e' p q = Firmware.tight_clear_guessed κs a z z' e e' (as_called_clear_guessed κs a z e p) (as_called_clear_guessed κs a z' e' q)

pub tight_count_index : (κs : _) (a : _) (z z' : _) (e e' : _) → count_index.Learnt κs a z e → count_index.Learnt κs a z' e' → z ≡ z'
tight_count_index κs a z z' e e' p q = Firmware.tight_count_index κs a z z' e e' (as_called_count_index κs a z e p) (as_called_count_index κs a z' e' q)

pub tight_build_index : (κs : _) (a : _) (z z' : _) (e e' : _) → build_index.Learnt κs a z e → build_index.Learnt κs a z' e' → (z ≡ z') × (e.1.1.1.0.now ≡ e'.1.1.1.0.now)
tight_build_index κs a z z' e e' p q = Firmware.tight_build_index κs a z z' e e' (as_called_build_index κs a z e p) (as_called_build_index κs a z' e' q)

pub tight_route_at : (κs : _) (a : _) (z z' : _) (e e' : _) → route_at.Learnt κs a z e → route_at.Learnt κs a z' e' → (z ≡ z') × (e.1.1.1.1.1.0.now ≡ e'.1.1.1.1.1.0.now)
tight_route_at κs a z z' e e' p q = Firmware.tight_route_at κs a z z' e e' (as_called_route_at κs a z e p) (as_called_route_at κs a z' e' q)

pub tight_count_mp_reach_nlri : (κs : _) (a : _) (z z' : _) (e e' : _) → count_mp_reach_nlri.Learnt κs a z e → count_mp_reach_nlri.Learnt κs a z' e' → z ≡ z'
tight_count_mp_reach_nlri κs a z z' e e' p q = Firmware.tight_count_mp_reach_nlri κs a z z' e e' (as_called_count_mp_reach_nlri κs a z e p) (as_called_count_mp_reach_nlri κs a z' e' q)

pub tight_parse_mp_reach_nlri : (κs : _) (a : _) (z z' : _) (e e' : _) → parse_mp_reach_nlri.Learnt κs a z e → parse_mp_reach_nlri.Learnt κs a z' e' → (z ≡ z') × (e.1.1.0.now ≡ e'.1.1.0.now)
tight_parse_mp_reach_nlri κs a z z' e e' p q = Firmware.tight_parse_mp_reach_nlri κs a z z' e e' (as_called_parse_mp_reach_nlri κs a z e p) (as_called_parse_mp_reach_nlri κs a z' e' q)

pub tight_encode_mp_reach_nlri : (κs : _) (a : _) (z z' : _) (e e' : _) → encode_mp_reach_nlri.Learnt κs a z e → encode_mp_reach_nlri.Learnt κs a z' e' → (z ≡ z') × (e.1.1.1.0.now ≡ e'.1.1.1.0.now)
tight_encode_mp_reach_nlri κs a z z' e e' p q = Firmware.tight_encode_mp_reach_nlri κs a z z' e e' (as_called_encode_mp_reach_nlri κs a z e p) (as_called_encode_mp_reach_nlri κs a z' e' q)

pub tight_count_mp_unreach_nlri : (κs : _) (a : _) (z z' : _) (e e' : _) → count_mp_unreach_nlri.Learnt κs a z e → count_mp_unreach_nlri.Learnt κs a z' e' → z ≡ z'
tight_count_mp_unreach_nlri κs a z z' e e' p q = Firmware.tight_count_mp_unreach_nlri κs a z z' e e' (as_called_count_mp_unreach_nlri κs a z e p) (as_called_count_mp_unreach_nlri κs a z' e' q)

pub tight_parse_mp_unreach_nlri : (κs : _) (a : _) (z z' : _) (e e' : _) → parse_mp_unreach_nlri.Learnt κs a z e → parse_mp_unreach_nlri.Learnt κs a z' e' → (z ≡ z') × (e.1.1.0.now ≡ e'.1.1.0.now)
tight_parse_mp_unreach_nlri κs a z z' e e' p q = Firmware.tight_parse_mp_unreach_nlri κs a z z' e e' (as_called_parse_mp_unreach_nlri κs a z e p) (as_called_parse_mp_unreach_nlri κs a z' e' q)

pub tight_encode_mp_unreach_nlri : (κs : _) (a : _) (z z' : _) (e e' : _) → encode_mp_unreach_nlri.Learnt κs a z e → encode_mp_unreach_nlri.Learnt κs a z' e' → (z ≡ z') × (e.1.1.0.now ≡ e'.1.1.0.now)
tight_encode_mp_unreach_nlri κs a z z' e e' p q = Firmware.tight_encode_mp_unreach_nlri κs a z z' e e' (as_called_encode_mp_unreach_nlri κs a z e p) (as_called_encode_mp_unreach_nlri κs a z' e' q)

pub tight_count_as_path : (κs : _) (a : _) (z z' : _) (e e' : _) → count_as_path.Learnt κs a z e → count_as_path.Learnt κs a z' e' → z ≡ z'
tight_count_as_path κs a z z' e e' p q = Firmware.tight_count_as_path κs a z z' e e' (as_called_count_as_path κs a z e p) (as_called_count_as_path κs a z' e' q)

pub tight_parse_as_path : (κs : _) (a : _) (z z' : _) (e e' : _) → parse_as_path.Learnt κs a z e → parse_as_path.Learnt κs a z' e' → (z ≡ z') × (e.1.1.0.now ≡ e'.1.1.0.now) × (e.1.1.1.0.now ≡ e'.1.1.1.0.now)
tight_parse_as_path κs a z z' e e' p q = Firmware.tight_parse_as_path κs a z z' e e' (as_called_parse_as_path κs a z e p) (as_called_parse_as_path κs a z' e' q)

pub tight_encode_as_path : (κs : _) (a : _) (z z' : _) (e e' : _) → encode_as_path.Learnt κs a z e → encode_as_path.Learnt κs a z' e' → (z ≡ z') × (e.1.1.1.0.now ≡ e'.1.1.1.0.now)
tight_encode_as_path κs a z z' e e' p q = Firmware.tight_encode_as_path κs a z z' e e' (as_called_encode_as_path κs a z e p) (as_called_encode_as_path κs a z' e' q)

pub tight_count_as_path_strict : (κs : _) (a : _) (z z' : _) (e e' : _) → count_as_path_strict.Learnt κs a z e → count_as_path_strict.Learnt κs a z' e' → z ≡ z'
tight_count_as_path_strict κs a z z' e e' p q = Firmware.tight_count_as_path_strict κs a z z' e e' (as_called_count_as_path_strict κs a z e p) (as_called_count_as_path_strict κs a z' e' q)

pub tight_parse_as_path_strict : (κs : _) (a : _) (z z' : _) (e e' : _) → parse_as_path_strict.Learnt κs a z e → parse_as_path_strict.Learnt κs a z' e' → (z ≡ z') × (e.1.1.0.now ≡ e'.1.1.0.now) × (e.1.1.1.0.now ≡ e'.1.1.1.0.now)
tight_parse_as_path_strict κs a z z' e e' p q = Firmware.tight_parse_as_path_strict κs a z z' e e' (as_called_parse_as_path_strict κs a z e p) (as_called_parse_as_path_strict κs a z' e' q)

pub tight_encode_as_path_strict : (κs : _) (a : _) (z z' : _) (e e' : _) → encode_as_path_strict.Learnt κs a z e → encode_as_path_strict.Learnt κs a z' e' → (z ≡ z') × (e.1.1.1.0.now ≡ e'.1.1.1.0.now)
tight_encode_as_path_strict κs a z z' e e' p q = Firmware.tight_encode_as_path_strict κs a z z' e e' (as_called_encode_as_path_strict κs a z e p) (as_called_encode_as_path_strict κs a z' e' q)

pub tight_parse_aggregator : (κs : _) (a : _) (z z' : _) (e e' : _) → parse_aggregator.Learnt κs a z e → parse_aggregator.Learnt κs a z' e' → (z ≡ z') × (e.1.1.0.now ≡ e'.1.1.0.now)
tight_parse_aggregator κs a z z' e e' p q = Firmware.tight_parse_aggregator κs a z z' e e' (as_called_parse_aggregator κs a z e p) (as_called_parse_aggregator κs a z' e' q)

pub tight_encode_aggregator : (κs : _) (a : _) (z z' : _) (e e' : _) → encode_aggregator.Learnt κs a z e → encode_aggregator.Learnt κs a z' e' → (z ≡ z') × (e.1.1.1.0.now ≡ e'.1.1.1.0.now)
tight_encode_aggregator κs a z z' e e' p q = Firmware.tight_encode_aggregator κs a z z' e e' (as_called_encode_aggregator κs a z e p) (as_called_encode_aggregator κs a z' e' q)

pub tight_standing_aggregator : (κs : _) (a : _) (z z' : _) (e e' : _) → standing_aggregator.Learnt κs a z e → standing_aggregator.Learnt κs a z' e' → z ≡ z'
tight_standing_aggregator κs a z z' e e' p q = Firmware.tight_standing_aggregator κs a z z' e e' (as_called_standing_aggregator κs a z e p) (as_called_standing_aggregator κs a z' e' q)

pub tight_count_merged_as_path : (κs : _) (a : _) (z z' : _) (e e' : _) → count_merged_as_path.Learnt κs a z e → count_merged_as_path.Learnt κs a z' e' → z ≡ z'
tight_count_merged_as_path κs a z z' e e' p q = Firmware.tight_count_merged_as_path κs a z z' e e' (as_called_count_merged_as_path κs a z e p) (as_called_count_merged_as_path κs a z' e' q)

pub tight_merge_as_path : (κs : _) (a : _) (z z' : _) (e e' : _) → merge_as_path.Learnt κs a z e → merge_as_path.Learnt κs a z' e' → (z ≡ z') × (e.1.1.1.1.0.now ≡ e'.1.1.1.1.0.now) × (e.1.1.1.1.1.0.now ≡ e'.1.1.1.1.1.0.now)
tight_merge_as_path κs a z z' e e' p q = Firmware.tight_merge_as_path κs a z z' e e' (as_called_merge_as_path κs a z e p) (as_called_merge_as_path κs a z' e' q)

pub tight_next_slot : (κs : _) (a : _) (z z' : _) (e e' : _) → next_slot.Learnt κs a z e → next_slot.Learnt κs a z' e' → z ≡ z'
tight_next_slot κs a z z' e e' p q = Firmware.tight_next_slot κs a z z' e e' (as_called_next_slot κs a z e p) (as_called_next_slot κs a z' e' q)

pub tight_version : (κs : _) (a : _) (z z' : _) (e e' : _) → version.Learnt κs a z e → version.Learnt κs a z' e' → z ≡ z'
tight_version κs a z z' e e' p q = Firmware.tight_version κs a z z' e e' (as_called_version κs a z e p) (as_called_version κs a z' e' q)
