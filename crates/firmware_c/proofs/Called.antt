-- What an export promises is what the function of firmware promises that it calls: what is shown of that function, of the same values, is shown of the export.
use Rattle.firmware_c.proofs.message.doorbramble_parse_bgp_message.Reads as parse_bgp_message
use Rattle.firmware.proofs.message.doorbramble_parse_bgp_message.Reads as called_parse_bgp_message
use Rattle.firmware_c.proofs.message.doorbramble_parse_bgp_message_strict.Reads as parse_bgp_message_strict
use Rattle.firmware.proofs.message.doorbramble_parse_bgp_message_strict.Reads as called_parse_bgp_message_strict
use Rattle.firmware_c.proofs.message.doorbramble_parse_bgp_message_by_edition.Reads as parse_bgp_message_by_edition
use Rattle.firmware.proofs.message.doorbramble_parse_bgp_message_by_edition.Reads as called_parse_bgp_message_by_edition
use Rattle.firmware_c.proofs.message.doorbramble_encode_bgp_message.Reads as encode_bgp_message
use Rattle.firmware.proofs.message.doorbramble_encode_bgp_message.Reads as called_encode_bgp_message
use Rattle.firmware_c.proofs.update.doorbramble_withdrawn_part.Reads as withdrawn_part
use Rattle.firmware.proofs.update.doorbramble_withdrawn_part.Reads as called_withdrawn_part
use Rattle.firmware_c.proofs.update.doorbramble_attribute_part.Reads as attribute_part
use Rattle.firmware.proofs.update.doorbramble_attribute_part.Reads as called_attribute_part
use Rattle.firmware_c.proofs.update.doorbramble_announced_part.Reads as announced_part
use Rattle.firmware.proofs.update.doorbramble_announced_part.Reads as called_announced_part
use Rattle.firmware_c.proofs.update.doorbramble_count_bgp_update_message.Reads as count_bgp_update_message
use Rattle.firmware.proofs.update.doorbramble_count_bgp_update_message.Reads as called_count_bgp_update_message
use Rattle.firmware_c.proofs.update.doorbramble_count_update_hosts.Reads as count_update_hosts
use Rattle.firmware.proofs.update.doorbramble_count_update_hosts.Reads as called_count_update_hosts
use Rattle.firmware_c.proofs.update.doorbramble_parse_bgp_update_message.Reads as parse_bgp_update_message
use Rattle.firmware.proofs.update.doorbramble_parse_bgp_update_message.Reads as called_parse_bgp_update_message
use Rattle.firmware_c.proofs.update.doorbramble_encode_bgp_update_message.Reads as encode_bgp_update_message
use Rattle.firmware.proofs.update.doorbramble_encode_bgp_update_message.Reads as called_encode_bgp_update_message
use Rattle.firmware_c.proofs.attribute.doorbramble_attribute_at.Reads as attribute_at
use Rattle.firmware.proofs.attribute.doorbramble_attribute_at.Reads as called_attribute_at
use Rattle.firmware_c.proofs.attribute.doorbramble_find_attribute.Reads as find_attribute
use Rattle.firmware.proofs.attribute.doorbramble_find_attribute.Reads as called_find_attribute
use Rattle.firmware_c.proofs.list.doorbramble_count_nlri_list.Reads as count_nlri_list
use Rattle.firmware.proofs.list.doorbramble_count_nlri_list.Reads as called_count_nlri_list
use Rattle.firmware_c.proofs.list.doorbramble_parse_nlri_list.Reads as parse_nlri_list
use Rattle.firmware.proofs.list.doorbramble_parse_nlri_list.Reads as called_parse_nlri_list
use Rattle.firmware_c.proofs.list.doorbramble_encode_nlri_prefixes.Reads as encode_nlri_prefixes
use Rattle.firmware.proofs.list.doorbramble_encode_nlri_prefixes.Reads as called_encode_nlri_prefixes
use Rattle.firmware_c.proofs.list.doorbramble_clear_guessed.Reads as clear_guessed
use Rattle.firmware.proofs.list.doorbramble_clear_guessed.Reads as called_clear_guessed
use Rattle.firmware_c.proofs.index.doorbramble_count_index.Reads as count_index
use Rattle.firmware.proofs.index.doorbramble_count_index.Reads as called_count_index
use Rattle.firmware_c.proofs.index.doorbramble_build_index.Reads as build_index
use Rattle.firmware.proofs.index.doorbramble_build_index.Reads as called_build_index
use Rattle.firmware_c.proofs.index.doorbramble_route_at.Reads as route_at
use Rattle.firmware.proofs.index.doorbramble_route_at.Reads as called_route_at
use Rattle.firmware_c.proofs.mp.doorbramble_count_mp_reach_nlri.Reads as count_mp_reach_nlri
use Rattle.firmware.proofs.mp.doorbramble_count_mp_reach_nlri.Reads as called_count_mp_reach_nlri
use Rattle.firmware_c.proofs.mp.doorbramble_parse_mp_reach_nlri.Reads as parse_mp_reach_nlri
use Rattle.firmware.proofs.mp.doorbramble_parse_mp_reach_nlri.Reads as called_parse_mp_reach_nlri
use Rattle.firmware_c.proofs.mp.doorbramble_encode_mp_reach_nlri.Reads as encode_mp_reach_nlri
use Rattle.firmware.proofs.mp.doorbramble_encode_mp_reach_nlri.Reads as called_encode_mp_reach_nlri
use Rattle.firmware_c.proofs.mp.doorbramble_count_mp_unreach_nlri.Reads as count_mp_unreach_nlri
use Rattle.firmware.proofs.mp.doorbramble_count_mp_unreach_nlri.Reads as called_count_mp_unreach_nlri
use Rattle.firmware_c.proofs.mp.doorbramble_parse_mp_unreach_nlri.Reads as parse_mp_unreach_nlri
use Rattle.firmware.proofs.mp.doorbramble_parse_mp_unreach_nlri.Reads as called_parse_mp_unreach_nlri
use Rattle.firmware_c.proofs.mp.doorbramble_encode_mp_unreach_nlri.Reads as encode_mp_unreach_nlri
use Rattle.firmware.proofs.mp.doorbramble_encode_mp_unreach_nlri.Reads as called_encode_mp_unreach_nlri
use Rattle.firmware_c.proofs.path.doorbramble_count_as_path.Reads as count_as_path
use Rattle.firmware.proofs.path.doorbramble_count_as_path.Reads as called_count_as_path
use Rattle.firmware_c.proofs.path.doorbramble_parse_as_path.Reads as parse_as_path
use Rattle.firmware.proofs.path.doorbramble_parse_as_path.Reads as called_parse_as_path
use Rattle.firmware_c.proofs.path.doorbramble_encode_as_path.Reads as encode_as_path
use Rattle.firmware.proofs.path.doorbramble_encode_as_path.Reads as called_encode_as_path
use Rattle.firmware_c.proofs.path.doorbramble_count_as_path_strict.Reads as count_as_path_strict
use Rattle.firmware.proofs.path.doorbramble_count_as_path_strict.Reads as called_count_as_path_strict
use Rattle.firmware_c.proofs.path.doorbramble_parse_as_path_strict.Reads as parse_as_path_strict
use Rattle.firmware.proofs.path.doorbramble_parse_as_path_strict.Reads as called_parse_as_path_strict
use Rattle.firmware_c.proofs.path.doorbramble_encode_as_path_strict.Reads as encode_as_path_strict
use Rattle.firmware.proofs.path.doorbramble_encode_as_path_strict.Reads as called_encode_as_path_strict
use Rattle.firmware_c.proofs.aggregator.doorbramble_parse_aggregator.Reads as parse_aggregator
use Rattle.firmware.proofs.aggregator.doorbramble_parse_aggregator.Reads as called_parse_aggregator
use Rattle.firmware_c.proofs.aggregator.doorbramble_encode_aggregator.Reads as encode_aggregator
use Rattle.firmware.proofs.aggregator.doorbramble_encode_aggregator.Reads as called_encode_aggregator
use Rattle.firmware_c.proofs.merge.doorbramble_standing_aggregator.Reads as standing_aggregator
use Rattle.firmware.proofs.merge.doorbramble_standing_aggregator.Reads as called_standing_aggregator
use Rattle.firmware_c.proofs.merge.doorbramble_count_merged_as_path.Reads as count_merged_as_path
use Rattle.firmware.proofs.merge.doorbramble_count_merged_as_path.Reads as called_count_merged_as_path
use Rattle.firmware_c.proofs.merge.doorbramble_merge_as_path.Reads as merge_as_path
use Rattle.firmware.proofs.merge.doorbramble_merge_as_path.Reads as called_merge_as_path
use Rattle.firmware_c.proofs.slot.doorbramble_next_slot.Reads as next_slot
use Rattle.firmware.proofs.slot.doorbramble_next_slot.Reads as called_next_slot
use Rattle.firmware_c.proofs.version.doorbramble_version.Reads as version
use Rattle.firmware.proofs.version.doorbramble_version.Reads as called_version

pub as_called_parse_bgp_message : (κs : _) (a : _) (z : _) (e : _) → parse_bgp_message.Learnt κs a z e → called_parse_bgp_message.Learnt κs a z e
as_called_parse_bgp_message κs a z e p = p

pub as_called_parse_bgp_message_strict : (κs : _) (a : _) (z : _) (e : _) → parse_bgp_message_strict.Learnt κs a z e → called_parse_bgp_message_strict.Learnt κs a z e
as_called_parse_bgp_message_strict κs a z e p = p

pub as_called_parse_bgp_message_by_edition : (κs : _) (a : _) (z : _) (e : _) → parse_bgp_message_by_edition.Learnt κs a z e → called_parse_bgp_message_by_edition.Learnt κs a z e
as_called_parse_bgp_message_by_edition κs a z e p = p

pub as_called_encode_bgp_message : (κs : _) (a : _) (z : _) (e : _) → encode_bgp_message.Learnt κs a z e → called_encode_bgp_message.Learnt κs a z e
as_called_encode_bgp_message κs a z e p = p

pub as_called_withdrawn_part : (κs : _) (a : _) (z : _) (e : _) → withdrawn_part.Learnt κs a z e → called_withdrawn_part.Learnt κs a z e
as_called_withdrawn_part κs a z e p = p

pub as_called_attribute_part : (κs : _) (a : _) (z : _) (e : _) → attribute_part.Learnt κs a z e → called_attribute_part.Learnt κs a z e
as_called_attribute_part κs a z e p = p

pub as_called_announced_part : (κs : _) (a : _) (z : _) (e : _) → announced_part.Learnt κs a z e → called_announced_part.Learnt κs a z e
as_called_announced_part κs a z e p = p

pub as_called_count_bgp_update_message : (κs : _) (a : _) (z : _) (e : _) → count_bgp_update_message.Learnt κs a z e → called_count_bgp_update_message.Learnt κs a z e
as_called_count_bgp_update_message κs a z e p = p

pub as_called_count_update_hosts : (κs : _) (a : _) (z : _) (e : _) → count_update_hosts.Learnt κs a z e → called_count_update_hosts.Learnt κs a z e
as_called_count_update_hosts κs a z e p = p

pub as_called_parse_bgp_update_message : (κs : _) (a : _) (z : _) (e : _) → parse_bgp_update_message.Learnt κs a z e → called_parse_bgp_update_message.Learnt κs a z e
as_called_parse_bgp_update_message κs a z e p = p

pub as_called_encode_bgp_update_message : (κs : _) (a : _) (z : _) (e : _) → encode_bgp_update_message.Learnt κs a z e → called_encode_bgp_update_message.Learnt κs a z e
as_called_encode_bgp_update_message κs a z e p = p

pub as_called_attribute_at : (κs : _) (a : _) (z : _) (e : _) → attribute_at.Learnt κs a z e → called_attribute_at.Learnt κs a z e
as_called_attribute_at κs a z e p = p

pub as_called_find_attribute : (κs : _) (a : _) (z : _) (e : _) → find_attribute.Learnt κs a z e → called_find_attribute.Learnt κs a z e
as_called_find_attribute κs a z e p = p

pub as_called_count_nlri_list : (κs : _) (a : _) (z : _) (e : _) → count_nlri_list.Learnt κs a z e → called_count_nlri_list.Learnt κs a z e
as_called_count_nlri_list κs a z e p = p

pub as_called_parse_nlri_list : (κs : _) (a : _) (z : _) (e : _) → parse_nlri_list.Learnt κs a z e → called_parse_nlri_list.Learnt κs a z e
as_called_parse_nlri_list κs a z e p = p

pub as_called_encode_nlri_prefixes : (κs : _) (a : _) (z : _) (e : _) → encode_nlri_prefixes.Learnt κs a z e → called_encode_nlri_prefixes.Learnt κs a z e
as_called_encode_nlri_prefixes κs a z e p = p

pub as_called_clear_guessed : (κs : _) (a : _) (z : _) (e : _) → clear_guessed.Learnt κs a z e → called_clear_guessed.Learnt κs a z e
as_called_clear_guessed κs a z e p = p

pub as_called_count_index : (κs : _) (a : _) (z : _) (e : _) → count_index.Learnt κs a z e → called_count_index.Learnt κs a z e
as_called_count_index κs a z e p = p

pub as_called_build_index : (κs : _) (a : _) (z : _) (e : _) → build_index.Learnt κs a z e → called_build_index.Learnt κs a z e
as_called_build_index κs a z e p = p

pub as_called_route_at : (κs : _) (a : _) (z : _) (e : _) → route_at.Learnt κs a z e → called_route_at.Learnt κs a z e
as_called_route_at κs a z e p = p

pub as_called_count_mp_reach_nlri : (κs : _) (a : _) (z : _) (e : _) → count_mp_reach_nlri.Learnt κs a z e → called_count_mp_reach_nlri.Learnt κs a z e
as_called_count_mp_reach_nlri κs a z e p = p

pub as_called_parse_mp_reach_nlri : (κs : _) (a : _) (z : _) (e : _) → parse_mp_reach_nlri.Learnt κs a z e → called_parse_mp_reach_nlri.Learnt κs a z e
as_called_parse_mp_reach_nlri κs a z e p = p

pub as_called_encode_mp_reach_nlri : (κs : _) (a : _) (z : _) (e : _) → encode_mp_reach_nlri.Learnt κs a z e → called_encode_mp_reach_nlri.Learnt κs a z e
as_called_encode_mp_reach_nlri κs a z e p = p

pub as_called_count_mp_unreach_nlri : (κs : _) (a : _) (z : _) (e : _) → count_mp_unreach_nlri.Learnt κs a z e → called_count_mp_unreach_nlri.Learnt κs a z e
as_called_count_mp_unreach_nlri κs a z e p = p

pub as_called_parse_mp_unreach_nlri : (κs : _) (a : _) (z : _) (e : _) → parse_mp_unreach_nlri.Learnt κs a z e → called_parse_mp_unreach_nlri.Learnt κs a z e
as_called_parse_mp_unreach_nlri κs a z e p = p

pub as_called_encode_mp_unreach_nlri : (κs : _) (a : _) (z : _) (e : _) → encode_mp_unreach_nlri.Learnt κs a z e → called_encode_mp_unreach_nlri.Learnt κs a z e
as_called_encode_mp_unreach_nlri κs a z e p = p

pub as_called_count_as_path : (κs : _) (a : _) (z : _) (e : _) → count_as_path.Learnt κs a z e → called_count_as_path.Learnt κs a z e
as_called_count_as_path κs a z e p = p

pub as_called_parse_as_path : (κs : _) (a : _) (z : _) (e : _) → parse_as_path.Learnt κs a z e → called_parse_as_path.Learnt κs a z e
as_called_parse_as_path κs a z e p = p

pub as_called_encode_as_path : (κs : _) (a : _) (z : _) (e : _) → encode_as_path.Learnt κs a z e → called_encode_as_path.Learnt κs a z e
as_called_encode_as_path κs a z e p = p

pub as_called_count_as_path_strict : (κs : _) (a : _) (z : _) (e : _) → count_as_path_strict.Learnt κs a z e → called_count_as_path_strict.Learnt κs a z e
as_called_count_as_path_strict κs a z e p = p

pub as_called_parse_as_path_strict : (κs : _) (a : _) (z : _) (e : _) → parse_as_path_strict.Learnt κs a z e → called_parse_as_path_strict.Learnt κs a z e
as_called_parse_as_path_strict κs a z e p = p

pub as_called_encode_as_path_strict : (κs : _) (a : _) (z : _) (e : _) → encode_as_path_strict.Learnt κs a z e → called_encode_as_path_strict.Learnt κs a z e
as_called_encode_as_path_strict κs a z e p = p

pub as_called_parse_aggregator : (κs : _) (a : _) (z : _) (e : _) → parse_aggregator.Learnt κs a z e → called_parse_aggregator.Learnt κs a z e
as_called_parse_aggregator κs a z e p = p

pub as_called_encode_aggregator : (κs : _) (a : _) (z : _) (e : _) → encode_aggregator.Learnt κs a z e → called_encode_aggregator.Learnt κs a z e
as_called_encode_aggregator κs a z e p = p

pub as_called_standing_aggregator : (κs : _) (a : _) (z : _) (e : _) → standing_aggregator.Learnt κs a z e → called_standing_aggregator.Learnt κs a z e
as_called_standing_aggregator κs a z e p = p

pub as_called_count_merged_as_path : (κs : _) (a : _) (z : _) (e : _) → count_merged_as_path.Learnt κs a z e → called_count_merged_as_path.Learnt κs a z e
as_called_count_merged_as_path κs a z e p = p

pub as_called_merge_as_path : (κs : _) (a : _) (z : _) (e : _) → merge_as_path.Learnt κs a z e → called_merge_as_path.Learnt κs a z e
as_called_merge_as_path κs a z e p = p

pub as_called_next_slot : (κs : _) (a : _) (z : _) (e : _) → next_slot.Learnt κs a z e → called_next_slot.Learnt κs a z e
as_called_next_slot κs a z e p = p

pub as_called_version : (κs : _) (a : _) (z : _) (e : _) → version.Learnt κs a z e → called_version.Learnt κs a z e
as_called_version κs a z e p = p
