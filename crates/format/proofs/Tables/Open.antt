-- A name for all the definitions, to be unfolded together: `unfolding opened`.
use Rattle.format.specs.Answer.{◌>>=◌, need, after}
use Rattle.format.specs.Coding.{number, digits, fixed, long_of, len_of, len_bytes, len_width, oid_go, oid, tag_of, id_of, oid_bytes}
use Rattle.format.specs.Lists.{has, same, flat_all, put_in, take_out, on_hit, ask_hit}
use Rattle.format.specs.Table.{rules, find, rule_of, nameable, may_stand, may_begin, standing, sized, valued, item_rules, ended, strip, short}
use Rattle.format.specs.Run.{skip, run}
use Rattle.format.specs.Packet.{flat_item, pack_body, flat_pack, flat_entry, the_key, covered, framed, flat, sums, checksum, closed}
use Rattle.format.specs.Read.{head_of, item, pack_head, one_pack, deepen, entry, limit, opening, unsealed, closing, parse}
use Rattle.format.specs.Sheet.{val_of, target_of, part_of, content, val_bytes, target_bytes, part_bytes, sheet_bytes, field, value_at, target_at, series_at, part_at, sheet_limit, unsheet}
use Rattle.format.specs.Calls.{item_of, pack_with, series_with, pack_of, entry_of, packet_of, packed, read, write, normalise}
use Rattle.format.specs.Rows.{item_row, item_rows, pack_rows, entry_rows, seal_item, sealed, rows_of, locate}
use Rattle.format.specs.Edit.{changed, applied, val_with, in_target, in_part, edit_parts, edit_sheet, target_tags, tags_at, change_rules, turns, ending, edit_rules, in_pack, in_entry, edit_entries, edit_packet, edit}
use Rattle.format.specs.Targets.{moved, series_now, count_of, recounted, targets_in, change_parts, change_sheet, packs_in, change_entries, change_packet, new_target, at_start, target_rules, change_targets, add_target, drop_target}
use Rattle.format.specs.Show.{number_in, series_number, number_of, find_row, showable, either_row, show_in, show}
use Rattle.format.specs.Room.{leaves, one_number}

unfoldable pub opened : Unit {0}
unfolding ◌>>=◌ need after
    number digits fixed long_of len_of len_bytes len_width oid_go oid tag_of id_of oid_bytes
    has same flat_all put_in take_out on_hit ask_hit
    rules find rule_of nameable may_stand may_begin standing sized valued item_rules ended strip short
    skip run
    flat_item pack_body flat_pack flat_entry the_key covered framed flat sums checksum closed
    head_of item pack_head one_pack deepen entry limit opening unsealed closing parse
    val_of target_of part_of content val_bytes target_bytes part_bytes sheet_bytes field value_at target_at series_at part_at sheet_limit unsheet
    item_of pack_with series_with pack_of entry_of packet_of packed read write normalise
    item_row item_rows pack_rows entry_rows seal_item sealed rows_of locate
    changed applied val_with in_target in_part edit_parts edit_sheet target_tags tags_at change_rules turns ending edit_rules in_pack in_entry edit_entries edit_packet edit
    moved series_now count_of recounted targets_in change_parts change_sheet packs_in change_entries change_packet new_target at_start target_rules change_targets add_target drop_target
    number_in series_number number_of find_row showable either_row show_in show
    leaves one_number
opened = tt
