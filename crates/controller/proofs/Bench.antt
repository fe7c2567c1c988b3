-- The bench table holds: each line computes.
-- Assumes nothing.
use mathlib.Core.Path.{refl}
use Rattle.word24.specs.Word.{clear_bits}
use Rattle.word24.specs.Counter.{signed_of}
use Rattle.blocks.specs.Blocks.{block_of, with_block}
use Rattle.station.specs.Block.{sources_of}
use Rattle.station.specs.Buffer.{without_oldest, buffer_read_of, buffer_read_and_clear_of}
use Rattle.station.specs.Group1.{read_of, read_and_clear_of, read_complement_of, selective_clear_of, added_of}
use Rattle.station.specs.Lam.{test_lam_of, test_status_of}
use Rattle.station.specs.Command.{functions_of, command_of}
use Rattle.station.specs.Front.{counted_of, stored_of, kind_events_of, front_of}
use Rattle.dataway.specs.Stations.{reply_of, after_command, occupied_by, with_module}
use Rattle.transfer.specs.Cycle.{keep}
use Rattle.transfer.specs.Scan.{scanning, scan_from, scan_cycle, scan_next}
use Rattle.transfer.specs.Repeat.{repeat_next, repeat_from}
use Rattle.transfer.specs.Stop.{stop_from, stop_next}
use Rattle.controller.specs.Bench.{Bench, BesideBench}

pub bench : Bench
unfolding clear_bits signed_of block_of with_block sources_of without_oldest buffer_read_of buffer_read_and_clear_of read_of read_and_clear_of read_complement_of
    selective_clear_of added_of test_lam_of test_status_of functions_of command_of counted_of stored_of kind_events_of front_of reply_of after_command with_module occupied_by
    scanning scan_from scan_cycle scan_next repeat_next repeat_from keep stop_from stop_next
bench = (refl, refl, refl, refl, refl, refl, refl, refl, refl, refl, refl, refl, refl, refl)

pub beside-bench : BesideBench
unfolding block_of with_block read_of functions_of command_of reply_of after_command with_module occupied_by repeat_next repeat_from stop_from stop_next
beside-bench = (refl, refl)
