-- That the sentences about scans and puts are about something: steps of a crate, as they are run, that compute to what they say.
-- Assumes nothing.
use Prim.Native.Nat.{ℕ}
use mathlib.Core.Path.{◌≡◌, refl}
use mathlib.Core.List.{List, [], ◌∷◌, ◌++◌}
use lib.ListN.{take, replicate}
use Rattle.kinds.specs.Table.{in_table}
use Rattle.blocks.specs.Blocks.{block_of, with_block}
use Rattle.station.specs.Block.{sources_of, is_used, header_tests, is_fit_header, is_fit_spare, is_fit_register, fit_tests, is_fit_block}
use Rattle.station.specs.Buffer.{without_oldest, buffer_read_of, buffer_read_and_clear_of}
use Rattle.station.specs.Group1.{read_of, read_and_clear_of, overwrite_of}
use Rattle.station.specs.Command.{functions_of, command_of}
use Rattle.dataway.specs.Crate.{empty_crate, is_fit_rest, is_fit_station, is_fit_cover, crate_tests, is_fit_crate}
use Rattle.dataway.specs.Stations.{reply_of, after_command}
use Rattle.dataway.specs.Addressed.{sent_of}
use Rattle.transfer.specs.Scan.{scanning, scan_from, scan_cycle, scan_next}
use Rattle.transfer.specs.Held.{held_in, held_from}
use Rattle.step.specs.Verdict.{command_verdict, scan_verdict, put_verdict, put_lent_verdict}
use Rattle.step.specs.declared.Step.TheVariants.{Command}
use Rattle.controller.specs.declared.Answer.TheVariants.{Transferred, Wrote}
use Rattle.controller.specs.Steps.{order, leaves, gives, step_of, done_of}
use Rattle.controller.specs.Scans.{scan, put, put_lent}
use Rattle.std.specs.Prelude.{Ok}

-- A scaler with 11, 0 and 13 in station 2, a buffer memory with 21 and 22 in 4, an empty one in 5, an output register of sixteen with 99 at A15 in 6
-- (scenario 69).
abbrev pub crate : List ℕ
crate =
    with_block (with_block (with_block (with_block empty_crate
    2 (1 ∷ 3 ∷ 0 ∷ 0 ∷ 0 ∷ 0 ∷ 1 ∷ replicate 9 0 ++ (11 ∷ 0 ∷ 13 ∷ replicate 13 0)))
    4 (4 ∷ 1 ∷ 1 ∷ 0 ∷ 0 ∷ 2 ∷ 1 ∷ replicate 9 0 ++ (21 ∷ 22 ∷ replicate 14 0)))
    5 (4 ∷ 1 ∷ 0 ∷ 0 ∷ 0 ∷ 0 ∷ 1 ∷ replicate 25 0))
    6 (2 ∷ 16 ∷ 0 ∷ 0 ∷ 0 ∷ 0 ∷ 1 ∷ replicate 24 0 ++ (99 ∷ []))

-- the same after an F2 at the buffer memory, whose head is 1 now
abbrev pub read_once : List ℕ
read_once = leaves crate (order (Ok (Command 4 0 2 0)) [])

-- a buffer of 512 words, 7 each
abbrev pub sevens : List ℕ
sevens = replicate 512 7

pub scan-samples :
    -- ScanTime, stations 2 to 5: 8 cycles are 4 words and 4 stations
    ((gives crate (scan 2 0 0 5 512 sevens)).answer ≡ Transferred (record { end = 2; words = 4; cycles = 8 }))
    -- stations 2 to 6: 24 cycles, one below 20 words and 5 stations, since none follows A15
    × ((gives crate (scan 2 0 0 6 512 sevens)).answer ≡ Transferred (record { end = 2; words = 20; cycles = 24 }))
    -- PutTime, stations 3 to 5: 3 cycles are no word and 3 stations; stations 2 to 6: 20 cycles, one below 16 words and 5 stations
    × ((gives crate (put 3 0 5 20 7 [])).answer ≡ Wrote (record { end = 2; words = 0; cycles = 3 }))
    × ((gives crate (put 2 0 6 20 7 [])).answer ≡ Wrote (record { end = 2; words = 16; cycles = 20 }))
    -- PutLentTime, stations 5 and 6: 3 cycles, one below 2 words and 2 stations; the limit was reached
    × ((gives crate (put_lent 5 0 6 2 (8 ∷ 9 ∷ []))).answer ≡ Wrote (record { end = 1; words = 2; cycles = 3 }))
    -- ScanRead, stations 2 to 5
    × (take 4 (gives crate (scan 2 0 0 5 512 sevens)).buffer ≡ 11 ∷ 0 ∷ 13 ∷ 21 ∷ [])
    × (held_from crate 4 2 0 ≡ 11 ∷ 0 ∷ 13 ∷ 21 ∷ [])
    × (leaves crate (scan 2 0 0 5 512 sevens) ≡ crate)
    -- stations 4 and 5 with the head at 1
    × ((gives read_once (scan 4 0 0 5 512 sevens)).answer ≡ Transferred (record { end = 2; words = 1; cycles = 3 }))
    × (take 1 (gives read_once (scan 4 0 0 5 512 sevens)).buffer ≡ 22 ∷ [])
    × (held_from read_once 2 4 0 ≡ 22 ∷ [])
    -- ScanReadTo, stations 2 to 4 from A1, limit 2
    × ((gives crate (scan 2 1 0 4 2 sevens)).answer ≡ Transferred (record { end = 1; words = 2; cycles = 2 }))
    × (take 2 (gives crate (scan 2 1 0 4 2 sevens)).buffer ≡ 0 ∷ 13 ∷ [])
    × (held_from crate 3 2 1 ≡ 0 ∷ 13 ∷ 21 ∷ [])
unfolding block_of with_block in_table sources_of is_used header_tests is_fit_header is_fit_spare is_fit_register fit_tests is_fit_block is_fit_rest is_fit_station is_fit_cover crate_tests
    is_fit_crate without_oldest buffer_read_of buffer_read_and_clear_of read_of read_and_clear_of overwrite_of functions_of command_of reply_of after_command sent_of scanning scan_from
    scan_cycle scan_next held_in held_from command_verdict scan_verdict put_verdict put_lent_verdict step_of done_of
scan-samples = (refl, refl, refl, refl, refl, refl, refl, refl, refl, refl, refl, refl, refl, refl)
