-- The bench table (RULES 8): P1 to P12 in one statement about the definitions.
use Rattle.std.specs.Prelude.{ℕ, ◌≡◌, List, ◌∷◌, ◌++◌, replicate}
use Rattle.blocks.specs.Blocks.{with_block}
use Rattle.kinds.specs.declared.Module.{Module}
use Rattle.station.specs.Outcome.{answer}
use Rattle.station.specs.Command.{command_of}
use Rattle.station.specs.Front.{front_of}
use Rattle.dataway.specs.Crate.{empty_crate}
use Rattle.dataway.specs.Stations.{with_module}
use Rattle.transfer.specs.Cycle.{transfer_of}
use Rattle.transfer.specs.Scan.{scan_of}
use Rattle.transfer.specs.Repeat.{repeat_of}
use Rattle.transfer.specs.Stop.{stop_of}

-- the block of a module one station wide with one register, which holds v
abbrev pub holding : (kind status mask v : ℕ) → List ℕ
holding kind status mask v = kind ∷ 1 ∷ status ∷ mask ∷ 0 ∷ 0 ∷ 1 ∷ replicate 9 0 ++ (v ∷ replicate 15 0)

-- the block of such a buffer memory that holds sixteen words, 7 each, and of one that holds two
abbrev pub full : (status : ℕ) → List ℕ
full status = 4 ∷ 1 ∷ status ∷ 0 ∷ 0 ∷ 16 ∷ 1 ∷ replicate 9 0 ++ replicate 16 7

abbrev pub two : List ℕ
two = 4 ∷ 1 ∷ 1 ∷ 0 ∷ 0 ∷ 2 ∷ 1 ∷ replicate 9 0 ++ (7 ∷ 8 ∷ replicate 14 0)

-- a scaler with sixteen registers, and a buffer memory, in station 1 and one station wide
abbrev pub scaler : Module
scaler = record { n = 1; kind = 1; r = 16; wide = 1 }

abbrev pub buffer : Module
buffer = record { n = 1; kind = 4; r = 1; wide = 1 }

abbrev pub Bench : Type 0
Bench =
    -- P1 scaler 16777215, v 1: 0, bit set
    (front_of 0 (holding 1 0 0 16777215) 0 1 ≡ record { block = holding 1 1 0 0; taken = 2 })
    -- P2 v 0: unchanged, no bit
    × (front_of 0 (holding 1 0 0 16777215) 0 0 ≡ record { block = holding 1 0 0 16777215; taken = 1 })
    -- P3 counter 8388607, v 1: 8388608, bit
    × (front_of 0 (holding 5 0 0 8388607) 0 1 ≡ record { block = holding 5 1 0 8388608; taken = 2 })
    -- P4 counter 0, v 16777215: 16777215, no bit
    × (front_of 0 (holding 5 0 0 0) 0 16777215 ≡ record { block = holding 5 0 0 16777215; taken = 1 })
    -- P5 counter 16777215, v 1: 0, bit
    × (front_of 0 (holding 5 0 0 16777215) 0 1 ≡ record { block = holding 5 1 0 0; taken = 2 })
    -- P6 F3 on 5: 16777210
    × (command_of (holding 1 0 0 5) 0 3 0 ≡ answer (holding 1 0 0 5) 1 1 16777210)
    -- P7 F21 on 15, W 5: 10
    × (command_of (holding 2 0 0 15) 0 21 5 ≡ answer (holding 2 0 0 10) 1 1 0)
    -- P8 status 1, mask 0: F8 Q = 0, F27 Q = 1
    × (command_of (holding 1 1 0 0) 0 8 0 ≡ answer (holding 1 1 0 0) 1 0 0)
    × (command_of (holding 1 1 0 0) 0 27 0 ≡ answer (holding 1 1 0 0) 1 1 0)
    -- P9 seventeenth buffer word: not taken, bit 1; its digit is 3
    × (front_of 0 (full 1) 0 9 ≡ record { block = full 3; taken = 3 })
    -- P10 scan of one r = 16 scaler: limit 16 ends 1, limit 17 ends 2, 16 cycles each
    × (transfer_of (scan_of (with_module empty_crate scaler) 1 0 0 1 16) ≡ record { end = 1; words = 16; cycles = 16 })
    × (transfer_of (scan_of (with_module empty_crate scaler) 1 0 0 1 17) ≡ record { end = 2; words = 16; cycles = 16 })
    -- P11 Repeat F2 on an empty buffer, tries 3: 0 words, 3 cycles, end 2
    × (transfer_of (repeat_of (with_module empty_crate buffer) 1 0 2 1 3) ≡ record { end = 2; words = 0; cycles = 3 })
    -- P12 Stop F2 on a buffer of 2, limit 4: 2 words, 3 cycles, end 2
    × (transfer_of (stop_of (with_block empty_crate 1 two) 1 0 2 4) ≡ record { end = 2; words = 2; cycles = 3 })

-- beside the table: transfers whose command is not accepted (RULES 4.21)
abbrev pub BesideBench : Type 0
BesideBench =
    -- Repeat F0 at an empty station, tries 3: 0 words, 1 cycle, end 3
    (transfer_of (repeat_of empty_crate 1 0 0 1 3) ≡ record { end = 3; words = 0; cycles = 1 })
    -- Stop F0 at A = r of a scaler: the same
    × (transfer_of (stop_of (with_module empty_crate (record { n = 1; kind = 1; r = 2; wide = 1 })) 1 2 0 1) ≡ record { end = 3; words = 0; cycles = 1 })
