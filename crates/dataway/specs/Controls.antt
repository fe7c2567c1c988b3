-- The common controls of the crate (RULES 3.11 to 3.13): Z, C and Inhibit. And the Station Number Register (RULES 1.17).
use Rattle.std.specs.Prelude.{ℕ, zero, suc, List, set}
use Rattle.blocks.specs.Blocks.{block_of, with_block}
use Rattle.station.specs.Control.{initialized_of, cleared_of}

-- the memory with the block of each station from 1 to k replaced by g of the station's number and that block
unfoldable pub each_station : (ℕ → List ℕ → List ℕ) → ℕ → List ℕ → List ℕ
each_station g zero m = m
each_station g (suc k) m = with_block (each_station g k m) (suc k) (g (suc k) (block_of m (suc k)))

-- I takes v, 0 or 1
abbrev pub after_i : List ℕ → ℕ → List ℕ
after_i m v = set m 0 v

-- the Station Number Register takes w
abbrev pub after_snr : List ℕ → ℕ → List ℕ
after_snr m w = set m 1 w

-- Z zeroes every register, status, mask, head and fill, sets I to 1 and the Station Number Register to 0
unfoldable pub after_z : List ℕ → List ℕ
after_z m = after_snr (after_i (each_station (λ n. initialized_of) 23 m) 1) 0

-- C does F9 at each A below r of each station
unfoldable pub after_c : List ℕ → List ℕ
after_c m = each_station (λ n. cleared_of) 23 m
