-- The common controls at a station (RULES 3.11, 3.12), the block of a module just put in, and of a station that it covers (RULES 7.11, 7.23).
use Rattle.std.specs.Prelude.{ℕ, zero, suc, List, ◌∷◌, replicate}
use Rattle.kinds.specs.declared.Module.{Module}
use Rattle.station.specs.Block.{count_of, zeroed_of}
use Rattle.station.specs.Command.{command_of}

-- Z zeroes every register, status, mask, head and fill
abbrev pub initialized_of : List ℕ → List ℕ
initialized_of b = zeroed_of b 0 0

-- F9 at each A below k
unfoldable pub cleared_below : ℕ → List ℕ → List ℕ
cleared_below zero b = b
cleared_below (suc k) b = (command_of (cleared_below k b) k 9 0).block

-- C does F9 at each A below r
abbrev pub cleared_of : List ℕ → List ℕ
cleared_of b = cleared_below (count_of b) b

-- the block of a module just put in: its kind, its r and its width, all else 0
abbrev pub module_of : Module → List ℕ
module_of p = p.kind ∷ p.r ∷ 0 ∷ 0 ∷ 0 ∷ 0 ∷ p.wide ∷ replicate 25 0

-- the block of an empty station that its left neighbour covers
abbrev pub covered_block : List ℕ
covered_block = 0 ∷ 0 ∷ 0 ∷ 0 ∷ 0 ∷ 0 ∷ 0 ∷ 1 ∷ replicate 24 0
