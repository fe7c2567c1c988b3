-- The Look-at-Me reading in plain words (RULES 3.16, 3.17): count is how many stations request, first is the lowest of them or 0.
use Rattle.std.specs.Prelude.{ℕ, ◌≤◌, ◌<◌, ◌≡◌, List, length, get_or}
use Rattle.blocks.specs.Blocks.{block_of}
use Rattle.station.specs.Block.{request_of}
use Rattle.dataway.specs.Lam.{lam_of}

-- station n has status AND mask above 0
abbrev pub Asks : List ℕ → ℕ → Type 0
Asks m n = 1 ≤ request_of (block_of m n)

-- ns are the stations that request, each once, from the lowest up
pub record Asking (m ns : List ℕ) : Type 0 where
  pub only : (i : ℕ) → i < length ns → (1 ≤ get_or ns i 0) × (get_or ns i 0 ≤ 23) × Asks m (get_or ns i 0)
  pub each : (n : ℕ) → 1 ≤ n → n ≤ 23 → Asks m n → (i : ℕ) × (i < length ns) × (get_or ns i 0 ≡ n)
  pub rising : (i j : ℕ) → i < j → j < length ns → get_or ns i 0 < get_or ns j 0

-- count is their number; first is the first of them, or 0 where there is none
abbrev pub CountAndFirst : Type 0
CountAndFirst = (m : List ℕ) → (ns : List ℕ) × Asking m ns × ((lam_of m).count ≡ length ns) × ((lam_of m).first ≡ get_or ns 0 0)
