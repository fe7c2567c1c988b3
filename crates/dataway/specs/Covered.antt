-- A covered station answers as an empty one (RULES 1.16).
use Rattle.std.specs.Prelude.{ℕ, ◌≤◌, ◌≡◌, List, false}
use Rattle.blocks.specs.Blocks.{word, block_of}
use Rattle.station.specs.Block.{count_of}
use Rattle.dataway.specs.Crate.{FitCrate}
use Rattle.dataway.specs.Stations.{reply_of, after_command, taken_of, after_front}
use Rattle.dataway.specs.Lam.{is_requesting}

-- station n answers as an empty one: it has no register, no command is accepted and no front event taken, both leave all 768 words, and it does not request
pub record AsEmpty (m : List ℕ) (n : ℕ) : Type 0 where
  pub registers : count_of (block_of m n) ≡ 0
  pub reply : (a f w : ℕ) → reply_of m n a f w ≡ record { x = 0; q = 0; r = 0 }
  pub command : (a f w : ℕ) → after_command m n a f w ≡ m
  pub taken : (a v : ℕ) → taken_of m n a v ≡ 0
  pub front : (a v : ℕ) → after_front m n a v ≡ m
  pub request : is_requesting m n ≡ false

-- in a fit crate every covered station does
abbrev pub CoveredAsEmpty : Type 0
CoveredAsEmpty = (m : List ℕ) → FitCrate m → (n : ℕ) → 1 ≤ n → n ≤ 23 → word m n 7 ≡ 1 → AsEmpty m n
