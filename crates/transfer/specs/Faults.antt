-- Where a Repeat and a Stop end 3 (RULES 4.22): exactly where their command is not accepted, and then in their first cycle.
use Rattle.std.specs.Prelude.{ℕ, ◌≤◌, ◌<◌, ◌≡◌, ◌⊎◌, List, []}
use Rattle.blocks.specs.Blocks.{block_of}
use Rattle.station.specs.Block.{count_of}
use Rattle.dataway.specs.Crate.{FitCrate}
use Rattle.dataway.specs.Stations.{reply_of}
use Rattle.transfer.specs.Cycle.{Ended, ended}
use Rattle.transfer.specs.Repeat.{repeat_of}
use Rattle.transfer.specs.Stop.{stop_of}

-- a transfer aimed at N, A of a fit crate: its F is 0, 2 or 3
pub record Aimed (m : List ℕ) (n a f : ℕ) : Type 0 where
  pub fit : FitCrate m
  pub first : 1 ≤ n
  pub last : n ≤ 23
  pub subaddress : a ≤ 15
  pub function : (f ≡ 0) ⊎ ((f ≡ 2) ⊎ (f ≡ 3))

-- r of station N: 0 where it is empty, 1 of a buffer memory
abbrev pub registers : List ℕ → ℕ → ℕ
registers m n = count_of (block_of m n)

-- its command is accepted at A below r, and nowhere else: not at an empty station, and not at A1 to A15 of a buffer memory
abbrev pub AcceptedBelow : Type 0
AcceptedBelow = (m : List ℕ) (n a f : ℕ) → Aimed m n a f
    → (a < registers m n → (reply_of m n a f 0).x ≡ 1) × (registers m n ≤ a → (reply_of m n a f 0).x ≡ 0)

-- end 3 exactly where the command is not accepted: then with no word and one cycle, and the crate as it was
abbrev pub EndsThree : (m : List ℕ) (n a f : ℕ) → Ended → Type 0
EndsThree m n a f e = ((reply_of m n a f 0).x ≡ 0 → e ≡ ended 3 m [] 1) × (e.end ≡ 3 → (reply_of m n a f 0).x ≡ 0)

-- EVERY REPEAT from a fit crate ends so
abbrev pub RepeatEndsThree : Type 0
RepeatEndsThree = (m : List ℕ) (n a f limit tries : ℕ) → Aimed m n a f → 1 ≤ limit → 1 ≤ tries → EndsThree m n a f (repeat_of m n a f limit tries)

-- AND EVERY STOP
abbrev pub StopEndsThree : Type 0
StopEndsThree = (m : List ℕ) (n a f limit : ℕ) → Aimed m n a f → 1 ≤ limit → EndsThree m n a f (stop_of m n a f limit)
