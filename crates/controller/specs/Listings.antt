-- Registers inside a window (RULES 4.24 to 4.26, 6.29): said of a step as it is run, from any memory and with any buffer.
use Rattle.std.specs.Prelude.{ℕ, ◌+◌, ◌-◌, ◌*◌, ◌/◌, ◌%◌, ◌≤◌, ◌≡◌, true, List, length, take, drop, Ok}
use Rattle.blocks.specs.Blocks.{word, block_of}
use Rattle.kinds.specs.Cases.{is_one_of}
use Rattle.dataway.specs.Crate.{FitCrate}
use Rattle.windows.specs.Within.{within_of, Ascending}
use Rattle.windows.specs.Found.{Found}
use Rattle.step.specs.declared.Step.TheVariants.{Within}
use Rattle.controller.specs.declared.Answer.TheVariants.{Listed}
use Rattle.controller.specs.Steps.{Order, order, listed, step_of, leaves, gives}

-- a listing of stations N to `to` with the window from lo to hi, lent the buffer b
abbrev pub listing : (n to lo hi : ℕ) (b : List ℕ) → Order
listing n to lo hi b = order (Ok (Within n to lo hi)) b

-- the first `count` words of the buffer b' are the registers found, where the buffer was b
pub record Finds (m : List ℕ) (n to lo hi : ℕ) (b b' : List ℕ) (count : ℕ) : Type 0 where
  -- each register of stations N to `to` where F0 reads a word from lo to hi is among them, by its number
  pub each : (k a : ℕ) → n ≤ k → k ≤ to → a ≤ 15 → Found m lo hi k a → is_one_of (16 * k + a) (take count b') ≡ true
  -- and no other number is
  pub only : (p : ℕ) → is_one_of p (take count b') ≡ true → (n ≤ p / 16) × (p / 16 ≤ to) × Found m lo hi (p / 16) (p % 16)
  -- each once, stations ascending and then subaddresses
  pub ascending : Ascending (take count b')
  -- so many words are there, and those past them are as they were
  pub long : length (take count b') ≡ count
  pub rest : drop count b' ≡ drop count b

-- EVERY LISTING THAT IS NOT REFUSED finds them, and leaves the crate as it was
abbrev pub ListingFinds : Type 0
ListingFinds = (m : List ℕ) (n to lo hi : ℕ) (b : List ℕ) (count : ℕ)
    → (gives m (listing n to lo hi b)).answer ≡ Listed count
    → Finds m n to lo hi b (gives m (listing n to lo hi b)).buffer count × (leaves m (listing n to lo hi b) ≡ m)

-- its fields are within their bounds, and sixteen words a station are lent, however few registers there are to list
abbrev pub InBounds : (n to lo hi lent : ℕ) → Type 0
InBounds n to lo hi lent = (1 ≤ n) × (n ≤ to) × (to ≤ 23) × (lo ≤ hi) × (hi ≤ 16777215) × (16 * (to - n + 1) ≤ lent)

-- IT IS DONE EXACTLY WHERE the crate is fit and that holds
pub record ListingDone : Type 0 where
  pub done : (m : List ℕ) (n to lo hi : ℕ) (b : List ℕ) → FitCrate m → InBounds n to lo hi (length b)
      → step_of m (listing n to lo hi b) ≡ listed (within_of m n to lo hi) m b
  pub only : (m : List ℕ) (n to lo hi : ℕ) (b : List ℕ) (count : ℕ) → (gives m (listing n to lo hi b)).answer ≡ Listed count
      → FitCrate m × InBounds n to lo hi (length b)

-- IT READS THE BLOCKS OF N TO `to` AND NOTHING ELSE: neither I nor the rest of block 0. From two fit crates with these blocks alike it gives the same
abbrev pub ListingReads : Type 0
ListingReads = (m m' : List ℕ) (n to lo hi : ℕ) (b : List ℕ) → FitCrate m → FitCrate m' → ((i : ℕ) → n ≤ i → i ≤ to → block_of m i ≡ block_of m' i)
    → gives m (listing n to lo hi b) ≡ gives m' (listing n to lo hi b)

-- NO REGISTER OF A COVERED STATION is listed
abbrev pub CoveredUnlisted : Type 0
CoveredUnlisted = (m : List ℕ) (n to lo hi : ℕ) (b : List ℕ) (count p : ℕ)
    → (gives m (listing n to lo hi b)).answer ≡ Listed count
    → word m (p / 16) 7 ≡ 1
    → is_one_of p (take count (gives m (listing n to lo hi b)).buffer) ≡ true → ⊥
