-- The number tells the refusal: the table has a row for each number from 1 to `refusals`, and a refusal's number leads to its row.
-- Assumes nothing.
use mathlib.Core.Path.{◌≡◌, refl, sym, ap, ◌∙◌}
use mathlib.Core.List.{List, [], ◌∷◌}
use Prim.Native.Nat.{ℕ, ◌-◌, ◌≤◌}
use native.Mathlib.Omega.{arith}
use lib.ListN.{length, get_or}
use Rattle.step.specs.declared.Refusal.{Refusal}
use Rattle.step.specs.declared.Refusal.TheVariants.{Garbled, NoSuchStation, NoSuchSubaddress, NoSuchFunction, OverwideWord, CrossedRange, BadLength}
use Rattle.step.specs.declared.Refusal.TheVariants.{ShortBuffer, UnfitCrate, BadModule, OutOfOrder, CoveredStation, LongTransfer, CrossedWindow}
use Rattle.step.specs.Refusals.{refusal_number, refusals}

-- the rows
abbrev pub rows : List Refusal
rows =
    Garbled ∷ NoSuchStation ∷ NoSuchSubaddress ∷ NoSuchFunction ∷ OverwideWord ∷ CrossedRange ∷ BadLength
    ∷ ShortBuffer ∷ UnfitCrate ∷ BadModule ∷ OutOfOrder ∷ CoveredStation ∷ LongTransfer ∷ CrossedWindow ∷ []

-- there are no more and no fewer than are named
pub rows-count : length rows ≡ refusals
rows-count = refl

-- the row of a number
abbrev pub row : ℕ → Refusal
row k = get_or rows (k - 1) Garbled

-- a refusal's number is one of the table's, and its row is the refusal
pub record Numbered (q : Refusal) : Type 0 where
  pub low : 1 ≤ refusal_number q
  pub high : refusal_number q ≤ refusals
  pub back : row (refusal_number q) ≡ q

pub numbered : (q : Refusal) → Numbered q
numbered Garbled = record { low = omega arith; high = omega arith; back = refl }
numbered NoSuchStation = record { low = omega arith; high = omega arith; back = refl }
numbered NoSuchSubaddress = record { low = omega arith; high = omega arith; back = refl }
numbered NoSuchFunction = record { low = omega arith; high = omega arith; back = refl }
numbered OverwideWord = record { low = omega arith; high = omega arith; back = refl }
numbered CrossedRange = record { low = omega arith; high = omega arith; back = refl }
numbered BadLength = record { low = omega arith; high = omega arith; back = refl }
numbered ShortBuffer = record { low = omega arith; high = omega arith; back = refl }
numbered UnfitCrate = record { low = omega arith; high = omega arith; back = refl }
numbered BadModule = record { low = omega arith; high = omega arith; back = refl }
numbered OutOfOrder = record { low = omega arith; high = omega arith; back = refl }
numbered CoveredStation = record { low = omega arith; high = omega arith; back = refl }
numbered LongTransfer = record { low = omega arith; high = omega arith; back = refl }
numbered CrossedWindow = record { low = omega arith; high = omega arith; back = refl }

-- a refusal's number leads back to it
pub row_number : (q : Refusal) → row (refusal_number q) ≡ q
row_number q = (numbered q).back

-- two refusals with one number are one
pub number-injective : (q p : Refusal) → refusal_number q ≡ refusal_number p → q ≡ p
number-injective q p e = sym (row_number q) ∙ ap row e ∙ row_number p
