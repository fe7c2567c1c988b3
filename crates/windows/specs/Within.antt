-- Registers inside a window (RULES 4.24, 4.25). The number of a register is its station times 16 plus its subaddress, so that ascending numbers are stations
-- ascending and then subaddresses.
use Rattle.std.specs.Prelude.{ℕ, zero, suc, ◌+◌, ◌*◌, ◌/◌, ◌%◌, ◌<◌, ◌≡◌, List, [], ◌∷◌, ◌++◌, Bool, cond, ◌&&◌, length, drop, ltb}
use Rattle.blocks.specs.Blocks.{block_of}
use Rattle.kinds.specs.Cases.{is_one_of}
use Rattle.station.specs.Block.{kind_of, count_of, register_of}
use Rattle.step.specs.Verdict.{within, places_of}

-- the block of register p's station
abbrev pub holder : List ℕ → ℕ → List ℕ
holder m p = block_of m (p / 16)

-- the kinds whose registers are listed: scaler, input register, up-down counter
abbrev pub listed_kinds : List ℕ
listed_kinds = 1 ∷ 3 ∷ 5 ∷ []

-- register p is there: it is below r of a module of those kinds
unfoldable pub is_there : List ℕ → ℕ → Bool
is_there m p = is_one_of (kind_of (holder m p)) listed_kinds && ltb (p % 16) (count_of (holder m p))

-- its unsigned 24-bit value
unfoldable pub value_of : List ℕ → ℕ → ℕ
value_of m p = register_of (holder m p) (p % 16)

-- register p is there, and its value lies from lo to hi, both included
unfoldable pub is_inside : List ℕ → (lo hi p : ℕ) → Bool
is_inside m lo hi p = is_there m p && within lo (value_of m p) hi

-- those of the k numbers from `from` on of which t holds, ascending
unfoldable pub picked : (ℕ → Bool) → (from k : ℕ) → List ℕ
picked t from zero = []
picked t from (suc k) = picked t from k ++ cond (t (from + k)) ((from + k) ∷ []) []

-- the registers of stations N to `to` inside the window from lo to hi
unfoldable pub within_of : List ℕ → (n to lo hi : ℕ) → List ℕ
within_of m n to lo hi = picked (is_inside m lo hi) (16 * n) (places_of n to)

-- the lent buffer after it: the list, and the words past it as they were
abbrev pub listed_in : List ℕ → List ℕ → List ℕ
listed_in ps buffer = ps ++ drop (length ps) buffer

-- ---- what the list is, to lay beside the request
-- every number of the list is above x
abbrev pub Above : ℕ → List ℕ → Type 0
Above x [] = Unit
Above x (y ∷ ys) = (x < y) × Above x ys

-- each number is above those before it: so each is there once
abbrev pub Ascending : List ℕ → Type 0
Ascending [] = Unit
Ascending (x ∷ xs) = Above x xs × Ascending xs

-- ps lists the registers inside the window: p is one of ps exactly where its station is one of N to `to` and it is inside; ascending
pub record Listing (m : List ℕ) (n to lo hi : ℕ) (ps : List ℕ) : Type 0 where
  pub exact : (p : ℕ) → is_one_of p ps ≡ within n (p / 16) to && is_inside m lo hi p
  pub ascending : Ascending ps

-- the list is so (`within-listing`)
abbrev pub WithinListing : Type 0
WithinListing = (m : List ℕ) (n to lo hi : ℕ) → Listing m n to lo hi (within_of m n to lo hi)

-- and no other is (`only-listing`)
abbrev pub OnlyListing : Type 0
OnlyListing = (m : List ℕ) (n to lo hi : ℕ) (ps : List ℕ) → Listing m n to lo hi ps → ps ≡ within_of m n to lo hi
