-- A register inside a window, said by what F0 reads of it (RULES 4.25).
use Rattle.std.specs.Prelude.{ℕ, ◌+◌, ◌*◌, ◌/◌, ◌%◌, ◌≤◌, ◌≡◌, true, List, ◌⊎◌}
use Rattle.blocks.specs.Blocks.{word}
use Rattle.dataway.specs.Stations.{reply_of}
use Rattle.windows.specs.Within.{is_inside}

-- the kind of a scaler, an input register or an up-down counter
abbrev pub ListedKind : ℕ → Type 0
ListedKind kind = (kind ≡ 1) ⊎ ((kind ≡ 3) ⊎ (kind ≡ 5))

-- station N has a module of such a kind, and F0 at A reads a word from lo to hi there, with Q = 1
pub record Found (m : List ℕ) (lo hi n a : ℕ) : Type 0 where
  pub kind : ListedKind (word m n 0)
  pub answers : (reply_of m n a 0 0).q ≡ 1
  pub low : lo ≤ (reply_of m n a 0 0).r
  pub high : (reply_of m n a 0 0).r ≤ hi

-- each such register is inside, and no other is (`inside_found`)
pub record InsideFound : Type 0 where
  pub each : (m : List ℕ) (lo hi n a : ℕ) → a ≤ 15 → Found m lo hi n a → is_inside m lo hi (16 * n + a) ≡ true
  pub only : (m : List ℕ) (lo hi p : ℕ) → is_inside m lo hi p ≡ true → Found m lo hi (p / 16) (p % 16)
