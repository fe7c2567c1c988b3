-- What keeps to a set of stations: it changes only their blocks, and what it does hangs on those blocks and Inhibit I alone. Only what keeps to all
-- 23 may change block 0, where I and the Station Number Register stand, or hang on more of it than I, and so on the register. A set of stations is `on`:
-- station n is in it where `on n` is true.
use Rattle.std.specs.Prelude.{◌≡◌, Bool, true, false, List, ℕ, ◌≤◌}
use Rattle.blocks.specs.Blocks.{Agree, inhibit_of}

-- all 23 stations are in the set
abbrev pub All : (ℕ → Bool) → Type 0
All on = (n : ℕ) → 1 ≤ n → n ≤ 23 → on n ≡ true

-- The memories m and m' are the same wherever what keeps to the set may look: where a station is in the set, in its block and in I, and in the whole of
-- block 0 where the set is all 23. (With no station in the set there is nothing to look at, I included.)
abbrev pub Seen : (ℕ → Bool) → List ℕ → List ℕ → Type 0
Seen on m m' =
    ((n : ℕ) → 1 ≤ n → n ≤ 23 → on n ≡ true → Agree m m' n × (inhibit_of m ≡ inhibit_of m'))
    × (All on → Agree m m' 0)

-- from a fit memory, what leaves the memory `f` of it and gives back `g` of it keeps to the set
pub record Local (fit : List ℕ → Type 0) {Out : Type 0} (on : ℕ → Bool) (f : List ℕ → List ℕ) (g : List ℕ → Out) : Type 0 where
  -- it leaves the memory fit
  pub keeps : (m : List ℕ) → fit m → fit (f m)
  -- a station that is not in the set keeps its block, and where there is such a station block 0 stays too
  pub frame : (m : List ℕ) → fit m → (n : ℕ) → 1 ≤ n → n ≤ 23 → on n ≡ false → Agree (f m) m n × Agree (f m) m 0
  -- from memories that are the same wherever it may look, it gives back the same and leaves the same in its stations' blocks
  pub reads : (m m' : List ℕ) → fit m → fit m' → Seen on m m'
      → (g m ≡ g m') × ((n : ℕ) → 1 ≤ n → n ≤ 23 → on n ≡ true → Agree (f m) (f m') n)
