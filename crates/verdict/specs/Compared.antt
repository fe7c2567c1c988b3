-- What a comparison of two lists of steps says.
use Rattle.std.specs.Prelude.{◌≡◌, true, ◌⊎◌, List, ℕ, ◌*◌, ◌≤◌, ◌<◌, length, get_or, Option, None, Some}
use Rattle.regroup.specs.Lists.{Rearranged, Alike}
use Rattle.dataway.specs.Crate.{FitCrate}
use Rattle.controller.specs.Steps.{leaves, gives}
use Rattle.lists.specs.Words.{part, orders_of}
use Rattle.verdict.specs.Watches.{Watch}
use Rattle.verdict.specs.Counted.{touches_lent, see, count, step_at, steps, past, seen_to, seen}
use Rattle.verdict.specs.declared.Parted.{Parted}

-- r is the first place from `from` on whose step watch k sees, or the number of steps
pub record Next (ws : List ℕ) (k from r : ℕ) : Type 0 where
  pub low : from ≤ r
  pub high : r ≤ count ws
  pub skips : seen_to k ws r ≡ seen_to k ws from
  pub here : r < count ws → see k (step_at ws r) ≡ true

-- Watch k sees the same in both lists before place i of the first and place j of the second. There they part: each place is its list's end or holds a
-- step that the watch sees, they are not both the end, and they do not hold equal steps.
pub record Parts (us ws : List ℕ) (k i j : ℕ) : Type 0 where
  pub first : i ≤ count us
  pub second : j ≤ count ws
  pub before : seen_to k us i ≡ seen_to k ws j
  pub seen_first : i < count us → see k (step_at us i) ≡ true
  pub seen-second : j < count ws → see k (step_at ws j) ≡ true
  pub one : (i < count us) ⊎ (j < count ws)
  pub apart : i < count us → j < count ws → step_at us i ≡ step_at ws j → ⊥

-- what watch k alone says; what is no watch sees nothing
abbrev pub Watched : List ℕ → List ℕ → ℕ → Option Parted → Type 0
Watched us ws k None = Watch k → seen k us ≡ seen k ws
Watched us ws k (Some d) = Watch k × (d.watch ≡ k) × Parts us ws k d.first d.second

-- r is the first place from `from` on where the second list has step i of the first; where there is none, it is the second's number of steps
pub record Stands (us : List ℕ) (i : ℕ) (ws : List ℕ) (from r : ℕ) : Type 0 where
  pub high : r ≤ count ws
  pub here : r < count ws → (from ≤ r) × (i < count us) × (step_at us i ≡ step_at ws r)
  pub before : (j : ℕ) → from ≤ j → j < r → i < count us → step_at us i ≡ step_at ws j → ⊥

-- the second list is the rearrangement p of the first
abbrev pub Lawful : (us ws p : List ℕ) → Type 0
Lawful us ws p = Rearranged touches_lent past (steps us) (steps ws) p

-- 512 words for each step of the first list and of the second, and each step of the second has those that its place in the first has
abbrev pub LentAlike : (us b1 ws b2 p : List ℕ) → Type 0
LentAlike us b1 ws b2 p =
    (512 * count us ≤ length b1) × (512 * count ws ≤ length b2) × ((k : ℕ) → k < count ws → part 512 b2 k ≡ part 512 b1 (get_or p k 0))

-- the second list is a rearrangement of the first, and so, run as they are lent, with buffers so handed, the two end alike from every fit crate
abbrev pub Promise : List ℕ → List ℕ → Type 0
Promise us ws =
    (p : List ℕ) × Lawful us ws p
    × ((m b1 b2 : List ℕ) → FitCrate m → LentAlike us b1 ws b2 p → Alike leaves gives m (orders_of us b1 (count us)) (orders_of ws b2 (count ws)) p)

-- None: each watch sees the same in both lists, and the promise holds.
-- Some: its watch is the first that does not, and parts at its places; the second list is no rearrangement of the first.
abbrev pub Compared : List ℕ → List ℕ → Option Parted → Type 0
Compared us ws None = ((n : ℕ) → Watch n → seen n us ≡ seen n ws) × Promise us ws
Compared us ws (Some d) =
    Watch d.watch × ((n : ℕ) → 1 ≤ n → n < d.watch → seen n us ≡ seen n ws) × Parts us ws d.watch d.first d.second × ((p : List ℕ) → Lawful us ws p → ⊥)
