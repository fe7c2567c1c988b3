-- The table of kinds (RULES 1.6, 1.11, 1.14, 1.15), each column a list: 0 empty, 1 scaler, 2 output register, 3 input register, 4 buffer memory,
-- 5 up-down counter. And when a module is one of the table.
use Rattle.std.specs.Prelude.{ℕ, ◌≤◌, ◌<◌, ◌≡◌, [], ◌∷◌, Bool, true, get_or, leb, ltb}
use Rattle.kinds.specs.Cases.{all_of}
use Rattle.kinds.specs.declared.Module.{Module}

-- the least r of each kind
abbrev pub least_of : ℕ → ℕ
least_of kind = get_or (0 ∷ 1 ∷ 1 ∷ 1 ∷ 1 ∷ 1 ∷ []) kind 0

-- the most r of each kind
abbrev pub most_of : ℕ → ℕ
most_of kind = get_or (0 ∷ 16 ∷ 16 ∷ 16 ∷ 1 ∷ 16 ∷ []) kind 0

-- the sources s of each kind with r registers
abbrev pub sources_with : (kind r : ℕ) → ℕ
sources_with kind r = get_or (0 ∷ r ∷ 0 ∷ r ∷ 2 ∷ r ∷ []) kind 0

-- the last head of each kind: 0 except in kind 4
abbrev pub last_head_of : ℕ → ℕ
last_head_of kind = get_or (0 ∷ 0 ∷ 0 ∷ 0 ∷ 15 ∷ 0 ∷ []) kind 0

-- the most fill of each kind: 0 except in kind 4
abbrev pub most_fill_of : ℕ → ℕ
most_fill_of kind = get_or (0 ∷ 0 ∷ 0 ∷ 0 ∷ 16 ∷ 0 ∷ []) kind 0

-- the least width of each kind, in stations
abbrev pub least_width_of : ℕ → ℕ
least_width_of kind = get_or (0 ∷ 1 ∷ 1 ∷ 1 ∷ 1 ∷ 1 ∷ []) kind 0

-- the most width of each kind
abbrev pub most_width_of : ℕ → ℕ
most_width_of kind = get_or (0 ∷ 2 ∷ 2 ∷ 2 ∷ 2 ∷ 2 ∷ []) kind 0

-- the most cover of each kind: a covered station (1) is empty, no module stands in it
abbrev pub most_covered_of : ℕ → ℕ
most_covered_of kind = get_or (1 ∷ 0 ∷ 0 ∷ 0 ∷ 0 ∷ 0 ∷ []) kind 0

-- a kind of the table, with r registers and a width as it may have
unfoldable pub in_table : (kind r wide : ℕ) → Bool
in_table kind r wide =
    all_of (ltb kind 6 ∷ leb (least_of kind) r ∷ leb r (most_of kind) ∷ leb (least_width_of kind) wide ∷ leb wide (most_width_of kind) ∷ [])

-- a module that may stand in the crate: its station is 1 to 23, it is a module (kind 0 is an empty station) with kind, r and width as in the table, and where it is
-- two stations wide there is one to its right
pub record FitModule (p : Module) : Type 0 where
  pub first : 1 ≤ p.n
  pub last : p.n ≤ 23
  pub kind : 1 ≤ p.kind
  pub table : in_table p.kind p.r p.wide ≡ true
  pub room : p.wide ≡ 2 → p.n < 23
