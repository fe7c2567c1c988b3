-- The names of two files that a program is started on.
use Rattle.std.specs.Prelude.{◌≡◌, ◌⊎◌, List, ℕ, ◌≤◌, ◌<◌, length, get_or, take}

-- the first n bytes, if there are any, name a file: they do not begin with `-`
pub record Name (n : ℕ) (bytes : List ℕ) : Type 0 where
  pub within : n ≤ length bytes
  pub plain : 0 < n → get_or bytes 0 0 ≡ 45 → ⊥

-- both are the usual names, or both name a file
pub record Names (usual-first usual-second : List ℕ) (m : ℕ) (first : List ℕ) (n : ℕ) (second : List ℕ) : Type 0 where
  pub first-within : m ≤ length first
  pub second-within : n ≤ length second
  pub names : ((take m first ≡ usual-first) × (take n second ≡ usual-second)) ⊎ ((0 < m) × Name m first × (0 < n) × Name n second)
