-- What a buffer memory holds (RULES 1.12): its words from head on, modulo 16, and 0 in the unfilled places.
use Rattle.std.specs.Prelude.{ℕ, ◌+◌, ◌<◌, ◌≤◌, ◌%◌, ◌≡◌, true, List}
use Rattle.station.specs.Block.{kind_of, head_of, fill_of, register_of, is_used, FitBlock}

-- place i is filled: it is one of the `fill` places from head on, modulo 16
abbrev pub Filled : List ℕ → ℕ → Type 0
Filled b i = (j : ℕ) × (j < fill_of b) × (i ≡ (head_of b + j) % 16)

-- the test of a place finds the filled places, and no other
abbrev pub UsedIsFilled : Type 0
UsedIsFilled = (b : List ℕ) → kind_of b ≡ 4 → head_of b < 16 → fill_of b ≤ 16 → (i : ℕ) → i < 16
    → (is_used b i ≡ true → Filled b i) × (Filled b i → is_used b i ≡ true)

-- a fit buffer memory has 0 in the unfilled places
abbrev pub UnfilledZero : Type 0
UnfilledZero = (b : List ℕ) → FitBlock b → kind_of b ≡ 4 → (i : ℕ) → i < 16 → (Filled b i → ⊥) → register_of b i ≡ 0
