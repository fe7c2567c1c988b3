-- What every step keeps of a station's block: it stays fit, and so do its kind, its register count and words 6 to 15.
use Rattle.std.specs.Prelude.{ℕ, ◌<◌, ◌≡◌, List}
use Rattle.station.specs.Block.{kind_of, count_of, fixed_of, FitBlock}

-- the blocks b and c are of the same module
pub record SameModule (b c : List ℕ) : Type 0 where
  pub kind : kind_of c ≡ kind_of b
  pub count : count_of c ≡ count_of b
  pub fixed : (i : ℕ) → i < 10 → fixed_of c i ≡ fixed_of b i

-- from the block b to the fit block c of the same module
pub record Kept (b c : List ℕ) : Type 0 where
  pub fit : FitBlock c
  pub same : SameModule b c
