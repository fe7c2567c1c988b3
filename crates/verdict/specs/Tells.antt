-- What the answer of a test tells.
use Rattle.std.specs.Prelude.{◌≡◌, Bool, true, false}

-- b is true where P holds, and false where it does not
pub record Tells (b : Bool) (P : Type 0) : Type 0 where
  pub holds : b ≡ true → P
  pub fails : b ≡ false → P → ⊥
