-- Whether the first words of a buffer have 24 bits: the test that a walk over them makes.
-- Assumes nothing.
use mathlib.Core.Path.{◌≡◌, refl, ap}
use mathlib.Core.Bool.{◌&&◌}
use mathlib.Core.List.{List, [], ◌∷◌}
use Prim.Native.Nat.{ℕ}
use lib.Dec.{leb}
use Rattle.std.specs.List.{list_all}
use Rattle.step.specs.Verdict.{are_narrow}

pub are_narrow_all : (ws : List ℕ) → are_narrow ws ≡ list_all (λ w. leb w 16777215) ws
are_narrow_all [] = refl
are_narrow_all (w ∷ ws) = ap (λ t. leb w 16777215 && t) (are_narrow_all ws)
