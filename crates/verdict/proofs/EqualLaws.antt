-- When the steps of two lists are equal: told by what they count as.
-- Assumes nothing.
use mathlib.Core.Path.{◌≡◌, sym, ◌∙◌}
use mathlib.Core.Bool.{Bool}
use mathlib.Core.List.{List}
use Prim.Native.Nat.{ℕ}
use Rattle.verdict.specs.Counted.{step_at}
use Rattle.verdict.specs.Tells.{Tells}
use Rattle.step.specs.Results.{Reading}

-- ---- an answer
-- what tells P tells any Q that holds where P does, and only there
pub tells_as : (P Q : Type 0) (b : Bool) → (P → Q) → (Q → P) → Tells b P → Tells b Q
tells_as P Q b f g t = record { holds = λ e. f (t.holds e); fails = λ e q. t.fails e (g q) }

-- ---- two steps of two lists
module _ (us : List ℕ) (i : ℕ) (ws : List ℕ) (j : ℕ) where
  -- by what they count as
  pub reading-told : (x y : Reading) (b : Bool) → x ≡ step_at us i → y ≡ step_at ws j → Tells b (x ≡ y) → Tells b (step_at us i ≡ step_at ws j)
  reading-told x y b ex ey = tells_as _ _ b (λ e. sym ex ∙ e ∙ ey) (λ e. ex ∙ e ∙ sym ey)
