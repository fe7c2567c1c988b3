-- Which stations a refused step touches: none.
use mathlib.Core.Path.{◌≡◌, ap}
use mathlib.Core.Bool.{false, ◌&&◌}
use mathlib.Core.List.{List}
use Prim.Native.Nat.{ℕ}
use Rattle.step.specs.declared.Refusal.{Refusal}
use Rattle.step.specs.declared.Step.{Step}
use Rattle.step.specs.Verdict.{is_fine, step_verdict, verdict_of}
use Rattle.step.specs.Touches.{reach_of, touches, touches_of}
use Rattle.std.specs.Prelude.{Ok, Err}
use Rattle.step.specs.Results.{Reading, Verdict}

-- a refused reading touches no station
pub refused-none-of : (r : Reading) (b : List ℕ) (q : Refusal) → verdict_of r b ≡ Err q → (k : ℕ) → touches_of r b k ≡ false
refused-none-of r b q e k = ap (λ (v : Verdict). is_fine v && reach_of r k) e

-- a refused step touches no station
pub refused_none : (s : Step) (b : List ℕ) (q : Refusal) → step_verdict s b ≡ Err q → (k : ℕ) → touches s b k ≡ false
refused_none s b q e k = refused-none-of (Ok s) b q e k
