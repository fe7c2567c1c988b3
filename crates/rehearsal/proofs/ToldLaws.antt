-- What a scan's answer tells, told of the words that the call leaves.
-- Assumes nothing.
use Prim.Native.Nat.{ℕ}
use mathlib.Core.Path.{◌≡◌, subst}
use mathlib.Core.List.{List}
use Rattle.step.specs.declared.Step.TheVariants.{Scan}
use Rattle.controller.specs.Steps.{order, Performed, performed, step_of}
use Rattle.controller.specs.Finished.{ScanTold}
use Rattle.controller.specs.declared.Answer.{Answer}
use Rattle.controller.proofs.FinishedLaws.{finished-scan}
use Rattle.std.specs.Prelude.{Ok}

pub scan-told : (m : List ℕ) (n a f to limit : ℕ) (b : List ℕ) (r : Answer) (m' b' : List ℕ)
    → step_of m (order (Ok (Scan n a f to limit)) b) ≡ performed m' r b' → ScanTold m n a f to limit b r m' b'
scan-told m n a f to limit b r m' b' e =
    subst (λ (p : Performed). ScanTold m n a f to limit b p.out.answer p.memory p.out.buffer) e (finished-scan m n a f to limit b)
