-- The six words of a step: they are read back as the step, so they tell it.
-- Assumes nothing.
use Prim.Native.Nat.{ℕ}
use mathlib.Core.Path.{◌≡◌, refl, sym, ap, ◌∙◌}
use mathlib.Core.List.{List, [], ◌∷◌}
use native.Mathlib.Omega.{arith}
use lib.ListN.{length, set}
use Rattle.step.specs.declared.Step.{Step}
use Rattle.step.specs.declared.Step.TheVariants.{Command, Front, Z, C, Inhibit, LookAtMe, Scan, Repeat, Stop, Put, PutLent, Processor, Within}
use Rattle.step.specs.declared.Short.TheVariants.{ShortScan, ShortRepeat, ShortStop}
use Rattle.lists.specs.Words.{step_words, TenMore, kinds_of, reading_of}
use Rattle.std.specs.Prelude.{Ok, Err}
use Rattle.step.specs.Results.{Reading}

-- six words stored
pub six-sets : (xs : List ℕ) (a b c d e f : ℕ) → length xs ≡ 6
    → set (set (set (set (set (set xs 0 a) 1 b) 2 c) 3 d) 4 e) 5 f ≡ a ∷ b ∷ c ∷ d ∷ e ∷ f ∷ []
six-sets [] a b c d e f l = absurd (omega arith)
six-sets (_ ∷ []) a b c d e f l = absurd (omega arith)
six-sets (_ ∷ _ ∷ []) a b c d e f l = absurd (omega arith)
six-sets (_ ∷ _ ∷ _ ∷ []) a b c d e f l = absurd (omega arith)
six-sets (_ ∷ _ ∷ _ ∷ _ ∷ []) a b c d e f l = absurd (omega arith)
six-sets (_ ∷ _ ∷ _ ∷ _ ∷ _ ∷ []) a b c d e f l = absurd (omega arith)
six-sets (_ ∷ _ ∷ _ ∷ _ ∷ _ ∷ _ ∷ []) a b c d e f l = refl
six-sets (_ ∷ _ ∷ _ ∷ _ ∷ _ ∷ _ ∷ _ ∷ xs) a b c d e f l = absurd (omega arith)

-- ---- each kind of step
step_words_lem : (s : Step) → (length (step_words s) ≡ 6) × (reading_of (step_words s) ≡ Ok s)
unfolding step_words reading_of kinds_of
step_words_lem (Command n a f w) = (refl, refl)
step_words_lem (Front n a v) = (refl, refl)
step_words_lem Z = (refl, refl)
step_words_lem C = (refl, refl)
step_words_lem (Inhibit v) = (refl, refl)
step_words_lem LookAtMe = (refl, refl)
step_words_lem (Scan n a f to limit) = (refl, refl)
step_words_lem (Repeat n a f limit tries) = (refl, refl)
step_words_lem (Stop n a f limit) = (refl, refl)
step_words_lem (Put n a to limit w) = (refl, refl)
step_words_lem (PutLent n a to limit) = (refl, refl)
step_words_lem (Processor (ShortScan n a f to limit)) = (refl, refl)
step_words_lem (Processor (ShortRepeat n a f limit tries)) = (refl, refl)
step_words_lem (Processor (ShortStop n a f limit)) = (refl, refl)
step_words_lem (Within n to lo hi) = (refl, refl)

-- has six words
pub words-six : (s : Step) → length (step_words s) ≡ 6
words-six s = (step_words_lem s).0

-- and is read back from them
pub step_back : (s : Step) → reading_of (step_words s) ≡ Ok s
step_back s = (step_words_lem s).1

-- so steps with equal words are equal
pub words-tell : (s t : Step) → step_words s ≡ step_words t → s ≡ t
words-tell s t e = ap step_or (sym (step_back s) ∙ ap reading_of e ∙ step_back t)
  where
    step_or : Reading → Step
    step_or (Ok r) = r
    step_or (Err q) = s

-- a transfer at the trigger processor's entry beside that at the general one
pub ten-more : TenMore
unfolding step_words
ten-more (ShortScan n a f to limit) = refl
ten-more (ShortRepeat n a f limit tries) = refl
ten-more (ShortStop n a f limit) = refl
