-- A reading that does not look at its buffer prints and leaves the same with any buffer, so a run line need be lent none for it.
-- Assumes nothing.
use Prim.Native.Nat.{ℕ}
use mathlib.Core.Path.{◌≡◌, refl, sym, ap, ◌∙◌}
use mathlib.Core.Bool.{Bool, true, false, false≢true}
use mathlib.Core.List.{List}
use Rattle.step.specs.Verdict.{step_verdict}
use Rattle.step.specs.declared.Step.{Step}
use Rattle.step.specs.declared.Step.TheVariants.{Command, Front, Z, C, Inhibit, LookAtMe, Scan, Repeat, Stop, Put, PutLent, Processor, Within}
use Rattle.controller.specs.Steps.{order, judged_of, done_of}
use Rattle.sheet.specs.Answers.{step_text}
use Rattle.reader.specs.Reading.{Work, after_step, uses_buffer}
use Rattle.std.specs.Prelude.{Ok, Err}
use Rattle.step.specs.Results.{Reading, Verdict}

module _ (b c : List ℕ) where
  -- it is judged alike
  judged-alike : (t : Step) → uses_buffer (Ok t) ≡ false → step_verdict t b ≡ step_verdict t c
  judged-alike (Command n a f w) e = refl
  judged-alike (Front n a v) e = refl
  judged-alike Z e = refl
  judged-alike C e = refl
  judged-alike (Inhibit v) e = refl
  judged-alike LookAtMe e = refl
  judged-alike (Scan n a f to limit) e = absurd (false≢true (sym e))
  judged-alike (Repeat n a f limit tries) e = absurd (false≢true (sym e))
  judged-alike (Stop n a f limit) e = absurd (false≢true (sym e))
  judged-alike (Put n a to limit w) e = refl
  judged-alike (PutLent n a to limit) e = absurd (false≢true (sym e))
  judged-alike (Processor t) e = absurd (false≢true (sym e))
  judged-alike (Within n to lo hi) e = absurd (false≢true (sym e))

  -- and, with its verdict, it comes to the same
  done-alike : (v : Verdict) (k : ℕ) (s : Work) (t : Step) → uses_buffer (Ok t) ≡ false
      → after_step (judged_of v s.memory t b) k s ≡ after_step (judged_of v s.memory t c) k s
  unfolding step_text
  done-alike (Err q) k s t e = refl
  done-alike (Ok _) k s (Command n a f w) e = refl
  done-alike (Ok _) k s (Front n a v) e = refl
  done-alike (Ok _) k s Z e = refl
  done-alike (Ok _) k s C e = refl
  done-alike (Ok _) k s (Inhibit v) e = refl
  done-alike (Ok _) k s LookAtMe e = refl
  done-alike (Ok _) k s (Scan n a f to limit) e = absurd (false≢true (sym e))
  done-alike (Ok _) k s (Repeat n a f limit tries) e = absurd (false≢true (sym e))
  done-alike (Ok _) k s (Stop n a f limit) e = absurd (false≢true (sym e))
  done-alike (Ok _) k s (Put n a to limit w) e = refl
  done-alike (Ok _) k s (PutLent n a to limit) e = absurd (false≢true (sym e))
  done-alike (Ok _) k s (Processor t) e = absurd (false≢true (sym e))
  done-alike (Ok _) k s (Within n to lo hi) e = absurd (false≢true (sym e))

  pub unseen : (k : ℕ) (s : Work) (r : Reading) → uses_buffer r ≡ false
      → after_step (done_of s.memory (order r b)) k s ≡ after_step (done_of s.memory (order r c)) k s
  unfolding done_of step_text
  unseen k s (Ok t) e =
      ap (λ (v : Verdict). after_step (judged_of v s.memory t b) k s) (judged-alike t e)
      ∙ done-alike (step_verdict t c) k s t e
  unseen k s (Err q) e = refl

  -- a buffer that is right where it is looked at is as good as the right one
  pub as-good : (k : ℕ) (s : Work) (r : Reading) → (uses_buffer r ≡ true → b ≡ c)
      → after_step (done_of s.memory (order r b)) k s ≡ after_step (done_of s.memory (order r c)) k s
  as-good k s r h = go (uses_buffer r) refl
    where
      go : (t : Bool) → uses_buffer r ≡ t → after_step (done_of s.memory (order r b)) k s ≡ after_step (done_of s.memory (order r c)) k s
      go true e = ap (λ (x : List ℕ). after_step (done_of s.memory (order r x)) k s) (h e)
      go false e = unseen k s r e
