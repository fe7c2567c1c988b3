-- The open calls: a step and a list on a memory that is not fit, on one that is, and on lent words that are too few.
-- Assumes nothing.
use Prim.Native.Nat.{ℕ, ◌*◌, ◌/◌, ◌≤◌, ◌<◌}
use mathlib.Core.Path.{◌≡◌, sym, ap, ◌∙◌}
use mathlib.Core.Bool.{true, false}
use mathlib.Core.List.{List}
use native.Mathlib.Omega.{arith}
use borrow.Author.Tests.{le-leb, lt-leb}
use lib.Dec.{leb}
use lib.ListN.{length}
use Rattle.kinds.proofs.TestLaws.{both_false}
use Rattle.dataway.specs.Crate.{is_fit_crate}
use Rattle.dataway.proofs.CrateLaws.{crate-facts}
use Rattle.step.specs.Refusals.{verdict_number}
use Rattle.step.specs.declared.Refusal.TheVariants.{ShortBuffer, UnfitCrate}
use Rattle.controller.specs.Answers.{answer_words}
use Rattle.controller.specs.Steps.{Order, Performed, performed, refused, done_of, step_of, gives}
use Rattle.controller.specs.declared.Answer.{Answer}
use Rattle.controller.proofs.StepLaws.{step-done}
use Rattle.lists.specs.Runs.{answer_of, Ran, ran_of, unrun, is_enough, list_of}
use Rattle.step.specs.Results.{Verdict}

-- ---- one step
pub step-unfit : (m : List ℕ) (o : Order) → is_fit_crate m ≡ false → step_of m o ≡ refused UnfitCrate m o.buffer
unfolding step_of
step-unfit m o t = rw t

pub step_fits : (m : List ℕ) (o : Order) (p : Performed) → is_fit_crate m ≡ true → done_of m o ≡ p → step_of m o ≡ p
step_fits m o p t e = step-done m o (crate-facts m t) ∙ e

-- what a step's answer is, told by its words as well
pub step_words : (m : List ℕ) (o : Order) (m' : List ℕ) (r : Answer) (b' : List ℕ) → step_of m o ≡ performed m' r b'
    → (step_of m o ≡ performed m' r b') × (answer_words r ≡ answer_of (gives m o))
step_words m o m' r b' e = (e, ap (λ (p : Performed). answer_of p.out) (sym e))

-- ---- a list
module _ (m : List ℕ) (count : ℕ) (ws ans bs : List ℕ) where
  pub list-unfit : is_fit_crate m ≡ false → list_of m count ws ans bs ≡ unrun UnfitCrate m ans bs
  unfolding list_of
  list-unfit t = rw t

  short : is_fit_crate m ≡ true → is_enough count ws ans bs ≡ false → list_of m count ws ans bs ≡ unrun ShortBuffer m ans bs
  unfolding list_of
  short t e = rw (t, e)

  pub few-steps : is_fit_crate m ≡ true → length ws / 6 < count → list_of m count ws ans bs ≡ unrun ShortBuffer m ans bs
  unfolding is_enough
  few-steps t h = short t (rw (lt-leb (6 * count) (length ws) (omega arith)))

  pub few-answers : is_fit_crate m ≡ true → length ans / 4 < count → list_of m count ws ans bs ≡ unrun ShortBuffer m ans bs
  unfolding is_enough
  few-answers t h = short t (rw (lt-leb (4 * count) (length ans) (omega arith)) (both_false (leb (6 * count) (length ws))))

  pub few-buffers : is_fit_crate m ≡ true → length bs / 512 < count → list_of m count ws ans bs ≡ unrun ShortBuffer m ans bs
  unfolding is_enough
  few-buffers t h =
      short t (simp (lt-leb (512 * count) (length bs) (omega arith), both_false))

  pub list-runs : is_fit_crate m ≡ true → count ≤ length ws / 6 → count ≤ length ans / 4 → count ≤ length bs / 512
      → list_of m count ws ans bs ≡ ran_of m count ws ans bs
  unfolding list_of is_enough
  list-runs t h i j =
      simp (t, le-leb (6 * count) (length ws) (omega arith), le-leb (4 * count) (length ans) (omega arith), le-leb (512 * count) (length bs) (omega arith))

  -- the verdict on a list, told by its number as well
  pub list-numbered : (v : Verdict) (m' ans' bs' : List ℕ) → list_of m count ws ans bs ≡ record { verdict = v; memory = m'; answers = ans'; buffers = bs' }
      → (list_of m count ws ans bs ≡ record { verdict = v; memory = m'; answers = ans'; buffers = bs' })
      × (verdict_number v ≡ verdict_number (list_of m count ws ans bs).verdict)
  list-numbered v m' ans' bs' e = (e, ap (λ (r : Ran). verdict_number r.verdict) (sym e))
