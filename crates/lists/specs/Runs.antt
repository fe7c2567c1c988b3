-- A whole list of steps, run from a memory: what it leaves of the memory, of the answers and of the buffers.
use Rattle.std.specs.Prelude.{ℕ, ◌*◌, Bool, cond, ◌&&◌, List, [], ◌∷◌, ◌++◌, leb, length, drop, Ok, Err}
use Rattle.regroup.specs.Lists.{run, outs}
use Rattle.dataway.specs.Crate.{is_fit_crate}
use Rattle.step.specs.declared.Refusal.{Refusal}
use Rattle.step.specs.declared.Refusal.TheVariants.{ShortBuffer, UnfitCrate}
use Rattle.controller.specs.Answers.{answer_words}
use Rattle.controller.specs.Steps.{Out, leaves, gives}
use Rattle.lists.specs.Words.{orders_of}
use Rattle.step.specs.Results.{Verdict}

-- the words of each, one after the other
unfoldable pub joined : (Out → List ℕ) → List Out → List ℕ
joined g [] = []
joined g (o ∷ os) = g o ++ joined g os

-- the four words of a step's answer
abbrev pub answer_of : Out → List ℕ
answer_of o = answer_words o.answer

-- the words of its buffer
abbrev pub buffer_of : Out → List ℕ
buffer_of o = o.buffer

-- what the run of a list leaves, with the verdict on the run as a whole
pub record Ran : Type 0 where
  pub verdict : Verdict
  pub memory : List ℕ
  pub answers : List ℕ
  pub buffers : List ℕ

-- each of the `count` steps in turn; words past their answers and buffers keep their contents
unfoldable pub ran_of : (m : List ℕ) (count : ℕ) (ws ans bs : List ℕ) → Ran
ran_of m count ws ans bs = record {
  verdict = Ok tt;
  memory = run leaves m (orders_of ws bs count);
  answers = joined answer_of (outs leaves gives m (orders_of ws bs count)) ++ drop (4 * count) ans;
  buffers = joined buffer_of (outs leaves gives m (orders_of ws bs count)) ++ drop (512 * count) bs;
}

-- a run that is refused changes nothing
abbrev pub unrun : Refusal → (m ans bs : List ℕ) → Ran
unrun q m ans bs = record { verdict = Err q; memory = m; answers = ans; buffers = bs }

-- enough words are lent for `count` steps, their answers and their buffers
unfoldable pub is_enough : ℕ → (ws ans bs : List ℕ) → Bool
is_enough count ws ans bs = leb (6 * count) (length ws) && (leb (4 * count) (length ans) && leb (512 * count) (length bs))

-- 9 for the whole run, then 8 where too few words are lent, else what each step gives in turn
unfoldable pub list_of : (m : List ℕ) (count : ℕ) (ws ans bs : List ℕ) → Ran
list_of m count ws ans bs =
    cond (is_fit_crate m) (cond (is_enough count ws ans bs) (ran_of m count ws ans bs) (unrun ShortBuffer m ans bs)) (unrun UnfitCrate m ans bs)
