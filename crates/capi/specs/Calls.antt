-- The calls of the C library: the number that each returns, and all that it leaves of the arrays that it is lent. The number is 0, or that of the refusal.
use Rattle.std.specs.Prelude.{ℕ, Bool, cond, ◌&&◌, List, ◌++◌, leb, length, drop}
use Rattle.dataway.specs.Crate.{is_fit_crate}
use Rattle.step.specs.Refusals.{refusal_number, verdict_number}
use Rattle.step.specs.declared.Refusal.{Refusal}
use Rattle.step.specs.declared.Refusal.TheVariants.{ShortBuffer, UnfitCrate}
use Rattle.runfile.specs.Read.{read_line, read_module}
use Rattle.controller.specs.Answers.{answer_words}
use Rattle.controller.specs.Steps.{Order, Performed, order, refused, step_of}
use Rattle.controller.specs.declared.Answer.{Answer}
use Rattle.controller.specs.declared.Answer.TheVariants.{Replied, Taken, Done, Looked, Transferred, Wrote, Listed, Refused}
use Rattle.lists.specs.Words.{reading_of}
use Rattle.lists.specs.Runs.{Ran, list_of}
use Rattle.controller.specs.Placing.{Installed}
use Rattle.rehearsal.specs.Modules.{install_of}

-- the number that a call with this answer returns
abbrev pub answer_number : Answer → ℕ
answer_number (Refused q) = refusal_number q
answer_number (Replied p) = 0
answer_number (Taken v) = 0
answer_number Done = 0
answer_number (Looked p) = 0
answer_number (Transferred p) = 0
answer_number (Wrote p) = 0
answer_number (Listed count) = 0

-- ---- one step or one run line
-- so many words are lent
abbrev pub lends : ℕ → List ℕ → Bool
lends n ws = leb n (length ws)

-- the four words of an answer in the first four words lent for it; the rest, and fewer than four, keep their contents
unfoldable pub with_answer : List ℕ → Answer → List ℕ
with_answer out a = cond (lends 4 out) (answer_words a ++ drop 4 out) out

-- what the call of a step or a run line returns and leaves
pub record Called : Type 0 where
  pub number : ℕ
  pub memory : List ℕ
  pub answer : List ℕ
  pub buffer : List ℕ

-- what was performed, told by the number and by the words lent for the answer
abbrev pub told : Performed → (out : List ℕ) → Called
told p out = record {
  number = answer_number p.out.answer;
  memory = p.memory;
  answer = with_answer out p.out.answer;
  buffer = p.out.buffer;
}

-- a refusal q of a call on the memory m: first 9
unfoldable pub unless_unfit : (m : List ℕ) → Refusal → Refusal
unless_unfit m q = cond (is_fit_crate m) q UnfitCrate

-- a step, where enough words are lent; else 9, and then 8
abbrev pub if_lent : (enough : Bool) → (m : List ℕ) → Order → Performed
if_lent enough m o = cond enough (step_of m o) (refused (unless_unfit m ShortBuffer) m o.buffer)

-- the step of the first six words of ws
unfoldable pub step_call : (m ws out b : List ℕ) → Called
step_call m ws out b = told (if_lent (lends 6 ws && lends 4 out) m (order (reading_of ws) b)) out

-- the run line of the bytes l
unfoldable pub line_call : (m l out b : List ℕ) → Called
line_call m l out b = told (if_lent (lends 4 out) m (order (read_line l) b)) out

-- ---- one crate line
-- what its call returns and leaves
pub record CrateCalled : Type 0 where
  pub number : ℕ
  pub memory : List ℕ

abbrev pub installed_call : Installed → CrateCalled
installed_call i = record { number = verdict_number i.verdict; memory = i.memory }

-- the crate line of the bytes l, after a line for the station `previous`, 0 where there was none
unfoldable pub crate_call : (m : List ℕ) (previous : ℕ) (l : List ℕ) → CrateCalled
crate_call m previous l = installed_call (install_of m previous (read_module l))

-- ---- a list of steps
-- what its call returns and leaves
pub record ListCalled : Type 0 where
  pub number : ℕ
  pub memory : List ℕ
  pub answers : List ℕ
  pub buffers : List ℕ

abbrev pub ran_call : Ran → ListCalled
ran_call r = record { number = verdict_number r.verdict; memory = r.memory; answers = r.answers; buffers = r.buffers }

-- the first `count` steps of the words ws
unfoldable pub list_call : (m : List ℕ) (count : ℕ) (ws ans bs : List ℕ) → ListCalled
list_call m count ws ans bs = ran_call (list_of m count ws ans bs)
