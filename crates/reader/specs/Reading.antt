-- The two files read byte by byte, as the reader's code does it: what each byte does to the state. Nobody has to believe this file: the law of proofs/Whole
-- says that two files read so print exactly `sheet_of`.
use Rattle.std.specs.Prelude.{ℕ, ◌+◌, ◌≤◌, ◌≡◌, Bool, true, false, cond, List, [], ◌++◌, length, take, Ok, Err}
use Rattle.lines.specs.Cutting.{Does, Cutting, fresh, feed}
use Rattle.runfile.specs.Read.{read_module}
use Rattle.dataway.specs.Crate.{FitCrate, empty_crate}
use Rattle.step.specs.declared.Step.TheVariants.{Command, Front, Z, C, Inhibit, LookAtMe, Scan, Repeat, Stop, Put, PutLent, Processor, Within}
use Rattle.controller.specs.Steps.{Performed, step_of}
use Rattle.rehearsal.specs.Modules.{install_of}
use Rattle.sheet.specs.Answers.{step_text, crate_text}
use Rattle.sheet.specs.Sheet.{station_of, line_order}
use Rattle.reader.specs.declared.Phase.{Phase}
use Rattle.reader.specs.declared.Phase.TheVariants.{CrateFile, RunFile, Ended}
use Rattle.reader.specs.declared.Reader.{Reader}
use Rattle.step.specs.Results.{Reading, Verdict}

-- the run file is read
abbrev pub reads_run : Phase → Bool
reads_run CrateFile = false
reads_run RunFile = true
reads_run Ended = false

-- a file is read: the program has not ended
abbrev pub is_open : Phase → Bool
is_open CrateFile = true
is_open RunFile = true
is_open Ended = false

-- what is held between lines. phase: which file is read, or that the program has ended; previous: the station of the crate line before, 0 where there was none;
-- printed: what was printed so far
pub record Work : Type 0 where
  pub phase : Phase
  pub previous : ℕ
  pub memory : List ℕ
  pub printed : List ℕ

abbrev pub State : Type 0
State = Cutting Work

-- after the crate line k for the station n: its verdict, and the memory that it left
abbrev pub after_module : Verdict → (n : ℕ) → List ℕ → (k : ℕ) → Work → Work
after_module (Ok _) n m k s = record { phase = CrateFile; previous = n; memory = m; printed = s.printed }
after_module (Err q) n m k s = record { phase = Ended; previous = s.previous; memory = m; printed = s.printed ++ crate_text k q }

-- after the line k of the run file, with what it came to
abbrev pub after_step : Performed → (k : ℕ) → Work → Work
after_step p k s = record { phase = RunFile; previous = s.previous; memory = p.memory; printed = s.printed ++ step_text k p.out }

-- the state after a line that did f
abbrev pub next : (ℕ → Work → Work) → State → State
next f s = record { part = []; number = s.number + 1; held = f (s.number + 1) s.held }

-- a reading that looks at the buffer that it is lent: a block transfer, but for a put of one word, and a listing. Any other prints and leaves the same with any buffer:
-- `unseen` in proofs/Buffers
abbrev pub uses_buffer : Reading → Bool
uses_buffer (Err q) = false
uses_buffer (Ok (Command n a f w)) = false
uses_buffer (Ok (Front n a v)) = false
uses_buffer (Ok Z) = false
uses_buffer (Ok C) = false
uses_buffer (Ok (Inhibit v)) = false
uses_buffer (Ok LookAtMe) = false
uses_buffer (Ok (Scan n a f to limit)) = true
uses_buffer (Ok (Repeat n a f limit tries)) = true
uses_buffer (Ok (Stop n a f limit)) = true
uses_buffer (Ok (Put n a to limit w)) = false
uses_buffer (Ok (PutLent n a to limit)) = true
uses_buffer (Ok (Processor t)) = true
uses_buffer (Ok (Within n to lo hi)) = true

-- after the crate line l, with number k
unfoldable pub module_line : List ℕ → (k : ℕ) → Work → Work
module_line l k s = let p = install_of s.memory s.previous (read_module l) in after_module p.verdict (station_of (read_module l)) p.memory k s

-- after the run line l, with number k
unfoldable pub run_line : List ℕ → (k : ℕ) → Work → Work
run_line l k s = after_step (step_of s.memory (line_order l)) k s

-- after the line l of the file that is being read
unfoldable pub answered : (k : ℕ) → List ℕ → Work → Work
answered k l s = cond (reads_run s.phase) (run_line l k s) (module_line l k s)

-- lines are read until the program has ended, and each is answered
abbrev pub rehearsing : Does Work
rehearsing = record { more = λ s. is_open s.phase; line = answered }

-- before the crate file
abbrev pub start : State
start = fresh (record { phase = CrateFile; previous = 0; memory = empty_crate; printed = [] })

-- before the run file, unless the program has ended
abbrev pub second : State → State
second s = cond (is_open s.held.phase) (fresh (record { phase = RunFile; previous = 0; memory = s.held.memory; printed = s.held.printed })) s

-- the state with q printed before
abbrev pub under : List ℕ → State → State
under q s =
    let h = s.held in
    record { part = s.part; number = s.number; held = record { phase = h.phase; previous = h.previous; memory = h.memory; printed = q ++ h.printed } }

-- the bytes t lead from state a to state b, where `sent` was handed out on the way and is not in b's text any more
pub record Took (a : State) (t : List ℕ) (b : State) : Type 0 where
  pub sent : List ℕ
  pub same : feed rehearsing a t ≡ under sent b

-- the state that a reader holds with its line buffer l, crate memory m and output buffer o
abbrev pub state_of : Reader → List ℕ → List ℕ → List ℕ → State
state_of r l m o =
    record { part = take r.fill l; number = r.number; held = record { phase = r.phase; previous = r.previous; memory = m; printed = take r.at o } }

-- the line buffer has 81 bytes, the crate is fit, and the counts lie within the buffers
pub record Held (s : Reader) (l m o : List ℕ) : Type 0 where
  pub filled : s.fill ≤ 81
  pub lined : length l ≡ 81
  pub within : s.at ≤ length o
  pub fit : FitCrate m

-- the same, and the output buffer has room for one more line
pub record Ready (s : Reader) (l m o : List ℕ) : Type 0 where
  pub filled : s.fill ≤ 81
  pub lined : length l ≡ 81
  pub room : s.at + 8258 ≤ length o
  pub fit : FitCrate m
