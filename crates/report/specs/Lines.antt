-- What is left in the buffer on the way to the report. No line is longer than 80 bytes.
use Rattle.std.specs.Prelude.{ℕ, ◌+◌, ◌-◌, ◌*◌, ◌≤◌, ◌<◌, ◌≡◌, Bool, true, false, List, ◌++◌, length, Option, None}
use Rattle.text.specs.Paste.{Put}
use Rattle.step.specs.Refusals.{refusals}
use Rattle.report.specs.Report.{PartsAs, EachParts, run, runs, run_text, runs_text, refusals_text}
use Rattle.report.specs.declared.Parting.{Parting}
use Rattle.report.specs.declared.LastRun.{LastRun}

-- the watches from a on, before b, part nowhere
abbrev pub NoneParts : (us ws : List ℕ) → ℕ → ℕ → Type 0
NoneParts us ws a b = (n : ℕ) → a ≤ n → n < b → PartsAs us ws n None

-- station k parts as the last run does (`same`), which goes on; or that run's line is put, and the station begins the next
abbrev pub Taken : (same : Bool) → (last : LastRun) (before : List ℕ) (k : ℕ) (x : Option Parting) (after : List ℕ) (r : LastRun) → Type 0
Taken true last before k x after r = (r ≡ last) × (after ≡ before)
Taken false last before k x after r =
    Put before last.at (run_text (run last.low (k - 1) last.parting)) after r.at × (r.low ≡ k) × (r.parting ≡ x)

-- the lines of all stations
pub record PutRuns (us ws before after : List ℕ) (next : ℕ) : Type 0 where
  pub stations : List (Option Parting)
  pub all : (length stations ≡ 23) × EachParts us ws 1 stations
  pub put : Put before 0 (runs_text (runs 1 stations)) after next
  pub short : next ≤ 80 * 24

-- the lines of the refusal numbers whose watches stand before k
pub record PutRefusals (us ws : List ℕ) (k : ℕ) (before : List ℕ) (at : ℕ) (after : List ℕ) (next : ℕ) : Type 0 where
  pub refused : List (Option Parting)
  pub all : (24 + length refused ≡ k) × EachParts us ws 24 refused
  pub put : Put before at (refusals_text 1 refused) after next
  pub short : next ≤ at + 80 * (k - 24)

-- the lines of all watches
pub record PutLines (us ws before after : List ℕ) (next : ℕ) : Type 0 where
  pub stations : List (Option Parting)
  pub refused : List (Option Parting)
  pub all-stations : (length stations ≡ 23) × EachParts us ws 1 stations
  pub all-refused : (length refused ≡ refusals) × EachParts us ws 24 refused
  pub put : Put before 0 (runs_text (runs 1 stations) ++ refusals_text 1 refused) after next
  pub short : next ≤ 80 * (24 + refusals)
