-- The sheet: what the program prints of the bytes of crate.txt and run.txt (RULES 7.9 to 7.13).
use Rattle.std.specs.Prelude.{ℕ, ◌+◌, List, [], ◌∷◌, ◌++◌, map, replicate, Ok, Err}
use Rattle.lines.specs.Lines.{lines_of}
use Rattle.runfile.specs.Read.{read_line, read_module}
use Rattle.regroup.specs.Lists.{outs}
use Rattle.dataway.specs.Crate.{empty_crate}
use Rattle.step.specs.declared.Refusal.{Refusal}
use Rattle.controller.specs.Steps.{Order, order, Out, leaves, gives}
use Rattle.rehearsal.specs.Modules.{install_of}
use Rattle.sheet.specs.Answers.{step_text, crate_text}
use Rattle.step.specs.Results.{ModuleLine}

-- ---- crate.txt: what its lines come to, the crate, or the number of the first bad line and its refusal
pub data Built : Type 0 where
  whole : List ℕ → Built
  broken : ℕ → Refusal → Built

-- the station of a crate line
abbrev pub station_of : ModuleLine → ℕ
station_of (Ok p) = p.n
station_of (Err q) = 0

-- lines from number k on, on the memory m, after a line for the station `previous`, 0 where there was none
unfoldable pub build_from : (k previous : ℕ) → List ℕ → List (List ℕ) → Built
build_from k previous m [] = whole m
build_from k previous m (l ∷ ls) =
    let p = install_of m previous (read_module l) in
    elim p.verdict [ (Ok tt) ↦ build_from (k + 1) (station_of (read_module l)) p.memory ls | Err q ↦ broken k q ]

-- ---- run.txt: a line is a step of a list. Its buffer is its own, 512 words of 0
abbrev pub line_order : List ℕ → Order
line_order l = order (read_line l) (replicate 512 0)

-- what steps from number k on print
abbrev pub run_text : ℕ → List Out → List ℕ
run_text k [] = []
run_text k (o ∷ os) = step_text k o ++ run_text (k + 1) os

-- a bad crate line ends the program; else the run is done, line after line
unfoldable pub printed : Built → (run_file : List ℕ) → List ℕ
printed (broken k q) run_file = crate_text k q
printed (whole m) run_file = run_text 1 (outs leaves gives m (map line_order (lines_of run_file)))

-- the sheet. Unnamed stations are empty, and all else starts at 0
unfoldable pub sheet_of : (crate_file run_file : List ℕ) → List ℕ
sheet_of crate_file run_file = printed (build_from 1 0 empty_crate (lines_of crate_file)) run_file
