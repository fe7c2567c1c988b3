-- A crate line on a fit crate (RULES 6.19, 7.11, 7.23): the memory with its module in it, or its refusal. A refusal changes nothing.
use Rattle.std.specs.Prelude.{ℕ, List, Ok, Err}
use Rattle.blocks.specs.Blocks.{word}
use Rattle.kinds.specs.declared.Module.{Module}
use Rattle.dataway.specs.Stations.{with_module}
use Rattle.step.specs.Modules.{module_verdict}
use Rattle.step.specs.declared.Refusal.{Refusal}
use Rattle.step.specs.Results.{ModuleLine, Verdict}

-- the verdict on a crate line, and the memory that it leaves
pub record Installed : Type 0 where
  pub verdict : Verdict
  pub memory : List ℕ

abbrev pub uninstalled : Refusal → List ℕ → Installed
uninstalled q m = record { verdict = Err q; memory = m }

-- the verdict on a module in this memory, after a line for the station `previous`: word 7 of its station says whether that is covered
abbrev pub place_verdict : List ℕ → (previous : ℕ) → Module → Verdict
place_verdict m previous p = module_verdict previous (word m p.n 7) p

-- a module with its verdict
abbrev pub judged_module_of : Verdict → Module → List ℕ → Installed
judged_module_of (Ok _) p m = record { verdict = Ok tt; memory = with_module m p }
judged_module_of (Err q) p m = uninstalled q m

-- a crate line on a fit crate, after a line for the station `previous`, 0 where there was none: 1, 2, 11, 12, 10, else its module is put in
unfoldable pub place_of : List ℕ → (previous : ℕ) → ModuleLine → Installed
place_of m previous (Ok p) = judged_module_of (place_verdict m previous p) p m
place_of m previous (Err q) = uninstalled q m
