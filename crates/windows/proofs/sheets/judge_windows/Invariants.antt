-- `judge_windows` meets its contract: the windows that are passed are good, so the verdict on the sheet is that on the windows left.
-- Assumes nothing.
use mathlib.Core.Path.{◌≡◌}
use lib.ListN.{length}
use Rattle.std.specs.Prelude.{Ok}
use Rattle.windows.specs.Sheets.{windows_then}
use Rattle.windows.proofs.sheets.judge_windows.Given as goal

abbrev pub invariant-loop-left : goal.invariant-loop-left
invariant-loop-left l = windows_then l.sheet (Ok tt) ≡ windows_then l.left (Ok tt)

abbrev pub decreases-loop-left : goal.decreases-loop-left
decreases-loop-left l = length l.left
