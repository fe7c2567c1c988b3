-- `put_runs` meets its contract: after each turn the stations before k were taken (`heard-next`), and with the line of the last run all lines are put (`heard_all`).
use lib.ListN.{length}
use mathlib.Core.Path.{◌≡◌}
use Rattle.report.proofs.HeardLaws.{Heard}
use Rattle.report.proofs.put_runs.Given as goal

abbrev pub invariant-loop-k : goal.invariant-loop-k
invariant-loop-k l = (length l.out ≡ length l.initial.out) × Heard l.first l.second l.initial.out l.k l.out l.last
