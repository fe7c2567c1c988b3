-- `put_refusals` meets its contract: after each turn the lines of the refusal numbers before watch k are put (`refusals-next`).
use lib.ListN.{length}
use mathlib.Core.Path.{◌≡◌}
use Rattle.report.specs.Lines.{PutRefusals}
use Rattle.report.proofs.put_refusals.Given as goal

abbrev pub invariant-loop-k : goal.invariant-loop-k
invariant-loop-k l = (length l.out ≡ length l.initial.out) × PutRefusals l.first l.second l.k l.initial.out l.at l.out l.next
