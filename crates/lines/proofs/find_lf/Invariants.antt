-- `find_lf` meets its contract: no byte before the present one is LF.
use lib.ListN.{length}
use Prim.Native.Nat.{◌-◌, ◌≤◌}
use Rattle.lines.proofs.LfLaws.{Clear}
use Rattle.lines.proofs.find_lf.Given as goal

abbrev pub invariant-loop-i : goal.invariant-loop-i
invariant-loop-i l = record { from : l.from ≤ l.i; within : l.i ≤ length l.text; clear : Clear l.text l.from l.i }

abbrev pub decreases-loop-i : goal.decreases-loop-i
decreases-loop-i l = length l.text - l.i
