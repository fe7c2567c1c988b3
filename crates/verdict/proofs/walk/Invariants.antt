-- `walk` meets its contract: before the two cursors the watch sees the same (`Walking`). Where both have come to the end, that is all; where one has, or where
-- the steps differ, the lists part.
-- Assumes nothing.
use Prim.Native.Nat.{◌-◌}
use Rattle.verdict.specs.Counted.{count}
use Rattle.verdict.proofs.Walks.{Walking}
use Rattle.verdict.proofs.walk.Given as goal

abbrev pub invariant-loop-k : goal.invariant-loop-k
invariant-loop-k l = Walking l.first l.second l.k l.i l.j

abbrev pub decreases-loop-k : goal.decreases-loop-k
decreases-loop-k l = count l.first - l.i
