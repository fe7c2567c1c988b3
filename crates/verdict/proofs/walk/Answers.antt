-- `walk` meets its contract: before the two cursors the watch sees the same (`Walking`). Where both have come to the end, that is all; where one has, or where
-- the steps differ, the lists part.
-- Assumes nothing.
use native.Mathlib.Omega.{arith}
use Rattle.std.proofs.Common.{rules}
use Rattle.verdict.proofs.Walks.{walking_start, walking-more}
use Rattle.verdict.proofs.walk.Goals as goal

pub loop-k-init : goal.loop-k-init
loop-k-init c = walking_start _ _ _

pub loop-k-preserved : goal.loop-k-preserved
loop-k-preserved c = walking-more _ _ _ _ _ _ _ c.loop-k.invariant
    c.next-x.ensures c.next-y.ensures
    (omega (arith, c.if-x-m-2.false, c.next-x.ensures.high))
    (omega (arith, c.if-y-n-2.false, c.next-y.ensures.high))
    (c.equal.ensures.holds (search rules))
