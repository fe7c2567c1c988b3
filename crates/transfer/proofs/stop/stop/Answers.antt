-- `stop` meets its contract: each way out of the loop is an end of the definition.
-- Assumes nothing.
use Rattle.transfer.proofs.Stopping.{stopping-full, stopping-fault, stopping-miss, stopping-hit}
use Rattle.transfer.proofs.stop.stop.Goals as goal

-- X = 0
pub returns-then-reply-ne1 : goal.returns-then-reply-ne1
returns-then-reply-ne1 c = stopping-fault c.loop-words.invariant c.cycle-reply.ensures c.loop-words-test.true c.if-reply-ne1.true

-- Q = 0
pub returns-then-reply-ne1-2 : goal.returns-then-reply-ne1-2
returns-then-reply-ne1-2 c =
    stopping-miss c.loop-words.invariant c.cycle-reply.ensures c.loop-words-test.true c.if-reply-ne1.false c.if-reply-ne1-2.true

pub loop-words-preserved : goal.loop-words-preserved
loop-words-preserved c =
    stopping-hit c.loop-words.invariant c.cycle-reply.ensures c.loop-words-test.true c.if-reply-ne1.false c.if-reply-ne1-2.false

-- the limit is reached
pub returns : goal.returns
returns c = stopping-full c.loop-words.invariant c.loop-words-test.false
