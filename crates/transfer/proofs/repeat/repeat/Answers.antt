-- `repeat` meets its contract: each way out of the loop is an end of the definition, and each turn leaves the rest of it (`Repeating`).
-- Assumes nothing.
use Prim.Native.Nat.{◌+◌}
use Rattle.transfer.proofs.Repeating.{Repeating, repeating-over, repeating-fault, repeating-miss, repeating-hit, repeating-full}
use Rattle.transfer.proofs.repeat.repeat.Goals as goal
use Rattle.transfer.proofs.repeat.repeat.Goals.{Joined-reply-eq1, then-reply-eq1+else-words-limit, else-reply-eq1}

-- X = 0
pub returns-then-reply-ne1 : goal.returns-then-reply-ne1
returns-then-reply-ne1 c = repeating-fault c.loop-tried.invariant c.cycle-reply.ensures c.loop-tried-test.true c.if-reply-ne1.true

-- the limit is reached
pub returns-then-words-limit : goal.returns-then-words-limit
returns-then-words-limit c =
    repeating-full c.loop-tried.invariant c.cycle-reply.ensures c.loop-tried-test.true c.if-reply-ne1.false c.if-reply-eq1.true c.if-words-limit.true

-- Q = 1, or Q = 0
turned : (c : Joined-reply-eq1) → Repeating c.args.n c.args.a c.args.f c.args.limit c.args.tries c.accepted-span.result c.args.memory.now c.args.buffer.now
    c.cycle-reply.new.memory c.if-reply-eq1.buffer c.if-reply-eq1.words (c.loop-tried.tried + 1)
turned c =
    let i = c.loop-tried.invariant in
    let d = c.cycle-reply.ensures in
    let l = c.loop-tried-test.true in
    let x = c.if-reply-ne1.false in
    elim c.if-reply-eq1.branch [
      | then-reply-eq1+else-words-limit w ↦ rw (w.buffer-is, w.words-is) (repeating-hit i d l x w.if-reply-eq1.true w.if-words-limit.false)
      | else-reply-eq1 w ↦ rw (w.buffer-is, w.words-is) (repeating-miss i d l x w.if-reply-eq1.false)
    ]

pub loop-tried-preserved : goal.loop-tried-preserved
loop-tried-preserved c = turned (goal.at.loop-tried-preserved c).Joined-reply-eq1

-- no try is left
pub returns : goal.returns
returns c = repeating-over c.loop-tried.invariant c.loop-tried-test.false
