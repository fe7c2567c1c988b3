-- `put` meets its contract. Each way that a turn goes is a way of the definition (`Putting`): Q = 0 and past A15 go on to the next station, Q = 1 to the next
-- subaddress and the next word. The loops left from inside are end 1, and past `to` is end 2.
-- Assumes nothing.
use Prim.Native.Nat.{◌+◌}
use native.Mathlib.Omega.{arith}
use Rattle.transfer.proofs.Putting.{Putting, put-over, put-past, put-miss, put-more, put_full}
use Rattle.transfer.proofs.put.put.Goals as goal
use Rattle.transfer.proofs.put.put.Goals.{Left-loop-subaddress, else-loop-subaddress-test, then-loop-subaddress-test+then-reply-ne1}

pub loop-subaddress-preserved : goal.loop-subaddress-preserved
loop-subaddress-preserved c = let i = c.loop-subaddress.invariant in record {
  putting = put-more i.putting (omega arith) c.stations-test.true c.command-reply.ensures c.if-reply-ne1.false c.if-words-limit.false;
  short = i.short;
}

-- the inner loop is left past A15, or by Q = 0
turned : (c : Left-loop-subaddress) → Putting c.args.offered.now c.args.to c.args.n c.args.a c.args.memory.now c.loop-subaddress-test.memory
    (c.stations.station + 1) 0 c.loop-subaddress.words c.loop-subaddress-test.cycles
turned c =
    let g = c.loop-subaddress.invariant.putting in
    elim c.loop-subaddress-test.branch [
      | else-loop-subaddress-test w ↦ rw (w.memory-is, w.cycles-is) (put-over g (omega arith))
      | then-loop-subaddress-test+then-reply-ne1 w ↦
          rw (w.memory-is, w.cycles-is) (put-miss g (omega arith) c.stations-test.true w.command-reply.ensures w.if-reply-ne1.true)
    ]

pub stations-preserved : goal.stations-preserved
stations-preserved c = record {
  putting = turned (goal.at.stations-preserved c).Left-loop-subaddress;
  low = omega arith;
  short = c.loop-subaddress.invariant.short;
}

-- left from inside
pub returns-then-words-limit : goal.returns-then-words-limit
returns-then-words-limit c =
    put_full c.loop-subaddress.invariant.putting (omega arith) c.stations-test.true c.command-reply.ensures c.if-reply-ne1.false c.if-words-limit.true

-- past `to`
pub returns-2 : goal.returns-2
returns-2 c = rw c.loop-subaddress.invariant.short (put-past (turned (goal.at.returns-2 c).Left-loop-subaddress) (omega arith) (omega arith))
