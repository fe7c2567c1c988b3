-- `scan` meets its contract. Each way that a turn goes is a way of the definition (`Going`): Q = 0 and past A15 go on to the next station, Q = 1 to the next
-- subaddress. The loops left from inside are end 1, and past `to` is end 2.
-- Assumes nothing.
use Prim.Native.Nat.{◌+◌}
use native.Mathlib.Omega.{arith}
use Rattle.transfer.proofs.Going.{Going, go-over, go-past, go-miss, go-more, go-accepts, go-full}
use Rattle.transfer.proofs.scan.scan.Goals as goal
use Rattle.transfer.proofs.scan.scan.Goals.{Left-loop-subaddress, else-loop-subaddress-test, then-loop-subaddress-test+then-reply-ne1}

pub loop-subaddress-preserved : goal.loop-subaddress-preserved
loop-subaddress-preserved c =
    let i = c.loop-subaddress.invariant in
    let d = c.cycle-reply.ensures in
    let onto = c.stations-test.true in record {
      going = go-more i.going (omega arith) onto d c.if-reply-ne1.false c.if-words-limit.false;
      accepts = go-accepts i.going (omega arith) onto d c.accepted-span.result i.accepts;
      short = i.short;
    }

-- the inner loop is left past A15, or by Q = 0
turned : (c : Left-loop-subaddress) → Going c.args.f c.args.to c.args.limit c.args.n c.args.a c.args.memory.now c.args.buffer.now
    c.loop-subaddress-test.memory c.loop-subaddress.buffer (c.stations.station + 1) 0 c.loop-subaddress.words c.loop-subaddress-test.cycles
turned c =
    let g = c.loop-subaddress.invariant.going in
    elim c.loop-subaddress-test.branch [
      | else-loop-subaddress-test w ↦ rw (w.memory-is, w.cycles-is) (go-over g (omega arith))
      | then-loop-subaddress-test+then-reply-ne1 w ↦
          rw (w.memory-is, w.cycles-is) (go-miss g (omega arith) c.stations-test.true w.cycle-reply.ensures w.if-reply-ne1.true)
    ]

pub stations-preserved : goal.stations-preserved
stations-preserved c = record {
  going = turned (goal.at.stations-preserved c).Left-loop-subaddress;
  low = omega arith;
  short = c.loop-subaddress.invariant.short;
}

-- left from inside
pub returns-then-words-limit : goal.returns-then-words-limit
returns-then-words-limit c =
    go-full c.loop-subaddress.invariant.going (omega arith) c.stations-test.true c.cycle-reply.ensures c.if-reply-ne1.false c.if-words-limit.true

-- past `to`
pub returns-2 : goal.returns-2
returns-2 c =
    rw c.loop-subaddress.invariant.short (go-past (turned (goal.at.returns-2 c).Left-loop-subaddress) (omega arith) (omega arith))
