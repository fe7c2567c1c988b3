-- `run_steps` meets its contract. The loop's invariant, `Running`: memory, answers and buffers are those of the first k steps, and the rest is as it was.
use native.Mathlib.Omega.{arith}
use Rattle.lists.proofs.Running.{running-start, running_more, running-done}
use Rattle.lists.proofs.run_steps.Goals as goal

pub loop-k-init : goal.loop-k-init
loop-k-init c = let entry = c.args in
    (omega arith, running-start entry.memory.now entry.steps.now entry.answers.now entry.buffers.now c.requires.fit_crate)

pub loop-k-preserved : goal.loop-k-preserved
loop-k-preserved c = let entry = c.args in
    let pre = c.requires in
    let loop = c.loop-k in
    let loop-test = c.loop-k-test in
    let done = c.list_step-answer in
    let told = c.write_answer in (
      omega (arith, loop-test),
      running_more entry.memory.now entry.steps.now entry.answers.now entry.buffers.now loop.memory loop.answers loop.buffers entry.count
          loop.k pre.room.1 pre.room.2 (omega (arith, loop-test)) loop.invariant.1 done.new.memory done.result done.new.buffers told.new.out
          done.ensures.answer done.ensures.memory done.ensures.buffers done.ensures.fit done.auto.buffers told.ensures
          told.auto.out,
    )

pub returns : goal.returns
returns c = let entry = c.args in
    let loop = c.loop-k in
    running-done entry.memory.now entry.steps.now entry.answers.now entry.buffers.now loop.memory loop.answers loop.buffers entry.count
    loop.k (omega (arith, loop.invariant.0, c.loop-k-test)) loop.invariant.1
