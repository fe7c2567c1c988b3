-- `run_steps` meets its contract. The loop's invariant, `Running`: memory, answers and buffers are those of the first k steps, and the rest is as it was.
use Prim.Native.Nat.{◌-◌, ◌≤◌}
use Rattle.lists.proofs.Running.{Running}
use Rattle.lists.proofs.run_steps.Given as goal

abbrev pub invariant-loop-k : goal.invariant-loop-k
invariant-loop-k l = (l.k ≤ l.count) × Running l.initial.memory l.steps l.initial.answers l.initial.buffers l.memory l.answers l.buffers l.k

abbrev pub decreases-loop-k : goal.decreases-loop-k
decreases-loop-k l = l.count - l.k
