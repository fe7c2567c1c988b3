-- `list_within` meets its contract: up to number p, what is listed is what was picked, and the words past it are as they were.
use Prim.Native.Nat.{◌-◌, ◌*◌, ◌≤◌}
use mathlib.Core.Path.{◌≡◌}
use lib.ListN.{length}
use Rattle.windows.specs.Within.{is_inside, picked, listed_in}
use Rattle.windows.proofs.list_within.Given as goal

abbrev pub invariant-loop-p : goal.invariant-loop-p
invariant-loop-p l = (16 * l.n ≤ l.p)
    × (l.p ≤ l.end)
    × ((l.count ≡ length (picked (is_inside l.memory l.lo l.hi) (16 * l.n) (l.p - 16 * l.n))) × (l.buffer ≡ listed_in (picked (is_inside l.memory l.lo l.hi) (16 * l.n) (l.p - 16 * l.n)) l.initial.buffer))

abbrev pub decreases-loop-p : goal.decreases-loop-p
decreases-loop-p l = l.end - l.p
