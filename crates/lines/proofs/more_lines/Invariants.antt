-- `more_lines` meets its contract. The loop's invariant: so many lines lie before index i as were counted.
use Rattle.lines.proofs.Counting.{lines_from}
use lib.ListN.{length}
use mathlib.Core.Path.{◌≡◌}
use Prim.Native.Nat.{◌+◌, ◌≤◌}
use Rattle.lines.proofs.more_lines.Given as goal

abbrev pub invariant-loop : goal.invariant-loop
invariant-loop l = record { within : l.i ≤ length l.text; counted : lines_from l.text 0 ≡ l.counter + lines_from l.text l.i }
