-- `clear` meets its contract. The loop's invariant: F9 has been done at each A below a. The block stays fit and keeps its r (`cleared-below-kept`), as F9 asks.
use mathlib.Core.Path.{◌≡◌}
use Rattle.station.specs.Control.{cleared_below}
use Rattle.panel.proofs.control.clear.Given as goal

abbrev pub invariant-loop-a : goal.invariant-loop-a
invariant-loop-a l = l.b ≡ cleared_below l.a l.initial.b
