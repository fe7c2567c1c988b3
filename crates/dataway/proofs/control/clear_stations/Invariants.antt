-- `clear_stations` meets its contract. The loop's invariant: the stations before n are cleared.
use Prim.Native.Nat.{◌-◌}
use mathlib.Core.Path.{◌≡◌}
use Rattle.dataway.specs.Controls.{each_station}
use Rattle.station.specs.Control.{cleared_of}
use Rattle.dataway.proofs.control.clear_stations.Given as goal

abbrev pub invariant-loop-n : goal.invariant-loop-n
invariant-loop-n l = l.memory ≡ each_station (λ n. cleared_of) (l.n - 1) l.initial.memory
