-- `put` meets its contract. Before each station and before each cycle the put comes to what it is to come to from where it stands (`Putting`), and the end is
-- still 2.
-- Assumes nothing.
use mathlib.Core.Path.{◌≡◌}
use Prim.Native.Nat.{◌≤◌}
use Rattle.transfer.proofs.Putting.{Putting}
use Rattle.transfer.proofs.put.put.Given as goal

abbrev pub invariant-loop-subaddress : goal.invariant-loop-subaddress
invariant-loop-subaddress l = record {
  putting : Putting l.offered l.to l.fn.n l.fn.a l.fn.memory l.memory l.station l.subaddress l.words l.cycles;
  short : l.end ≡ 2;
}

abbrev pub invariant-stations : goal.invariant-stations
invariant-stations l = record {
  putting : Putting l.offered l.to l.fn.n l.fn.a l.fn.memory l.memory l.station l.first l.words l.cycles;
  low : l.first ≤ 15;
  short : l.end ≡ 2;
}
