-- `scan` meets its contract. Before each station and before each cycle the scan comes to what it is to come to from where it stands (`Going`), and the end is
-- still 2; in the inner loop the span is that of the station.
-- Assumes nothing.
use mathlib.Core.Path.{◌≡◌}
use Prim.Native.Nat.{◌≤◌}
use Rattle.dataway.specs.Stations.{AcceptsAt}
use Rattle.transfer.proofs.Going.{Going}
use Rattle.transfer.proofs.scan.scan.Given as goal

abbrev pub invariant-loop-subaddress : goal.invariant-loop-subaddress
invariant-loop-subaddress l = record {
  going : Going l.f l.to l.limit l.fn.n l.fn.a l.fn.memory l.fn.buffer l.memory l.buffer l.station l.subaddress l.words l.cycles;
  accepts : AcceptsAt l.memory l.station l.f l.span;
  short : l.end ≡ 2;
}

abbrev pub invariant-stations : goal.invariant-stations
invariant-stations l = record {
  going : Going l.f l.to l.limit l.fn.n l.fn.a l.fn.memory l.fn.buffer l.memory l.buffer l.station l.first l.words l.cycles;
  low : l.first ≤ 15;
  short : l.end ≡ 2;
}
