-- Stop (N, A, limit) (RULES 4.10, 4.21): command N, A until the limit is reached, a cycle has X = 0, or one has Q = 0.
use Rattle.std.specs.Prelude.{true, false, List, [], ℕ, zero, suc, ◌+◌, length, eqb}
use Rattle.station.specs.declared.Reply.{Reply}
use Rattle.transfer.specs.Cycle.{Ended, ended, CycleAt, reads, store, RestHere}

-- The cycle gave the reply r and left the memory m. End 3: X = 0, that cycle counted. End 2: the first Q = 0, that cycle counted.
unfoldable pub stop_next : RestHere → List ℕ → ℕ → Reply → List ℕ → Ended
stop_next rest ws c r m =
    elim (eqb r.x 1) [
      | false ↦ ended 3 m ws (c + 1)
      | true ↦ elim (eqb r.q 1) [ false ↦ ended 2 m ws (c + 1) | true ↦ rest m (store r ws) (c + 1) ]
    ]

-- A Stop with so many words still to store. End 1: limit reached. Else a cycle.
unfoldable pub stop_from : ℕ → (cycle : CycleAt) (n a : ℕ) → RestHere
stop_from zero cycle n a m ws c = ended 1 m ws c
stop_from (suc k) cycle n a m ws c =
    stop_next (stop_from k cycle n a) ws c (cycle m n a (length ws)).reply (cycle m n a (length ws)).memory

-- the Stop: limit words to store, no word stored and no cycle made
abbrev pub stop_of : List ℕ → (n a f limit : ℕ) → Ended
stop_of m n a f limit = stop_from limit (reads f) n a m [] 0
