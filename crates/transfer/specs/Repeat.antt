-- Repeat (N, A, limit, tries) (RULES 4.9, 4.21): command N, A until the limit is reached, a cycle has X = 0, or the cycles equal tries.
use Rattle.std.specs.Prelude.{true, false, List, [], ℕ, zero, suc, ◌+◌, length, eqb, ltb}
use Rattle.station.specs.declared.Reply.{Reply}
use Rattle.transfer.specs.Cycle.{Ended, ended, CycleAt, reads, keep, RestHere}

-- The cycle gave the reply r and left the memory m. End 3: X = 0, that cycle counted. Else its word is stored when Q = 1.
unfoldable pub repeat_next : RestHere → List ℕ → ℕ → Reply → List ℕ → Ended
repeat_next rest ws c r m = elim (eqb r.x 1) [ false ↦ ended 3 m ws (c + 1) | true ↦ rest m (keep r ws) (c + 1) ]

-- A Repeat with so many tries left. End 1: limit reached (first). End 2: cycles equal tries. Else a cycle.
unfoldable pub repeat_from : ℕ → (cycle : CycleAt) (n a limit : ℕ) → RestHere
repeat_from zero cycle n a limit m ws c =
    elim (ltb (length ws) limit) [ false ↦ ended 1 m ws c | true ↦ ended 2 m ws c ]
repeat_from (suc k) cycle n a limit m ws c =
    elim (ltb (length ws) limit) [
      | false ↦ ended 1 m ws c
      | true ↦ repeat_next (repeat_from k cycle n a limit) ws c (cycle m n a (length ws)).reply (cycle m n a (length ws)).memory
    ]

-- the Repeat: all tries left, no word stored and no cycle made
abbrev pub repeat_of : List ℕ → (n a f limit tries : ℕ) → Ended
repeat_of m n a f limit tries = repeat_from tries (reads f) n a limit m [] 0
