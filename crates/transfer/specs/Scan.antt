-- Scan (N, A, to, limit) (RULES 4.3 to 4.7): while N is at most `to` and fewer than `limit` words are stored, command N, A.
use Rattle.std.specs.Prelude.{true, false, List, [], ℕ, zero, suc, ◌+◌, ◌*◌, ◌-◌, length, eqb, ltb, leb}
use Rattle.station.specs.declared.Reply.{Reply}
use Rattle.transfer.specs.Cycle.{Ended, ended, CycleAt, reads, store}

-- what is left of a scan, from the memory, the station, the subaddress, the words stored and the cycles made
abbrev pub Rest : Type 0
Rest = List ℕ → ℕ → ℕ → List ℕ → ℕ → Ended

-- The cycle at N, A gave the reply r and left the memory m. After Q = 1, go to A + 1, or from 15 to A0 of N + 1. After Q = 0, go to A0 of N + 1.
unfoldable pub scan_next : Rest → (n a : ℕ) → List ℕ → ℕ → Reply → List ℕ → Ended
scan_next rest n a ws c r m =
    elim (eqb r.q 1) [
      | true ↦ elim (ltb a 15) [ true ↦ rest m n (a + 1) (store r ws) (c + 1) | false ↦ rest m (n + 1) 0 (store r ws) (c + 1) ]
      | false ↦ rest m (n + 1) 0 ws (c + 1)
    ]

-- End 1: limit reached (tested first). End 2: past `to`. Else a cycle at N, A with so many words stored.
unfoldable pub scan_cycle : (cycle : CycleAt) (to limit : ℕ) → Rest → Rest
scan_cycle cycle to limit rest m n a ws c =
    elim (ltb (length ws) limit) [
      | false ↦ ended 1 m ws c
      | true ↦ elim (leb n to) [
        | false ↦ ended 2 m ws c
        | true ↦ scan_next rest n a ws c (cycle m n a (length ws)).reply (cycle m n a (length ws)).memory
      ]
    ]

-- cycle after cycle; the first number only bounds them, so that the recursion ends
unfoldable pub scan_from : ℕ → (cycle : CycleAt) (to limit : ℕ) → Rest
scan_from zero cycle to limit m n a ws c = ended 2 m ws c
scan_from (suc k) cycle to limit m n a ws c = scan_cycle cycle to limit (scan_from k cycle to limit) m n a ws c

-- a bound that is enough from station N on: 16 cycles for each station up to `to`, and the last test
abbrev pub scan_bound : (to n : ℕ) → ℕ
scan_bound to n = 16 * (to + 1 - n) + 1

-- A scan under way. The bound is never used up: scanning is scan_cycle of itself (`scan-again`).
unfoldable pub scanning : (cycle : CycleAt) (to limit : ℕ) → Rest
scanning cycle to limit m n a ws c = scan_from (scan_bound to n) cycle to limit m n a ws c

-- the scan: from N, A, with no word stored and no cycle made
abbrev pub scan_of : List ℕ → (n a f to limit : ℕ) → Ended
scan_of m n a f to limit = scanning (reads f) to limit m n a [] 0
