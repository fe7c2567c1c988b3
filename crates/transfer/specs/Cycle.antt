-- What the block transfers share (RULES 4.1, 4.2, 4.12, 4.13): a cycle is one command, its word is stored when Q = 1; and what a transfer answers and leaves
-- in the buffer. A scan and a put do not look at X; a Repeat and a Stop end where it is 0.
use Rattle.std.specs.Prelude.{true, false, List, [], ◌∷◌, ◌++◌, ℕ, length, drop, eqb}
use Rattle.transfer.specs.declared.Transfer.{Transfer}
use Rattle.station.specs.declared.Reply.{Reply}
use Rattle.dataway.specs.Stations.{reply_of, after_command}

-- what a transfer comes to: its end, the words stored, in their order, the cycles made, and the crate memory that it leaves
pub record Ended : Type 0 where
  pub end : ℕ
  pub words : List ℕ
  pub cycles : ℕ
  pub memory : List ℕ

-- end e with the memory m, the words ws stored and c cycles made
abbrev pub ended : ℕ → List ℕ → List ℕ → ℕ → Ended
ended e m ws c = record { end = e; words = ws; cycles = c; memory = m }

-- the answer has end, words and cycles
abbrev pub transfer_of : Ended → Transfer
transfer_of e = record { end = e.end; words = length e.words; cycles = e.cycles }

-- the buffer afterwards: the words stored, and past them the contents it had
abbrev pub buffer_after : Ended → List ℕ → List ℕ
buffer_after e buffer = e.words ++ drop (length e.words) buffer

-- what a transfer tells of itself: all but the memory
pub record Told : Type 0 where
  pub end : ℕ
  pub words : List ℕ
  pub cycles : ℕ

-- what it tells of what it comes to
abbrev pub told : Ended → Told
told e = record { end = e.end; words = e.words; cycles = e.cycles }

-- what one cycle gives: the reply, and the memory that it leaves
pub record Cycle : Type 0 where
  pub reply : Reply
  pub memory : List ℕ

-- a cycle for every place: from the memory m, at station n, subaddress a, with k words stored so far
abbrev pub CycleAt : Type 0
CycleAt = (m : List ℕ) (n a k : ℕ) → Cycle

-- the cycle of a transfer with function F: the command F, which is a read, so that W does not matter
abbrev pub reads : ℕ → CycleAt
reads f m n a k = record { reply = reply_of m n a f 0; memory = after_command m n a f 0 }

-- the words stored, with the word of the reply after them
abbrev pub store : Reply → List ℕ → List ℕ
store r ws = ws ++ (r.r ∷ [])

-- the word of the reply is stored when Q = 1
unfoldable pub keep : Reply → List ℕ → List ℕ
keep r ws = elim (eqb r.q 1) [ true ↦ store r ws | false ↦ ws ]

-- what is left of a transfer that stays at its place, from the memory, the words stored and the cycles made
abbrev pub RestHere : Type 0
RestHere = List ℕ → List ℕ → ℕ → Ended
