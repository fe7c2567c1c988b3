-- What a command to many stations comes to (RULES 2.37): station by station, bit by bit, and in whatever order it reaches them. A up to 15 and W of 24 bits are what
-- the judging lets by.
use Rattle.std.specs.Prelude.{ℕ, ◌≤◌, ◌≡◌, true, false, cond, List, [], ◌∷◌}
use Rattle.word24.specs.Word.{bit_of}
use Rattle.blocks.specs.Blocks.{block_of}
use Rattle.kinds.specs.Cases.{is_one_of}
use Rattle.regroup.specs.Lists.{run, outs}
use Rattle.station.specs.declared.Reply.{Reply}
use Rattle.dataway.specs.Crate.{FitCrate}
use Rattle.dataway.specs.Stations.{reply_of, after_command}
use Rattle.dataway.specs.Addressed.{is_addressed, silent, joined, many_of}

-- from a fit crate block 0 stays, and the block of each station is that of its own command where it is addressed, else as it was
abbrev pub ManyBlocks : Type 0
ManyBlocks = (m : List ℕ) (pattern a f w : ℕ) → FitCrate m → a ≤ 15 → w ≤ 16777215
    → (block_of (many_of m pattern a f w).memory 0 ≡ block_of m 0)
    × ((n : ℕ) → 1 ≤ n → n ≤ 23
    → block_of (many_of m pattern a f w).memory n ≡ cond (is_addressed pattern n) (block_of (after_command m n a f w) n) (block_of m n))

-- of X, Q or R: the station n is addressed, and bit i of its answer is 1
abbrev pub Answers : (Reply → ℕ) → List ℕ → (pattern a f w i n : ℕ) → Type 0
Answers part m pattern a f w i n = (1 ≤ n) × (n ≤ 23) × (is_addressed pattern n ≡ true) × (bit_of i (part (reply_of m n a f w)) ≡ 1)

-- bit i of the joined answer is 1 exactly where an addressed station's is
abbrev pub JoinedBits : (Reply → ℕ) → Type 0
JoinedBits part = (m : List ℕ) (pattern a f w i : ℕ)
    → (bit_of i (part (many_of m pattern a f w).reply) ≡ 1 → (n : ℕ) × Answers part m pattern a f w i n)
    × ((n : ℕ) → Answers part m pattern a f w i n → bit_of i (part (many_of m pattern a f w).reply) ≡ 1)

-- so it is of X, of Q and of R, from any memory and with any A, F and W
pub record ManyBits : Type 0 where
  pub x : JoinedBits (λ (p : Reply). p.x)
  pub q : JoinedBits (λ (p : Reply). p.q)
  pub r : JoinedBits (λ (p : Reply). p.r)

-- no number stands in the list twice
abbrev pub Once : List ℕ → Type 0
Once [] = Unit {0}
Once (n ∷ ns) = (is_one_of n ns ≡ false) × Once ns

-- a list of the stations of a pattern, in any order: each of them once, and no other
pub record EachOnce (pattern : ℕ) (ns : List ℕ) : Type 0 where
  pub only : (n : ℕ) → is_one_of n ns ≡ true → (1 ≤ n) × (n ≤ 23) × (is_addressed pattern n ≡ true)
  pub each : (n : ℕ) → 1 ≤ n → n ≤ 23 → is_addressed pattern n ≡ true → is_one_of n ns ≡ true
  pub once : Once ns

-- answers joined
abbrev pub joined_all : List Reply → Reply
joined_all [] = silent
joined_all (p ∷ ps) = joined p (joined_all ps)

-- A COMMAND TO MANY STATIONS IS THE COMMANDS TO EACH, ONE AFTER THE OTHER IN ANY ORDER: from a fit crate they leave the same memory, and their answers, joined, are
-- its answer
abbrev pub InAnyOrder : Type 0
InAnyOrder = (m : List ℕ) (pattern a f w : ℕ) (ns : List ℕ) → FitCrate m → a ≤ 15 → w ≤ 16777215 → EachOnce pattern ns
    → (run (λ (x : List ℕ) (n : ℕ). after_command x n a f w) m ns ≡ (many_of m pattern a f w).memory)
    × (joined_all (outs (λ (x : List ℕ) (n : ℕ). after_command x n a f w) (λ (x : List ℕ) (n : ℕ). reply_of x n a f w) m ns) ≡ (many_of m pattern a f w).reply)
