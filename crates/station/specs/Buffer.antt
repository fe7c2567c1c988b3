-- The buffer memory: kind 4, Group 1 commands at A = 0 (RULES 2.13 to 2.17). It holds its words from head on, modulo 16.
use Rattle.std.specs.Prelude.{ℕ, ◌+◌, ◌-◌, ◌%◌, ◌^◌, List, cond, eqb}
use Rattle.word24.specs.Word.{complement_of, clear_bits}
use Rattle.station.specs.Block.{status_of, mask_of, head_of, fill_of, register_of, with_head, with_fill, with_register, clear_status_bit, zeroed_of}
use Rattle.station.specs.Outcome.{Outcome, accept, done, gives, tells}

-- the oldest word stands at head
abbrev pub oldest_of : List ℕ → ℕ
oldest_of b = register_of b (head_of b)

-- on an empty memory F0, F2 and F3 give X = 1, Q = 0, R = 0 and change nothing
abbrev pub unless_empty : List ℕ → Outcome → Outcome
unless_empty b o = cond (eqb (fill_of b) 0) (tells b 0) o

-- F0 gives the oldest word
unfoldable pub buffer_read_of : List ℕ → ℕ → Outcome
buffer_read_of b a = accept (eqb a 0) b (unless_empty b (gives b (oldest_of b)))

-- F3 gives its complement
unfoldable pub buffer_read_complement_of : List ℕ → ℕ → Outcome
buffer_read_complement_of b a = accept (eqb a 0) b (unless_empty b (gives b (complement_of (oldest_of b))))

-- the memory without its oldest word: its place is zeroed, head moves on by one modulo 16, fill is one lower
abbrev pub shortened_of : List ℕ → List ℕ
shortened_of b = with_fill (with_head (with_register b (head_of b) 0) ((head_of b + 1) % 16)) (fill_of b - 1)

-- and with the last word, where fill becomes 0, status bit 0 is cleared
unfoldable pub without_oldest : List ℕ → List ℕ
without_oldest b = cond (eqb (fill_of b) 1) (clear_status_bit (shortened_of b) 0) (shortened_of b)

-- F2 gives the oldest word and takes it out
unfoldable pub buffer_read_and_clear_of : List ℕ → ℕ → Outcome
buffer_read_and_clear_of b a = accept (eqb a 0) b (unless_empty b (gives (without_oldest b) (oldest_of b)))

-- F9, empty or not, zeroes head, fill and all sixteen words and clears status bit 0
unfoldable pub buffer_clear_of : List ℕ → ℕ → Outcome
buffer_clear_of b a = accept (eqb a 0) b (done (zeroed_of b (clear_bits (status_of b) (2 ^ 0)) (mask_of b)))
