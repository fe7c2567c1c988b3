-- Group 1: the registers (RULES 2.2, 2.5 to 2.12). Accepted at A below r.
use Rattle.std.specs.Prelude.{ℕ, List, [], ◌∷◌, cond, ◌&&◌, ltb}
use Rattle.word24.specs.Word.{sum_of, carry_of, complement_of, set_bits, clear_bits}
use Rattle.kinds.specs.Cases.{is_one_of}
use Rattle.station.specs.Block.{kind_of, count_of, register_of, with_register, set_status_bit_when, is_buffer}
use Rattle.station.specs.Outcome.{Outcome, accept, done, gives}
use Rattle.station.specs.Buffer.{buffer_read_of, buffer_read_and_clear_of, buffer_read_complement_of, buffer_clear_of}

-- accepted by a module of these kinds, at A below r
abbrev pub group1 : List ℕ → List ℕ → ℕ → Outcome → Outcome
group1 kinds b a o = accept (is_one_of (kind_of b) kinds && ltb a (count_of b)) b o

-- the kinds that F0, F2, F3 and F9 find registers in; of a buffer memory each has a rule of its own (Buffer)
abbrev pub register_kinds : List ℕ
register_kinds = 1 ∷ 2 ∷ 3 ∷ 5 ∷ []

-- F0 reads register A
unfoldable pub read_of : List ℕ → ℕ → Outcome
read_of b a = cond (is_buffer b) (buffer_read_of b a) (group1 register_kinds b a (gives b (register_of b a)))

-- F2 reads, then clears it
unfoldable pub read_and_clear_of : List ℕ → ℕ → Outcome
read_and_clear_of b a = cond (is_buffer b) (buffer_read_and_clear_of b a) (group1 register_kinds b a (gives (with_register b a 0) (register_of b a)))

-- F3 reads the 24-bit complement
unfoldable pub read_complement_of : List ℕ → ℕ → Outcome
read_complement_of b a = cond (is_buffer b) (buffer_read_complement_of b a) (group1 register_kinds b a (gives b (complement_of (register_of b a))))

-- F9 clears
unfoldable pub clear_of : List ℕ → ℕ → Outcome
clear_of b a = cond (is_buffer b) (buffer_clear_of b a) (group1 register_kinds b a (done (with_register b a 0)))

-- F16 overwrites with W: kinds 2, 5
unfoldable pub overwrite_of : List ℕ → ℕ → ℕ → Outcome
overwrite_of b a w = group1 (2 ∷ 5 ∷ []) b a (done (with_register b a w))

-- F18 sets the bits that are 1 in W: kind 2
unfoldable pub selective_set_of : List ℕ → ℕ → ℕ → Outcome
selective_set_of b a w = group1 (2 ∷ []) b a (done (with_register b a (set_bits (register_of b a) w)))

-- F21 clears them: kind 2
unfoldable pub selective_clear_of : List ℕ → ℕ → ℕ → Outcome
selective_clear_of b a w = group1 (2 ∷ []) b a (done (with_register b a (clear_bits (register_of b a) w)))

-- a scaler with v added to register A: the register becomes (old + v) modulo 2^24; status bit A is set when old + v reaches 2^24
unfoldable pub added_of : List ℕ → ℕ → ℕ → List ℕ
added_of b a v = set_status_bit_when (carry_of (register_of b a) v) (with_register b a (sum_of (register_of b a) v)) a

-- F25 adds one to register A of a scaler
unfoldable pub execute_of : List ℕ → ℕ → Outcome
execute_of b a = group1 (1 ∷ []) b a (done (added_of b a 1))
