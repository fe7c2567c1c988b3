-- The arithmetic of 24-bit words, and words by their bits, bit 0 the lowest. The laws bit by bit are in proofs/BitLaws.antt, those of
-- `bits_of` in proofs/BitsOf.antt.
use Rattle.std.specs.Prelude.{Bool, cond, ℕ, zero, suc, ◌+◌, ◌-◌, ◌*◌, ◌/◌, ◌%◌, ◌^◌, leb}
use Rattle.std.specs.Int.Bits.{bit_and, bit_or}

-- the sum modulo 2^24
abbrev pub sum_of : ℕ → ℕ → ℕ
sum_of old v = (old + v) % 2 ^ 24

-- whether old + v reaches 2^24
abbrev pub carry_of : ℕ → ℕ → Bool
carry_of old v = leb (2 ^ 24) (old + v)

-- the 24-bit complement: each 0 of x made 1 and each 1 made 0
abbrev pub complement_of : ℕ → ℕ
complement_of x = 2 ^ 24 - 1 - x

-- x with the bits set that are 1 in w
abbrev pub set_bits : ℕ → ℕ → ℕ
set_bits x w = bit_or x w

-- x with the bits cleared that are 1 in w
unfoldable pub clear_bits : ℕ → ℕ → ℕ
clear_bits x w = x - bit_and x w

-- bit a of x, 0 or 1
abbrev pub bit_of : ℕ → ℕ → ℕ
bit_of a x = x / 2 ^ a % 2

-- the bits of w below s
abbrev pub low_bits : ℕ → ℕ → ℕ
low_bits s w = w % 2 ^ s

-- a test as a bit: 1 where it holds
abbrev pub as_bit : Bool → ℕ
as_bit s = cond s 1 0

-- the word whose bit i, for each i below k, is 1 where t holds of i; all other bits are clear
unfoldable pub bits_of : (ℕ → Bool) → ℕ → ℕ
bits_of t zero = 0
bits_of t (suc k) = as_bit (t k) * 2 ^ k + bits_of t k
