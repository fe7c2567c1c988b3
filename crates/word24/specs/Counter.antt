-- The up-down counter over the integers (RULES 3.6, 3.7). A word x holds the signed number `signed_of x`.
-- An event v takes a register from old to `mod24 (exact_sum old v)`, and sets the status bit where `raises_at old (exact_sum old v)`.
-- proofs/CounterLaws.antt shows that `signed_of` stays in the span and loses nothing (signed-span, signed-back), and that `mod24` is the
-- remainder by 2^24 (mod24-lt, mod24-congruent).
use Rattle.std.specs.Prelude.{Bool, true, false, not, cond, ◌&&◌, ◌||◌, ℕ, zero, suc, ◌-◌, ◌%◌, ◌^◌, ℤ, pos, negsuc, neg_ℤ, ◌+ℤ◌, ◌-ℤ◌, ltb, eqb}
use Rattle.std.specs.Int.Signed.{le_z}

-- a word read as a signed number, from -8388608 to 8388607: a word below 2^23 is itself, any other is less by 2^24
unfoldable pub signed_of : ℕ → ℤ
signed_of x = cond (ltb x (2 ^ 23)) (pos x) (pos x -ℤ pos (2 ^ 24))

-- the exact sum of register and event, not yet brought back to 24 bits
abbrev pub exact_sum : ℕ → ℕ → ℤ
exact_sum old v = signed_of old +ℤ signed_of v

-- an integer modulo 2^24, from 0 to 2^24 - 1; `negsuc n` is -(n + 1), so that -1 gives 2^24 - 1
abbrev pub mod24 : ℤ → ℕ
mod24 (pos n) = n % 2 ^ 24
mod24 (negsuc n) = 2 ^ 24 - 1 - n % 2 ^ 24

-- whether z is a signed number of 24 bits
abbrev pub in_span : ℤ → Bool
in_span z = le_z (neg_ℤ (pos 8388608)) z && le_z z (pos 8388607)

-- whether z is 0
abbrev pub is_zero : ℤ → Bool
is_zero (pos zero) = true
is_zero (pos (suc n)) = false
is_zero (negsuc n) = false

-- whether the exact sum z is outside the span, or is 0 while old was not 0
abbrev pub raises_at : ℕ → ℤ → Bool
raises_at old z = not (in_span z) || (is_zero z && not (eqb old 0))
