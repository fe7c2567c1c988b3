-- A number's last digits, as the loop that writes them from the right gives them.
use Rattle.std.specs.Prelude.{ℕ, zero, suc, ◌+◌, ◌/◌, ◌%◌, List, [], ◌∷◌, ◌++◌}

-- the last k decimal digits of n, the highest first, zeros in front where n has fewer
abbrev pub digits : ℕ → ℕ → List ℕ
digits zero n = []
digits (suc k) n = digits k (n / 10) ++ ((48 + n % 10) ∷ [])

-- the k lowest bytes of d, the lowest first
abbrev pub unpacked : ℕ → ℕ → List ℕ
unpacked zero d = []
unpacked (suc k) d = d % 256 ∷ unpacked k (d / 256)

-- eight times the digit 0, so packed
abbrev pub zeros : ℕ
zeros = 3472328296227680304
