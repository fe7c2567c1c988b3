-- Text as bytes: ASCII, and numbers in decimal with no leading zero but 0 itself.
use Rattle.std.specs.Prelude.{ℕ, zero, suc, ◌+◌, ◌/◌, ◌%◌, cond, List, [], ◌∷◌, ◌++◌, ltb}
use Prim.Native.Char.{code}
use Prim.Native.String.{String}

-- a quoted text as its bytes
abbrev pub bytes : String → List ℕ
bytes String.[] = []
bytes (String.◌∷◌ c s) = code c ∷ bytes s

-- n in decimal, if it has at most k + 1 digits
abbrev pub decimal_up_to : ℕ → ℕ → List ℕ
decimal_up_to zero n = (48 + n) ∷ []
decimal_up_to (suc k) n = cond (ltb n 10) ((48 + n) ∷ []) (decimal_up_to k (n / 10) ++ ((48 + n % 10) ∷ []))

-- a number of at most ten digits in decimal, so every 32-bit number
unfoldable pub decimal : ℕ → List ℕ
decimal n = decimal_up_to 9 n

-- a key, with the characters that stand before its number, and the number
abbrev pub field : String → ℕ → List ℕ
field key n = bytes key ++ decimal n

-- the same, and what follows
abbrev pub field_then : String → ℕ → List ℕ → List ℕ
field_then key n rest = bytes key ++ (decimal n ++ rest)
