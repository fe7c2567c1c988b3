-- A sheet of windows in one pass (RULES 4.27, 4.28): a flag word for each subaddress of stations N to `to`, in the order of the registers' numbers (`Within`),
-- and how many registers are read.
use Rattle.std.specs.Prelude.{ℕ, zero, suc, ◌+◌, ◌-◌, ◌*◌, ◌/◌, List, [], ◌∷◌, ◌++◌, cond, eqb, length, get_or}
use Rattle.blocks.specs.Blocks.{block_of}
use Rattle.word24.specs.Word.{bit_of, bits_of}
use Rattle.kinds.specs.Cases.{is_one_of}
use Rattle.station.specs.Block.{kind_of, count_of}
use Rattle.step.specs.Verdict.{places_of}
use Rattle.windows.specs.Within.{listed_kinds, is_inside, picked}

-- ---- the sheet: two words a window, lo then hi
-- how many windows it has
abbrev pub windows_in : List ℕ → ℕ
windows_in sheet = length sheet / 2

-- lo of window i, counted from 0
abbrev pub low_of : List ℕ → ℕ → ℕ
low_of sheet i = get_or sheet (2 * i) 0

-- hi of window i
abbrev pub high_of : List ℕ → ℕ → ℕ
high_of sheet i = get_or sheet (2 * i + 1) 0

-- ---- the flag words
-- that of register p: bit i is 1 where p is inside window i; all bits at and above the number of windows are clear
unfoldable pub flag_of : (sheet m : List ℕ) → ℕ → ℕ
flag_of sheet m p = bits_of (λ i. is_inside m (low_of sheet i) (high_of sheet i) p) (windows_in sheet)

-- g of each of the k numbers from `from` on
unfoldable pub words_from : (ℕ → ℕ) → (from k : ℕ) → List ℕ
words_from g from zero = []
words_from g from (suc k) = words_from g from k ++ (g (from + k) ∷ [])

-- those of stations N to `to`, 16 each
unfoldable pub flags_of : (sheet m : List ℕ) → (n to : ℕ) → List ℕ
flags_of sheet m n to = words_from (flag_of sheet m) (16 * n) (places_of n to)

-- the registers that window i flags, where the words ws are those of the numbers from `from` on
unfoldable pub flagged_by : (i from : ℕ) → List ℕ → List ℕ
flagged_by i from ws = picked (λ p. eqb (bit_of i (get_or ws (p - from) 0)) 1) from (length ws)

-- ---- how many registers are read
-- of a station: r, in kinds 1, 3 and 5
abbrev pub read_in : List ℕ → ℕ
read_in b = cond (is_one_of (kind_of b) listed_kinds) (count_of b) 0

-- of the k stations from n on: the sum
unfoldable pub read_from : List ℕ → (n k : ℕ) → ℕ
read_from m n zero = 0
read_from m n (suc k) = read_from m n k + read_in (block_of m (n + k))

-- of stations N to `to`
abbrev pub read_of : List ℕ → (n to : ℕ) → ℕ
read_of m n to = read_from m n (to + 1 - n)
