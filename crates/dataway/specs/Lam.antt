-- The Look-at-Me reading (RULES 3.15 to 3.17): L, how many of its bits are 1, and the lowest requesting station.
use Rattle.std.specs.Prelude.{ℕ, zero, suc, ◌+◌, List, Bool, cond, ltb}
use Rattle.word24.specs.Word.{as_bit, bits_of}
use Rattle.blocks.specs.Blocks.{block_of}
use Rattle.station.specs.Block.{request_of}
use Rattle.dataway.specs.declared.lam.LamReading.{LamReading}

-- whether station n requests: its status AND mask is above 0
unfoldable pub is_requesting : List ℕ → ℕ → Bool
is_requesting m n = ltb 0 (request_of (block_of m n))

-- 1 where it does, else 0
unfoldable pub requests : List ℕ → ℕ → ℕ
requests m n = as_bit (is_requesting m n)

-- L of stations 1 to k: bit N-1 is 1 when station N requests
unfoldable pub pattern_to : ℕ → List ℕ → ℕ
pattern_to k m = bits_of (λ i. is_requesting m (suc i)) k

-- how many of stations 1 to k request
unfoldable pub count_to : ℕ → List ℕ → ℕ
count_to zero m = 0
count_to (suc k) m = requests m (suc k) + count_to k m

-- the first of the k stations from n on that requests, or 0
unfoldable pub first_from : (k n : ℕ) → List ℕ → ℕ
first_from zero n m = 0
first_from (suc k) n m = cond (is_requesting m n) n (first_from k (suc n) m)

-- the reading of all 23 stations
unfoldable pub lam_of : List ℕ → LamReading
lam_of m = record { l = pattern_to 23 m; count = count_to 23 m; first = first_from 23 1 m }
