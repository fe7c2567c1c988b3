-- The crate memory is lent as 768 words of 32 bits: 24 blocks of 32. Block n is the words from 32 n to 32 n + 31. Block 0 is the crate's own, with
-- Inhibit I in its word 0 and the Station Number Register in its word 1; block n, from 1 to 23, is station n's. (RULES 1.2, 1.17)
use Rattle.std.specs.Prelude.{◌≡◌, List, ◌++◌, ℕ, ◌+◌, ◌*◌, ◌<◌, get_or, take, drop}

-- word w of block n
abbrev pub word : List ℕ → ℕ → ℕ → ℕ
word m n w = get_or m (32 * n + w) 0

-- Inhibit I
abbrev pub inhibit_of : List ℕ → ℕ
inhibit_of m = get_or m 0 0

-- the Station Number Register, word 1 of block 0: bit N - 1 belongs to station N
abbrev pub snr_of : List ℕ → ℕ
snr_of m = get_or m 1 0

-- the 32 words of block n
unfoldable pub block_of : List ℕ → ℕ → List ℕ
block_of m n = take 32 (drop (32 * n) m)

-- the memory m with the 32 words of b in the place of block n
unfoldable pub with_block : List ℕ → ℕ → List ℕ → List ℕ
with_block m n b = take (32 * n) m ++ (b ++ drop (32 * n + 32) m)

-- the memories m and m' have the same 32 words in block n
abbrev pub Agree : List ℕ → List ℕ → ℕ → Type 0
Agree m m' n = (w : ℕ) → w < 32 → word m n w ≡ word m' n w
