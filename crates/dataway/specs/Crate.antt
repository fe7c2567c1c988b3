-- When a crate memory is fit (RULES 1.2, 1.3, 1.7, 1.15, 1.17): 768 words, block 0 as said, a fit block for each of the 23 stations, and a cover exactly to the right of
-- each module two stations wide.
use Rattle.std.specs.Prelude.{ℕ, ◌+◌, ◌<◌, ◌≤◌, ◌^◌, ◌≡◌, List, [], ◌∷◌, Bool, cond, length, get_or, replicate, ltb, eqb}
use Rattle.blocks.specs.Blocks.{word, block_of, inhibit_of, snr_of}
use Rattle.kinds.specs.Cases.{all_of, every}
use Rattle.station.specs.Block.{is_fit_block, FitBlock}

-- block 0 after Inhibit and the Station Number Register, words 2 to 31, is 0
unfoldable pub is_fit_rest : List ℕ → ℕ → Bool
is_fit_rest m i = eqb (get_or m (2 + i) 0) 0

-- the block of station 1 + i is fit
unfoldable pub is_fit_station : List ℕ → ℕ → Bool
is_fit_station m i = is_fit_block (block_of m (1 + i))

-- what a module of this width makes of the station to its right: covered (1) where it is two stations wide
abbrev pub cover_of : (width : ℕ) → ℕ
cover_of width = cond (eqb width 2) 1 0

-- word 7 of station 1 + i is as the width of its left neighbour, block i, makes it; left of station 1 is block 0, whose word 6 is 0
unfoldable pub is_fit_cover : List ℕ → ℕ → Bool
is_fit_cover m i = eqb (word m (1 + i) 7) (cover_of (word m i 6))

-- a memory is fit: its length, Inhibit (0 or 1), the Station Number Register (23 bits), the rest of block 0, the 23 stations, their covers, and none two stations
-- wide in 23
unfoldable pub crate_tests : List ℕ → List Bool
crate_tests m =
    eqb (length m) 768
    ∷ ltb (inhibit_of m) 2
    ∷ ltb (snr_of m) (2 ^ 23)
    ∷ every 30 (is_fit_rest m)
    ∷ every 23 (is_fit_station m)
    ∷ every 23 (is_fit_cover m)
    ∷ ltb (word m 23 6) 2
    ∷ []

unfoldable pub is_fit_crate : List ℕ → Bool
is_fit_crate m = all_of (crate_tests m)

-- the same as facts, which `crate-facts` and `facts-crate` prove of each other (proofs/CrateLaws)
pub record FitCrate (m : List ℕ) : Type 0 where
  pub size : length m ≡ 768
  pub inhibit : inhibit_of m < 2
  pub snr : snr_of m < 2 ^ 23
  pub rest : (i : ℕ) → i < 30 → get_or m (2 + i) 0 ≡ 0
  pub station : (n : ℕ) → 1 ≤ n → n ≤ 23 → FitBlock (block_of m n)
  pub cover : (i : ℕ) → i < 23 → word m (1 + i) 7 ≡ cover_of (word m i 6)
  pub last : word m 23 6 < 2

-- a crate with no module in it
abbrev pub empty_crate : List ℕ
empty_crate = replicate 768 0
