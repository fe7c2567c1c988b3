-- The block of one station (RULES 1.4, 1.5, 1.8 to 1.15): its 32 words, and when a block is fit.
use Rattle.std.specs.Prelude.{ℕ, ◌+◌, ◌-◌, ◌<◌, ◌≤◌, ◌^◌, ◌%◌, ◌≡◌, List, [], ◌∷◌, ◌++◌, Bool, false, cond, ◌&&◌, ◌||◌, length, get_or, set, take, drop, replicate, leb, ltb, eqb}
use Rattle.std.specs.Int.Bits.{bit_and}
use Rattle.word24.specs.Word.{set_bits, clear_bits}
use Rattle.kinds.specs.Cases.{all_of, every}
use Rattle.kinds.specs.Table.{least_of, most_of, sources_with, last_head_of, most_fill_of, least_width_of, most_width_of, most_covered_of, in_table}

-- ---- the words of a block
-- word 0: the kind
abbrev pub kind_of : List ℕ → ℕ
kind_of b = get_or b 0 0

-- word 1: the register count r
abbrev pub count_of : List ℕ → ℕ
count_of b = get_or b 1 0

-- word 2: the LAM status; bit a belongs to source a
abbrev pub status_of : List ℕ → ℕ
status_of b = get_or b 2 0

-- word 3: the LAM mask; bit a belongs to source a
abbrev pub mask_of : List ℕ → ℕ
mask_of b = get_or b 3 0

-- word 4: the head of a buffer memory
abbrev pub head_of : List ℕ → ℕ
head_of b = get_or b 4 0

-- word 5: the fill of a buffer memory
abbrev pub fill_of : List ℕ → ℕ
fill_of b = get_or b 5 0

-- word 6: the width of the module in stations, 0 in an empty station
abbrev pub width_of : List ℕ → ℕ
width_of b = get_or b 6 0

-- word 7: 1 where the station is covered by its left neighbour, else 0
abbrev pub covered_of : List ℕ → ℕ
covered_of b = get_or b 7 0

-- words 6 to 15, which no step changes
abbrev pub fixed_of : List ℕ → ℕ → ℕ
fixed_of b i = get_or b (6 + i) 0

-- those of them that must be zero: words 8 to 15
abbrev pub spare_of : List ℕ → ℕ → ℕ
spare_of b i = get_or b (8 + i) 0

-- words 16 to 31: registers 0 to 15
abbrev pub register_of : List ℕ → ℕ → ℕ
register_of b a = get_or b (16 + a) 0

-- the LAM requests: status AND mask
abbrev pub request_of : List ℕ → ℕ
request_of b = bit_and (status_of b) (mask_of b)

-- ---- a block with one word changed
abbrev pub with_status : List ℕ → ℕ → List ℕ
with_status b v = set b 2 v

abbrev pub with_mask : List ℕ → ℕ → List ℕ
with_mask b v = set b 3 v

abbrev pub with_head : List ℕ → ℕ → List ℕ
with_head b v = set b 4 v

abbrev pub with_fill : List ℕ → ℕ → List ℕ
with_fill b v = set b 5 v

abbrev pub with_register : List ℕ → ℕ → ℕ → List ℕ
with_register b a v = set b (16 + a) v

-- status bit a set
abbrev pub set_status_bit : List ℕ → ℕ → List ℕ
set_status_bit b a = with_status b (set_bits (status_of b) (2 ^ a))

-- status bit a set where the test t holds
abbrev pub set_status_bit_when : Bool → List ℕ → ℕ → List ℕ
set_status_bit_when t b a = cond t (set_status_bit b a) b

-- status bit a cleared
abbrev pub clear_status_bit : List ℕ → ℕ → List ℕ
clear_status_bit b a = with_status b (clear_bits (status_of b) (2 ^ a))

-- mask bit a set
abbrev pub set_mask_bit : List ℕ → ℕ → List ℕ
set_mask_bit b a = with_mask b (set_bits (mask_of b) (2 ^ a))

-- mask bit a cleared
abbrev pub clear_mask_bit : List ℕ → ℕ → List ℕ
clear_mask_bit b a = with_mask b (clear_bits (mask_of b) (2 ^ a))

-- a block with these status and mask, and with head, fill and all sixteen registers 0; kind, r and words 6 to 15 stay
unfoldable pub zeroed_of : List ℕ → (status mask : ℕ) → List ℕ
zeroed_of b status mask = kind_of b ∷ count_of b ∷ status ∷ mask ∷ 0 ∷ 0 ∷ take 10 (drop 6 b) ++ replicate 16 0

-- ---- what the table of kinds (kinds/specs/Table) says of a block
-- the sources s of its module
unfoldable pub sources_of : List ℕ → ℕ
sources_of b = sources_with (kind_of b) (count_of b)

abbrev pub is_buffer : List ℕ → Bool
is_buffer b = eqb (kind_of b) 4

-- whether register i may differ from 0: it is below r; in kind 4 its distance from head, modulo 16, is below fill
unfoldable pub is_used : List ℕ → ℕ → Bool
is_used b i = cond (is_buffer b) (ltb ((i + 16 - head_of b) % 16) (fill_of b)) (ltb i (count_of b))

-- ---- fitness of a station's block
-- kind, r and width are as in the table, status and mask are below 2^s, head and fill are 0 except in kind 4, and a covered station is empty
unfoldable pub header_tests : List ℕ → List Bool
header_tests b =
    in_table (kind_of b) (count_of b) (width_of b)
    ∷ ltb (status_of b) (2 ^ sources_of b)
    ∷ ltb (mask_of b) (2 ^ sources_of b)
    ∷ leb (head_of b) (last_head_of (kind_of b))
    ∷ leb (fill_of b) (most_fill_of (kind_of b))
    ∷ leb (covered_of b) (most_covered_of (kind_of b))
    ∷ []

unfoldable pub is_fit_header : List ℕ → Bool
is_fit_header b = all_of (header_tests b)

-- words 8 to 15 are zero
unfoldable pub is_fit_spare : List ℕ → ℕ → Bool
is_fit_spare b i = eqb (spare_of b i) 0

-- a register is below 2^24, and 0 where it is not used
unfoldable pub is_fit_register : List ℕ → ℕ → Bool
is_fit_register b i = ltb (register_of b i) (2 ^ 24) && (is_used b i || eqb (register_of b i) 0)

-- a block is fit: 32 words, the header, words 8 to 15, the sixteen registers
unfoldable pub fit_tests : List ℕ → List Bool
fit_tests b = eqb (length b) 32 ∷ is_fit_header b ∷ every 8 (is_fit_spare b) ∷ every 16 (is_fit_register b) ∷ []

unfoldable pub is_fit_block : List ℕ → Bool
is_fit_block b = all_of (fit_tests b)

-- the same as facts, which `fit-facts` and `facts-fit` prove of each other (proofs/Fitness); the last three follow from those above them
pub record FitBlock (b : List ℕ) : Type 0 where
  pub long : length b ≡ 32
  pub kind : kind_of b < 6
  pub least : least_of (kind_of b) ≤ count_of b
  pub most : count_of b ≤ most_of (kind_of b)
  pub status : status_of b < 2 ^ sources_of b
  pub mask : mask_of b < 2 ^ sources_of b
  pub last_head : head_of b ≤ last_head_of (kind_of b)
  pub most_fill : fill_of b ≤ most_fill_of (kind_of b)
  pub least_width : least_width_of (kind_of b) ≤ width_of b
  pub most_width : width_of b ≤ most_width_of (kind_of b)
  pub most_covered : covered_of b ≤ most_covered_of (kind_of b)
  pub spare : (i : ℕ) → i < 8 → spare_of b i ≡ 0
  pub register : (i : ℕ) → i < 16 → register_of b i < 2 ^ 24
  pub unused : (i : ℕ) → i < 16 → is_used b i ≡ false → register_of b i ≡ 0
  pub sources : sources_of b ≤ 16
  pub head : head_of b < 16
  pub fill : fill_of b ≤ 16
