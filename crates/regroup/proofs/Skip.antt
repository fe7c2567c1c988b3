-- A list without its element at place k, and where its other places were before: place j of the shorter list was place `skip k j` of the longer one.
-- That is j below k and j + 1 from k on (`skip-cases`), and every law of `skip` is those two cases and arithmetic.
-- Assumes nothing.
use mathlib.Core.Path.{◌≡◌, refl, ap}
use mathlib.Core.Logic.{◌⊎◌, inl, inr}
use mathlib.Core.List.{List, [], ◌∷◌}
use Prim.Native.Nat.{ℕ, zero, suc, pred, ◌≤◌, ◌<◌}
use native.Mathlib.Nat.{not-suc-le-zero, le_of_suc-le-suc}
use native.Mathlib.Decide.{dec_lt}
use native.Mathlib.Omega.{arith}
use lib.ListN.{length, get_or}

-- the list without its element at place k
abbrev pub del {ℓ} : {A : Type ℓ} → ℕ → List A → List A
del k [] = []
del zero (x ∷ xs) = xs
del (suc k) (x ∷ xs) = x ∷ del k xs

abbrev pub skip : ℕ → ℕ → ℕ
skip zero j = suc j
skip (suc k) zero = zero
skip (suc k) (suc j) = suc (skip k j)

-- ---- places

abbrev Cases : ℕ → ℕ → Type 0
Cases k j = ((j < k) × (skip k j ≡ j)) ⊎ ((k ≤ j) × (skip k j ≡ suc j))

skip-cases : (k j : ℕ) → Cases k j
skip-cases zero j = inr (omega arith, refl)
skip-cases (suc k) zero = inl (omega arith, refl)
skip-cases (suc k) (suc j) = up (skip-cases k j)
  where
    up : Cases k j → Cases (suc k) (suc j)
    up (inl h) = inl (omega arith, ap suc h.1)
    up (inr h) = inr (omega arith, ap suc h.1)

-- order is kept
pub skip-mono : (k i j : ℕ) → i < j → skip k i < skip k j
skip-mono k i j h = go (skip-cases k i) (skip-cases k j)
  where
    go : Cases k i → Cases k j → skip k i < skip k j
    go (inl a) (inl b) = omega arith
    go (inl a) (inr b) = omega arith
    go (inr a) (inl b) = omega arith
    go (inr a) (inr b) = omega arith

pub skip-inj : (k i j : ℕ) → skip k i ≡ skip k j → i ≡ j
skip-inj k i j e = go (skip-cases k i) (skip-cases k j)
  where
    go : Cases k i → Cases k j → i ≡ j
    go (inl a) (inl b) = omega arith
    go (inl a) (inr b) = omega arith
    go (inr a) (inl b) = omega arith
    go (inr a) (inr b) = omega arith

pub skip-ne : (k j : ℕ) → skip k j ≡ k → ⊥
skip-ne k j e = go (skip-cases k j)
  where
    go : Cases k j → ⊥
    go (inl a) = omega arith
    go (inr a) = omega arith

pub skip-le : (k j : ℕ) → skip k j ≤ suc j
skip-le k j = go (skip-cases k j)
  where
    go : Cases k j → skip k j ≤ suc j
    go (inl a) = omega arith
    go (inr a) = omega arith

-- every place but k of a list of n is one that a place of the shorter list had before
pub skip-hit : (k i n : ℕ) → k < n → i < n → (i ≡ k → ⊥) → (j : ℕ) × (suc j < n) × (skip k j ≡ i)
skip-hit k i n hk hi ne = go (dec_lt i k)
  where
    low : i < k → Cases k i → skip k i ≡ i
    low h (inl a) = a.1
    low h (inr a) = omega arith

    high : k < i → Cases k (pred i) → skip k (pred i) ≡ i
    high h (inl a) = omega arith
    high h (inr a) = omega arith

    go : Dec (i < k) → (j : ℕ) × (suc j < n) × (skip k j ≡ i)
    go (yes h) = (i, omega arith, low h (skip-cases k i))
    go (no h) = (pred i, omega arith, high (omega arith) (skip-cases k (pred i)))

-- ---- the shorter list

pub length-del {ℓ} : {A : Type ℓ} (k : ℕ) (l : List A) → k < length l → suc (length (del k l)) ≡ length l
length-del k [] h = absurd (not-suc-le-zero h)
length-del zero (x ∷ xs) h = refl
length-del (suc k) (x ∷ xs) h = ap suc (length-del k xs (le_of_suc-le-suc h))

pub get_or-del {ℓ} : {A : Type ℓ} (k : ℕ) (l : List A) (j : ℕ) (d : A) → get_or (del k l) j d ≡ get_or l (skip k j) d
get_or-del k [] j d = refl
get_or-del zero (x ∷ xs) j d = refl
get_or-del (suc k) (x ∷ xs) zero d = refl
get_or-del (suc k) (x ∷ xs) (suc j) d = get_or-del k xs j d
