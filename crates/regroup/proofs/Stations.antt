-- Of any set of stations, either one of them is outside it or all are in it: the stations are tried one by one.
-- Assumes nothing.
use mathlib.Core.Path.{◌≡◌, refl, ap, ◌∙◌}
use mathlib.Core.Bool.{Bool, true, false}
use mathlib.Core.Logic.{◌⊎◌, inl, inr}
use Prim.Native.Nat.{ℕ, zero, suc, ◌≤◌, ◌<◌}
use native.Mathlib.Nat.{le_of_suc-le-suc, eq-or-lt_of_le}
use native.Mathlib.Omega.{arith}

-- a truth value is one of the two, and the equation says which
pub which : (b : Bool) → (b ≡ true) ⊎ (b ≡ false)
which true = inl refl
which false = inr refl

-- a station from 1 to k that is outside the set f
abbrev pub Outside : (ℕ → Bool) → ℕ → Type 0
Outside f k = (n : ℕ) × (1 ≤ n) × (n ≤ k) × (f n ≡ false)

-- all stations from 1 to k are in the set f
abbrev pub Within : (ℕ → Bool) → ℕ → Type 0
Within f k = (n : ℕ) → 1 ≤ n → n ≤ k → f n ≡ true

pub untouched : (f : ℕ → Bool) (k : ℕ) → Outside f k ⊎ Within f k
untouched f zero = inr (λ n a b. absurd (omega arith))
untouched f (suc k) = go (untouched f k) (which (f (suc k)))
  where
    go : Outside f k ⊎ Within f k → (f (suc k) ≡ true) ⊎ (f (suc k) ≡ false) → Outside f (suc k) ⊎ Within f (suc k)
    go (inl h) b = inl (h.0, h.1, omega arith, h.3)
    go (inr h) (inr b) = inl (suc k, omega arith, omega arith, b)
    go (inr h) (inl b) = inr (λ n a c. last n (eq-or-lt_of_le c) a)
      where
        last : (n : ℕ) → (n ≡ suc k) ⊎ (n < suc k) → 1 ≤ n → f n ≡ true
        last n (inl e) a = ap f e ∙ b
        last n (inr l) a = h n a (le_of_suc-le-suc l)
