-- Laws of the up-down counter: that `signed_of` and `mod24` are the signed reading of a word and the way back, and the facts over plain
-- integers that the functions of src/counter.rt need.
-- Assumes nothing.
use mathlib.Core.Path.{◌≡◌, refl, sym, ap, ◌∙◌}
use mathlib.Core.Bool.{Bool, true, false}
use mathlib.Core.Logic.{◌⊎◌, inl, inr, ⊎_elim}
use Prim.Native.Nat.{ℕ, suc, ◌+◌, ◌-◌, ◌*◌, ◌/◌, ◌%◌, ◌^◌, ◌≤◌, ◌<◌}
use native.Mathlib.Nat.{mod-eq_of_lt}
use native.Mathlib.Omega.{arith}
use lib.IntN.{ℤ, pos, negsuc, neg_ℤ, ◌+ℤ◌, ◌*ℤ◌, sub_ℕ}
use lib.Dec.{ltb}
use lib.Signed.{mag}
use borrow.Author.Tests.{lt-ltb, le-ltb, le-leb, ltb-true, ltb-false}
use Rattle.word24.specs.Word.{sum_of}
use Rattle.word24.specs.Counter.{signed_of, exact_sum, mod24, in_span}

-- ---- a difference of two natural numbers, by which is the greater
split : (x n : ℕ) → (x < n) ⊎ (n ≤ x)
split x n = go (ltb x n) refl
  where
    go : (b : Bool) → ltb x n ≡ b → (x < n) ⊎ (n ≤ x)
    go true e = inl (ltb-true x n e)
    go false e = inr (ltb-false x n e)

sub-lt : (m n : ℕ) → m < n → sub_ℕ m n ≡ negsuc (n - suc m)
sub-lt m n h = rw (lt-ltb m n h)

sub-ge : (m n : ℕ) → n ≤ m → sub_ℕ m n ≡ pos (m - n)
sub-ge m n h = rw (le-ltb m n h)

-- ---- `signed_of`
signed_low : (x : ℕ) → x < 2 ^ 23 → signed_of x ≡ pos x
unfolding signed_of
signed_low x h = rw (lt-ltb x (2 ^ 23) h)

signed_high : (x : ℕ) → 2 ^ 23 ≤ x → x < 2 ^ 24 → signed_of x ≡ negsuc (2 ^ 24 - suc x)
unfolding signed_of
signed_high x l h = rw (le-ltb x (2 ^ 23) l) (sub-lt x (2 ^ 24) h)

-- a word stands for a number in the span
pub signed-span : (x : ℕ) → x < 2 ^ 24 → in_span (signed_of x) ≡ true
signed-span x h = ⊎_elim
    (λ l. rw (signed_low x l) (le-leb x 8388607 (omega arith)))
    (λ g. rw (signed_high x g h, le-leb (2 ^ 24 - suc x) 8388607 (omega arith)))
    (split x (2 ^ 23))

-- reading a word as a signed number loses nothing
pub signed_back : (x : ℕ) → x < 2 ^ 24 → mod24 (signed_of x) ≡ x
signed_back x h = ⊎_elim
    (λ l. rw (signed_low x l) (mod-eq_of_lt h))
    (λ g. rw (signed_high x g h) (omega arith))
    (split x (2 ^ 23))

-- ---- `mod24`: of the numbers that differ from z by a multiple of 2^24, the one from 0 to 2^24 - 1
pub mod24-lt : (z : ℤ) → mod24 z < 2 ^ 24
mod24-lt (pos n) = omega arith
mod24-lt (negsuc n) = omega arith

pub mod24-congruent : (z : ℤ) → (k : ℤ) × (z ≡ pos (mod24 z) +ℤ k *ℤ pos (2 ^ 24))
mod24-congruent (pos n) = (pos (n / 2 ^ 24), ap pos (omega arith))
mod24-congruent (negsuc n) =
    let q = n / 2 ^ 24 in
    let m = q * 2 ^ 24 + (2 ^ 24 - 1) in
    let a = mod24 (negsuc n) in
    let e : suc q * 2 ^ 24 ≡ suc m = omega arith in
    (negsuc q, sym (ap (λ (t : ℕ). pos a +ℤ neg_ℤ (pos t)) e ∙ sub-lt a (suc m) (omega arith) ∙ ap negsuc (omega arith)))

-- ---- the new register is the 24-bit sum of the two words, as a scaler's is: only the flag looks at the signs
wrap-sub : (m n : ℕ) → m < 2 ^ 23 → 0 < n → n ≤ 2 ^ 23 → mod24 (sub_ℕ m n) ≡ (m + (2 ^ 24 - n)) % 2 ^ 24
wrap-sub m n p z q = ⊎_elim
    (λ l. ap mod24 (sub-lt m n l) ∙ omega arith)
    (λ g. ap mod24 (sub-ge m n g) ∙ omega arith)
    (split m n)

pub value-is : (old v : ℕ) → old < 2 ^ 24 → v < 2 ^ 24 → mod24 (exact_sum old v) ≡ sum_of old v
value-is old v ho hv = go (split old (2 ^ 23)) (split v (2 ^ 23))
  where
    go : (old < 2 ^ 23) ⊎ (2 ^ 23 ≤ old) → (v < 2 ^ 23) ⊎ (2 ^ 23 ≤ v) → mod24 (exact_sum old v) ≡ sum_of old v
    go (inl a) (inl b) = rw (signed_low old a, signed_low v b)
    go (inl a) (inr b) =
        rw (signed_low old a, signed_high v b hv) (wrap-sub old (suc (2 ^ 24 - suc v)) a (omega arith) (omega arith) ∙ omega arith)
    go (inr a) (inl b) =
        rw (signed_high old a ho, signed_low v b) (wrap-sub v (suc (2 ^ 24 - suc old)) b (omega arith) (omega arith) ∙ omega arith)
    go (inr a) (inr b) = rw (signed_high old a ho, signed_high v b hv) (omega arith)

-- ---- a signed number of 24 bits is less than 2^23 away from 0, or it is -2^23
pub mag_signed : (x : ℕ) → x < 2 ^ 24 → mag (signed_of x) ≤ 2 ^ 23
mag_signed x h = ⊎_elim (λ l. rw (signed_low x l) (omega arith)) (λ g. rw (signed_high x g h) (omega arith)) (split x (2 ^ 23))
