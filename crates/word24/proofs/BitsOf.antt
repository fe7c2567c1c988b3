-- Laws of `bits_of`, at every width: bit i of the word is what the test says of i, no other word of so many bits is, and `<<` and `|` make it.
-- Assumes nothing.
use Prim.Native.Nat.{ℕ, zero, suc, ◌+◌, ◌*◌, ◌%◌, ◌^◌, ◌≤◌, ◌<◌}
use mathlib.Core.Path.{◌≡◌, refl, sym, ap, ap₂, ◌∙◌}
use mathlib.Core.Bool.{Bool, true, false}
use mathlib.Core.Logic.{◌≢◌}
use native.Mathlib.Decide.{ℕ_discrete}
use native.Mathlib.Nat.{pow-suc, not-suc-le-zero, zero-mul, zero-div, one-mul}
use native.Mathlib.Numerals.{add-one}
use native.Mathlib.Omega.{arith}
use lib.Bits.{bit_or, or_shifted_r}
use lib.Pow.{shl_exact}
use Rattle.word24.specs.Word.{bit_of, as_bit, bits_of}
use Rattle.word24.proofs.BitLaws.{bit-or, bit-pow-same, bit-pow-other, bit-ext, high_bit}

-- ---- one bit
pub bit-lt : (s : Bool) → as_bit s < 2
bit-lt true = omega arith
bit-lt false = omega arith

-- put at place k
shifted-same : (k : ℕ) (s : Bool) → bit_of k (as_bit s * 2 ^ k) ≡ as_bit s
shifted-same k true = rw one-mul (bit-pow-same k)
shifted-same k false = simp (zero-mul, zero-div)

shifted-other : (k i : ℕ) (s : Bool) → i ≢ k → bit_of i (as_bit s * 2 ^ k) ≡ 0
shifted-other k i true n = rw one-mul (bit-pow-other i k n)
shifted-other k i false n = simp (zero-mul, zero-div)

-- above a word of k bits
one_more : (k : ℕ) (s : Bool) (b : ℕ) → b < 2 ^ k → as_bit s * 2 ^ k + b < 2 ^ suc k
one_more k true b h = omega (arith, pow-suc 2 k)
one_more k false b h = omega (arith, pow-suc 2 k)

-- ---- the word of a test
module _ (t : ℕ → Bool) where
  pub bits-suc : (k : ℕ) → bits_of t (suc k) ≡ as_bit (t k) * 2 ^ k + bits_of t k
  unfolding bits_of
  bits-suc k = refl

  pub bits-lt : (k : ℕ) → bits_of t k < 2 ^ k
  unfolding bits_of
  bits-lt zero = omega arith
  bits-lt (suc k) = one_more k (t k) (bits_of t k) (bits-lt k)

  joined : (k : ℕ) → bit_or (bits_of t k) (as_bit (t k) * 2 ^ k) ≡ bits_of t (suc k)
  joined k = or_shifted_r (as_bit (t k)) k (bits_of t k) (bits-lt k) ∙ sym (bits-suc k)

  -- bit k put in its place, as `bit << k` and `|` do at w bits
  pub bits-or : (w k : ℕ) → k < w → bit_or (bits_of t k) ((as_bit (t k) * 2 ^ k) % 2 ^ w) ≡ bits_of t (k + 1)
  bits-or w k h = ap (bit_or (bits_of t k)) (shl_exact 1 k w (bit-lt (t k)) (omega arith)) ∙ rw (add-one k) (joined k)

  -- bit i is 1 where t holds of i
  pub bits-bit : (k i : ℕ) → i < k → bit_of i (bits_of t k) ≡ as_bit (t i)
  bits-bit zero i h = absurd (not-suc-le-zero h)
  bits-bit (suc k) i h =
      let p : ℕ = bits_of t k in
      ap (bit_of i) (sym (joined k)) ∙ bit-or i p (as_bit (t k) * 2 ^ k)
      ∙ elim (ℕ_discrete i k) [
        | yes e ↦ rw e (omega (arith, high_bit k k p (bits-lt k) (omega arith), shifted-same k (t k)))
        | no n ↦ omega (arith, bits-bit k i (omega arith), shifted-other k i (t k) n)
      ]

  -- and clear at k and above
  pub bits-clear : (k i : ℕ) → k ≤ i → bit_of i (bits_of t k) ≡ 0
  bits-clear k i h = high_bit k i (bits_of t k) (bits-lt k) h

  -- no other word of k bits has these bits
  pub bits-unique : (k x : ℕ) → x < 2 ^ k → ((i : ℕ) → i < k → bit_of i x ≡ as_bit (t i)) → x ≡ bits_of t k
  bits-unique k x h b = bit-ext k x (bits_of t k) h (bits-lt k) (λ i l. b i l ∙ sym (bits-bit k i l))

-- tests that agree make the same word
pub bits-cong : (t u : ℕ → Bool) (k : ℕ) → ((i : ℕ) → t i ≡ u i) → bits_of t k ≡ bits_of u k
unfolding bits_of
bits-cong t u zero h = refl
bits-cong t u (suc k) h = ap₂ (λ (x : Bool) (y : ℕ). as_bit x * 2 ^ k + y) (h k) (bits-cong t u k h)

-- a test that holds of nothing makes 0
pub bits_none : (k : ℕ) → bits_of (λ i. false) k ≡ 0
unfolding bits_of
bits_none zero = refl
bits_none (suc k) = rw (bits_none k) (omega arith)
