-- The L pattern: its bits are the stations' requests, its count of ones is how many request, and its trailing zeros lead to the lowest.
-- Assumes nothing.
use Prim.Native.Nat.{ℕ, zero, suc, ◌+◌, ◌*◌, ◌/◌, ◌%◌, ◌^◌, ◌≤◌, ◌<◌}
use mathlib.Core.Path.{◌≡◌, refl, sym, ap, ap₂, ◌∙◌}
use mathlib.Core.List.{List}
use mathlib.Core.Bool.{Bool, true, false, cond}
use mathlib.Core.Logic.{◌⊎◌, inl, inr, ⊎_elim}
use native.Mathlib.Nat.{add-zero, pow-suc, le_of_suc-le-suc}
use native.Mathlib.Numerals.{add-one}
use native.Mathlib.Omega.{arith}
use borrow.Author.Tests.{ne_eqb}
use lib.Dec.{eqb}
use lib.Arith.{lt-one}
use lib.Bits.{bit_or, block_half, block_odd}
use lib.Pow.{pow_pos}
use lib.Count.{ones, ones_cat, count_trailing_zeros, under}
use Rattle.word24.specs.Word.{bit_of, as_bit, bits_of}
use Rattle.word24.proofs.BitsOf.{bits-suc, bits-lt, bits-or, bits-bit, bits-unique}
use Rattle.kinds.proofs.TestLaws.{alike}
use Rattle.dataway.specs.Lam.{is_requesting, requests, pattern_to, count_to, first_from, lam_of}
use Rattle.dataway.specs.declared.lam.LamReading.{LamReading}

-- ---- a station's request
pub request-bit : (m : List ℕ) (n : ℕ) → (requests m n ≡ 0) ⊎ (requests m n ≡ 1)
unfolding requests
request-bit m n = go (is_requesting m n)
  where
    go : (s : Bool) → (as_bit s ≡ 0) ⊎ (as_bit s ≡ 1)
    go true = inr refl
    go false = inl refl

-- ---- the trailing zeros of a number
-- more digits above a number that is not 0 change nothing
trailing_below : (d k a p : ℕ) → p < 2 ^ k → (p ≡ 0 → ⊥) → count_trailing_zeros d (a * 2 ^ k + p) ≡ count_trailing_zeros d p
unfolding count_trailing_zeros
trailing_below zero k a p h n = refl
trailing_below (suc d) zero a p h n = absurd (n (lt-one h))
trailing_below (suc d) (suc k) a p h n =
    ap₂ (λ (x y : ℕ). under x (count_trailing_zeros d y)) (block_odd a k p) (block_half a k p)
    ∙ go (p % 2) (λ e. trailing_below d k a (p / 2) (omega (arith, pow-suc 2 k)) (λ q. n (omega arith))) refl
  where
    go : (r : ℕ) → (p % 2 ≡ 0 → count_trailing_zeros d (a * 2 ^ k + p / 2) ≡ count_trailing_zeros d (p / 2)) → p % 2 ≡ r
        → under r (count_trailing_zeros d (a * 2 ^ k + p / 2)) ≡ under r (count_trailing_zeros d (p / 2))
    go zero ih e = ap suc (ih e)
    go (suc r) ih e = refl

-- a single 1
trailing-one : (d k : ℕ) → k < d → count_trailing_zeros d (2 ^ k) ≡ k
unfolding count_trailing_zeros
trailing-one zero k h = absurd (omega arith)
trailing-one (suc d) zero h = refl
trailing-one (suc d) (suc k) h =
    let odd : 2 ^ suc k % 2 ≡ 0 = omega (arith, pow-suc 2 k) in
    let half : 2 ^ suc k / 2 ≡ 2 ^ k = omega (arith, pow-suc 2 k) in
    ap₂ (λ (x y : ℕ). under x (count_trailing_zeros d y)) odd half ∙ ap suc (trailing-one d k (le_of_suc-le-suc h))

module _ (m : List ℕ) where
  -- ---- the pattern: bit i is the request of station i + 1
  abbrev test : ℕ → Bool
  test i = is_requesting m (suc i)

  pub pattern-zero : pattern_to 0 m ≡ 0
  unfolding pattern_to bits_of
  pattern-zero = refl

  -- one station more
  pattern-suc : (k : ℕ) → pattern_to (suc k) m ≡ requests m (suc k) * 2 ^ k + pattern_to k m
  unfolding pattern_to requests
  pattern-suc k = bits-suc test k

  pub pattern_lt : (k : ℕ) → pattern_to k m < 2 ^ k
  unfolding pattern_to
  pattern_lt k = bits-lt test k

  -- the bit of station k + 1 put in its place, as `<< k` and `|` do
  pub pattern-or : (k l t : ℕ) → k < 23 → l ≡ pattern_to k m → t ≡ as_bit (is_requesting m (k + 1)) → bit_or l ((t * 2 ^ k) % 2 ^ 32) ≡ pattern_to (k + 1) m
  unfolding pattern_to
  pattern-or k l t h e f =
      ap₂ (λ (x y : ℕ). bit_or x ((y * 2 ^ k) % 2 ^ 32)) e (f ∙ ap (λ (n : ℕ). as_bit (is_requesting m n)) (add-one k)) ∙ bits-or test 32 k (omega arith)

  pub pattern-bit : (k i : ℕ) → i < k → bit_of i (pattern_to k m) ≡ requests m (suc i)
  unfolding pattern_to requests
  pattern-bit k i h = bits-bit test k i h

  -- L is the one 23-bit word whose bit N-1 says whether station N requests
  pub pattern-unique : (l : ℕ) → l < 2 ^ 23 → ((i : ℕ) → i < 23 → bit_of i l ≡ requests m (suc i)) → l ≡ pattern_to 23 m
  unfolding pattern_to requests
  pattern-unique l h b = bits-unique test 23 l h b

  -- ---- its count of ones
  ones-of-request : (n : ℕ) → ones (requests m n) ≡ requests m n
  unfolding ones
  ones-of-request n = ⊎_elim (λ (e : requests m n ≡ 0). rw e) (λ (e : requests m n ≡ 1). rw e) (request-bit m n)

  pub pattern-ones : (k : ℕ) → ones (pattern_to k m) ≡ count_to k m
  unfolding pattern_to bits_of requests count_to ones
  pattern-ones zero = refl
  pattern-ones (suc k) = ones_cat k (requests m (suc k)) (pattern_to k m) (pattern_lt k) ∙ ap₂ (λ (x y : ℕ). x + y) (ones-of-request (suc k)) (pattern-ones k)

  -- ---- its lowest 1
  -- the first of stations 1 to k
  abbrev pub first_to : ℕ → ℕ
  first_to k = first_from k 1 m

  -- one station more counts where none before it requests
  first_more : (k n : ℕ) → 1 ≤ n → first_from (suc k) n m ≡ cond (eqb (first_from k n m) 0) (requests m (n + k) * (n + k)) (first_from k n m)
  unfolding first_from requests
  first_more zero n h = rw (add-zero n) (go (is_requesting m n))
    where
      go : (t : Bool) → cond t n 0 ≡ as_bit t * n
      go true = omega arith
      go false = omega arith
  first_more (suc k) n h = rw (first_more k (suc n) (omega arith), shift) (go (is_requesting m n) (first_from k (suc n) m))
    where
      shift : suc n + k ≡ n + suc k
      shift = omega arith

      go : (t : Bool) (f : ℕ) → cond t n (cond (eqb f 0) (requests m (n + suc k) * (n + suc k)) f)
          ≡ cond (eqb (cond t n f) 0) (requests m (n + suc k) * (n + suc k)) (cond t n f)
      go true f = rw (ne_eqb n 0 (λ e. omega arith))
      go false f = refl

  pub first-suc : (k : ℕ) → first_to (suc k) ≡ cond (eqb (first_to k) 0) (requests m (suc k) * suc k) (first_to k)
  first-suc k = let one : 1 + k ≡ suc k = omega arith in rw one at (first_more k 1 (omega arith))

  pub first-none : (k : ℕ) → pattern_to k m ≡ 0 → first_to k ≡ 0
  unfolding first_from
  first-none zero e = refl
  first-none (suc k) e =
      let q : requests m (suc k) * 2 ^ k + pattern_to k m ≡ 0 = sym (pattern-suc k) ∙ e in
      let p : pattern_to k m ≡ 0 = omega arith in
      ⊎_elim
      (λ (r : requests m (suc k) ≡ 0). first-suc k ∙ rw (first-none k p, r) (omega arith))
      (λ (r : requests m (suc k) ≡ 1). absurd (let one : 1 * 2 ^ k + pattern_to k m ≡ 0 = rw r at q in omega (arith, pow_pos k)))
      (request-bit m (suc k))

  pub first_some : (k : ℕ) → k ≤ 23 → (pattern_to k m ≡ 0 → ⊥) → count_trailing_zeros 32 (pattern_to k m) + 1 ≡ first_to k
  first_some zero l n = absurd (n pattern-zero)
  first_some (suc k) l n = rw (pattern-suc k, first-suc k) (⊎_elim none (some (first_some k (omega arith))) (alike (pattern_to k m) 0))
    where
      -- station k + 1 is the lowest
      one : count_trailing_zeros 32 (1 * 2 ^ k + 0) ≡ k
      one = ap (count_trailing_zeros 32) (omega arith) ∙ trailing-one 32 k (omega arith)

      none : pattern_to k m ≡ 0
          → count_trailing_zeros 32 (requests m (suc k) * 2 ^ k + pattern_to k m) + 1 ≡ cond (eqb (first_to k) 0) (requests m (suc k) * suc k) (first_to k)
      none p =
          ⊎_elim
          (λ (r : requests m (suc k) ≡ 0). absurd (n (rw (pattern-suc k, r, p) (omega arith))))
          (λ (r : requests m (suc k) ≡ 1). rw (r, p, first-none k p) (omega (arith, one)))
          (request-bit m (suc k))

      -- a lower one is
      some : ((pattern_to k m ≡ 0 → ⊥) → count_trailing_zeros 32 (pattern_to k m) + 1 ≡ first_to k) → (pattern_to k m ≡ 0 → ⊥)
          → count_trailing_zeros 32 (requests m (suc k) * 2 ^ k + pattern_to k m) + 1 ≡ cond (eqb (first_to k) 0) (requests m (suc k) * suc k) (first_to k)
      some lower p =
          let ih = lower p in
          rw (trailing_below 32 k (requests m (suc k)) (pattern_to k m) (pattern_lt k) p, ne_eqb (first_to k) 0 (λ e. omega arith)) ih

  -- ---- the whole reading, from the pattern l
  module _ (l : ℕ) (e : l ≡ pattern_to 23 m) where
    count-is : ones l ≡ count_to 23 m
    count-is = ap ones e ∙ pattern-ones 23

    pub reading-none : (first : ℕ) → l ≡ 0 → first ≡ 0 → ◌≡◌ {A = LamReading} (record { l = l; count = ones l; first = first }) (lam_of m)
    unfolding lam_of
    reading-none first z f =
        let lowest : first ≡ first_to 23 = f ∙ sym (first-none 23 (sym e ∙ z)) in
        λ i. record { l = e i; count = count-is i; first = lowest i }

    pub reading-some : (first : ℕ) → (l ≡ 0 → ⊥) → first ≡ count_trailing_zeros 32 l + 1 → ◌≡◌ {A = LamReading} (record { l = l; count = ones l; first = first }) (lam_of m)
    unfolding lam_of
    reading-some first n f =
        let lowest : first ≡ first_to 23 = f ∙ ap (λ (x : ℕ). count_trailing_zeros 32 x + 1) e ∙ first_some 23 (omega arith) (λ z. n (e ∙ z)) in
        λ i. record { l = e i; count = count-is i; first = lowest i }
