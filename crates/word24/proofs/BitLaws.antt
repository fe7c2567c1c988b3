-- Laws of bits, at every width: what the machine's `x & !w` and `1 << a` are in the terms of specs/Word.antt, what each definition there
-- that speaks of bits does to each bit, and the bounds of its value. (`bits_of` has its own file.)
-- Assumes nothing.
use mathlib.Core.Path.{◌≡◌, refl, sym, ap, ap₂, ◌∙◌}
use mathlib.Core.Logic.{◌≢◌}
use Prim.Native.Nat.{ℕ, zero, suc, ◌+◌, ◌-◌, ◌*◌, ◌/◌, ◌%◌, ◌^◌, ◌≤◌, ◌<◌, min, max, suc-le-suc}
use native.Mathlib.Nat.{mod-lt, mod-eq_of_lt, one-mul, pow-suc, sub-le, zero-div, div-one, zero-lt-suc, div-eq_of_lt, lt_of_lt_of_le}
use native.Mathlib.Numerals.{one-add}
use native.Mathlib.Omega.{arith}
use lib.Arith.{lt-one}
use lib.Bits.{bit_and, bit_or, and_step, or_step, and_shr, or_shr, and_le_l}
use lib.Pow.{pow_pos, pow-lt, pow_mono, shr-shr, field, mod-mod-pow}
use Rattle.word24.specs.Word.{set_bits, clear_bits, bit_of, low_bits}

-- ---- the complement of k bits, one bit at a time
pub shr-suc : (n k : ℕ) → n / 2 ^ suc k ≡ n / 2 / 2 ^ k
shr-suc n k = sym (shr-shr n 1 k ∙ ap (λ (e : ℕ). n / 2 ^ e) (one-add k))

module _ (k x : ℕ) (h : x < 2 ^ suc k) where
  complement_half : (2 ^ suc k - 1 - x) / 2 ≡ 2 ^ k - 1 - x / 2
  complement_half = omega (arith, pow-suc 2 k)

  complement_low : (2 ^ suc k - 1 - x) % 2 ≡ 1 - x % 2
  complement_low = omega (arith, pow-suc 2 k)

  half_lt : x / 2 < 2 ^ k
  half_lt = omega (arith, pow-suc 2 k)

-- ---- `x & !w` and `1 << a`, at k bits
-- omega takes at most 6 of `-`, `min`, `max` in a call, so the digits' part and the sum are apart
low_parts : (x w : ℕ) → min (x % 2) (1 - w % 2) + min (x % 2) (w % 2) ≡ x % 2
low_parts x w = omega arith

glue : (x A B a b m n : ℕ) → A ≡ a * 2 + m → B ≡ b * 2 + n → a + b ≡ x / 2 → m + n ≡ x % 2 → A + B ≡ x
glue x A B a b m n p q r s = omega arith

-- x is what it shares with w and what it shares with the complement of w
and-not-add : (k x w : ℕ) → x < 2 ^ k → w < 2 ^ k → bit_and x (2 ^ k - 1 - w) + bit_and x w ≡ x
and-not-add zero x w hx hw = rw (lt-one hx)
and-not-add (suc k) x w hx hw =
    let y : ℕ = 2 ^ suc k - 1 - w in
    let e : bit_and x y ≡ bit_and (x / 2) (2 ^ k - 1 - w / 2) * 2 + min (x % 2) (1 - w % 2) =
    and_step x y ∙ ap₂ (λ (u v : ℕ). bit_and (x / 2) u * 2 + min (x % 2) v) (complement_half k w hw) (complement_low k w hw) in
    glue x _ _ _ _ _ _ e (and_step x w) (and-not-add k (x / 2) (w / 2) (half_lt k x hx) (half_lt k w hw)) (low_parts x w)

and-not : (k x w : ℕ) → x < 2 ^ k → w < 2 ^ k → bit_and x (2 ^ k - 1 - w) ≡ clear_bits x w
unfolding clear_bits
and-not k x w hx hw = omega (arith, and-not-add k x w hx hw)

-- as the machine has them, at 32 bits
pub and_not_word : (x w : ℕ) → x < 2 ^ 32 → w < 2 ^ 32 → bit_and x (2 ^ 32 - 1 - w) ≡ clear_bits x w
and_not_word x w hx hw = and-not 32 x w hx hw

pub one_bit_word : (a : ℕ) → a < 32 → (1 * 2 ^ a) % 2 ^ 32 ≡ 2 ^ a
one_bit_word a h = ap (λ (n : ℕ). n % 2 ^ 32) (one-mul (2 ^ a)) ∙ mod-eq_of_lt (pow-lt h)

-- ---- bit by bit: `bit_or` takes the greater of two bits, `bit_and` the lesser, `clear_bits` the first less the second
pub bit-or : (a x w : ℕ) → bit_of a (bit_or x w) ≡ max (bit_of a x) (bit_of a w)
bit-or a x w = ap (λ (n : ℕ). n % 2) (or_shr x w a) ∙ omega (arith, or_step (x / 2 ^ a) (w / 2 ^ a))

pub bit-and : (a x w : ℕ) → bit_of a (bit_and x w) ≡ min (bit_of a x) (bit_of a w)
bit-and a x w = ap (λ (n : ℕ). n % 2) (and_shr x w a) ∙ omega (arith, and_step (x / 2 ^ a) (w / 2 ^ a))

clear-half : (x w : ℕ) → clear_bits x w / 2 ≡ clear_bits (x / 2) (w / 2)
unfolding clear_bits
clear-half x w = omega (arith, and_step x w, and_le_l (x / 2) (w / 2))

clear-low : (x w : ℕ) → clear_bits x w % 2 ≡ x % 2 - w % 2
unfolding clear_bits
clear-low x w = omega (arith, and_step x w, and_le_l (x / 2) (w / 2))

clear_shr : (a x w : ℕ) → clear_bits x w / 2 ^ a ≡ clear_bits (x / 2 ^ a) (w / 2 ^ a)
clear_shr zero x w = simp div-one
clear_shr (suc a) x w =
    shr-suc (clear_bits x w) a ∙ ap (λ (n : ℕ). n / 2 ^ a) (clear-half x w) ∙ clear_shr a (x / 2) (w / 2)
    ∙ ap₂ clear_bits (sym (shr-suc x a)) (sym (shr-suc w a))

pub bit-clear : (a x w : ℕ) → bit_of a (clear_bits x w) ≡ bit_of a x - bit_of a w
bit-clear a x w = ap (λ (n : ℕ). n % 2) (clear_shr a x w) ∙ clear-low (x / 2 ^ a) (w / 2 ^ a)

-- two words of k bits with the same bits are the same
pub bit-ext : (k x y : ℕ) → x < 2 ^ k → y < 2 ^ k → ((a : ℕ) → a < k → bit_of a x ≡ bit_of a y) → x ≡ y
bit-ext zero x y hx hy h = lt-one hx ∙ sym (lt-one hy)
bit-ext (suc k) x y hx hy h =
    let low = h 0 (zero-lt-suc k) in
    let high : (a : ℕ) → a < k → bit_of a (x / 2) ≡ bit_of a (y / 2) = λ a l. rw (← shr-suc x a, ← shr-suc y a) (h (suc a) (suc-le-suc l)) in
    let rest = bit-ext k (x / 2) (y / 2) (half_lt k x hx) (half_lt k y hy) high in
    omega arith

-- ---- one bit set or cleared, seen at each bit
half_pow : (a : ℕ) → 2 ^ suc a / 2 ≡ 2 ^ a
half_pow a = omega (arith, pow-suc 2 a)

pub bit-pow-same : (a : ℕ) → bit_of a (2 ^ a) ≡ 1
bit-pow-same zero = refl
bit-pow-same (suc a) = rw (shr-suc, half_pow a) (bit-pow-same a)

pub bit-pow-other : (a b : ℕ) → a ≢ b → bit_of a (2 ^ b) ≡ 0
bit-pow-other zero zero h = absurd (h refl)
bit-pow-other zero (suc b) h = omega (arith, pow-suc 2 b)
bit-pow-other (suc a) zero h = rw (shr-suc 1 a, zero-div (2 ^ a))
bit-pow-other (suc a) (suc b) h = rw (shr-suc, half_pow b) (bit-pow-other a b (λ e. h (ap suc e)))

pub with-bit-same : (a x : ℕ) → bit_of a (set_bits x (2 ^ a)) ≡ 1
with-bit-same a x = bit-or a x (2 ^ a) ∙ omega (arith, bit-pow-same a)

-- ---- `low_bits` keeps the bits below s, and a word of s bits has no others
pub low_bit : (s i w : ℕ) → i < s → bit_of i (low_bits s w) ≡ bit_of i w
low_bit s i w h =
    let j : ℕ = s - i - 1 in
    let e : s ≡ j + 1 + i = omega arith in
    ap (λ (n : ℕ). bit_of i (low_bits n w)) e ∙ ap (λ (n : ℕ). n % 2) (field w (j + 1) i) ∙ mod-mod-pow (w / 2 ^ i) j 1

pub high_bit : (s i x : ℕ) → x < 2 ^ s → s ≤ i → bit_of i x ≡ 0
high_bit s i x h l = ap (λ (n : ℕ). n % 2) (div-eq_of_lt (lt_of_lt_of_le h (pow_mono l)))

-- ---- bounds
pub clear-le : (x w : ℕ) → clear_bits x w ≤ x
unfolding clear_bits
clear-le x w = sub-le x (bit_and x w)

pub low-bits-lt : (s w : ℕ) → low_bits s w < 2 ^ s
low-bits-lt s w = mod-lt w (pow_pos s)
