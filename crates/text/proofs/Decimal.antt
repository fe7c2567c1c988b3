-- Laws of `decimal`: its last digit taken off, its length, that the digit loop writes it, and that it ends any more digits.
use Prim.Native.Nat.{ℕ, zero, suc, ◌+◌, ◌-◌, ◌*◌, ◌/◌, ◌%◌, ◌^◌, ◌≤◌, ◌<◌}
use mathlib.Core.Path.{◌≡◌, refl, sym, ◌∙◌, ap}
use mathlib.Core.Bool.{Bool, true, false, cond}
use mathlib.Core.List.{List, [], ◌∷◌, ◌++◌, append-nil, append_assoc}
use native.Mathlib.Nat.{add-zero, add-suc, div-one, div-div-eq-div-mul, pow-succ'}
use native.Mathlib.Numerals.{add-one}
use native.Mathlib.Omega.{arith}
use borrow.Author.Tests.{ltb-true, lt-ltb, le-ltb}
use lib.Dec.{ltb}
use lib.ListN.{length, length-append}
use Rattle.text.specs.Digits.{digits}
use Rattle.text.specs.Text.{decimal_up_to, decimal}

-- the first number of more than k + 1 digits
abbrev pub bound : ℕ → ℕ
bound zero = 10
bound (suc k) = bound k * 10

-- more room for digits changes nothing
roomier : (k n : ℕ) → n < bound k → decimal_up_to k n ≡ decimal_up_to (suc k) n
roomier zero n h = rw (lt-ltb n 10 h)
roomier (suc k) n h = ap (λ (l : List ℕ). cond (ltb n 10) ((48 + n) ∷ []) (l ++ ((48 + n % 10) ∷ []))) (roomier k (n / 10) (omega arith))

pub decimal-one : (n : ℕ) → n < 10 → decimal n ≡ (48 + n) ∷ []
unfolding decimal
decimal-one n h = rw (lt-ltb n 10 h)

pub decimal-more : (n : ℕ) → 10 ≤ n → n < 10000000000 → decimal n ≡ decimal (n / 10) ++ ((48 + n % 10) ∷ [])
unfolding decimal
decimal-more n h k = rw (le-ltb n 10 h) (ap (λ (l : List ℕ). l ++ ((48 + n % 10) ∷ [])) (roomier 8 (n / 10) (omega arith)))

-- one digit fewer in a tenth of the number
pub length_more : (n : ℕ) → 10 ≤ n → n < 10000000000 → length (decimal n) ≡ length (decimal (n / 10)) + 1
length_more n h k = ap length (decimal-more n h k) ∙ length-append (decimal (n / 10)) ((48 + n % 10) ∷ [])

bound-ten : (k : ℕ) → 10 ≤ bound k
bound-ten zero = omega arith
bound-ten (suc k) = omega (arith, bound-ten k)

-- the numbers of k + 2 digits
pub length-between : (k n : ℕ) → bound k ≤ n → n < bound (suc k) → n < 10000000000 → length (decimal n) ≡ k + 2
length-between zero n low high h =
    let one : length (decimal (n / 10)) ≡ 1 = ap length (decimal-one (n / 10) (omega arith)) in
    omega (arith, length_more n low h, one)
length-between (suc k) n low high h =
    let fewer : length (decimal (n / 10)) ≡ k + 2 = length-between k (n / 10) (omega arith) (omega arith) (omega arith) in
    omega (arith, length_more n (omega (arith, bound-ten k)) h, fewer)

length-up-to : (k n : ℕ) → length (decimal_up_to k n) ≤ suc k
length-up-to zero n = omega arith
length-up-to (suc k) n = go (ltb n 10) (length-up-to k (n / 10))
  where
    go : (t : Bool) → length (decimal_up_to k (n / 10)) ≤ suc k
        → length (cond t ((48 + n) ∷ []) (decimal_up_to k (n / 10) ++ ((48 + n % 10) ∷ []))) ≤ suc (suc k)
    go true ih = omega arith
    go false ih = simp length-append (omega arith)

pub length-ten : (n : ℕ) → length (decimal n) ≤ 10
unfolding decimal
length-ten n = length-up-to 9 n

-- a key and a number
pub field-short : (key : List ℕ) (n : ℕ) → length (key ++ decimal n) ≤ length key + 10
field-short key n = simp length-append (omega (arith, length-ten n))

pub length-eight : (n : ℕ) → n < 100000000 → length (decimal n) ≤ 8
unfolding decimal
length-eight n h =
    let e : decimal_up_to 7 n ≡ decimal_up_to 9 n = roomier 7 n h ∙ roomier 8 n (omega arith) in
    rw e at (length-up-to 7 n)

pub length_digits : (k n : ℕ) → length (digits k n) ≡ k
length_digits zero n = refl
length_digits (suc k) n = simp (length-append, length_digits k (n / 10)) (add-one k)

digits-up-to : (k n : ℕ) → n < bound k → decimal_up_to k n ≡ digits (length (decimal_up_to k n)) n
digits-up-to zero n h =
    let e : n % 10 ≡ n = omega arith in
    rw e
digits-up-to (suc k) n h = go (ltb n 10) refl (digits-up-to k (n / 10) (omega arith))
  where
    go : (t : Bool) → ltb n 10 ≡ t → decimal_up_to k (n / 10) ≡ digits (length (decimal_up_to k (n / 10))) (n / 10)
        → cond t ((48 + n) ∷ []) (decimal_up_to k (n / 10) ++ ((48 + n % 10) ∷ []))
        ≡ digits (length (cond t ((48 + n) ∷ []) (decimal_up_to k (n / 10) ++ ((48 + n % 10) ∷ [])))) n
    go true t ih =
        let e : n % 10 ≡ n = omega (arith, ltb-true n 10 t) in
        rw e
    go false t ih =
        ap (λ (l : List ℕ). l ++ ((48 + n % 10) ∷ [])) ih
        ∙ ap (λ (j : ℕ). digits j n) (sym (length-append (decimal_up_to k (n / 10)) ((48 + n % 10) ∷ []) ∙ add-one _))

-- the digit loop, run for as many places as the decimal text is long, writes it
pub decimal-digits : (n : ℕ) → n < 2 ^ 32 → decimal n ≡ digits (length (decimal n)) n
unfolding decimal
decimal-digits n h = digits-up-to 9 n (omega arith)

-- more digits are those of the number that stands before the last k, and the last k
digits-join : (j k n : ℕ) → digits (j + k) n ≡ digits j (n / 10 ^ k) ++ digits k n
digits-join j zero n = rw (add-zero, div-one, append-nil)
digits-join j (suc k) n =
    let e : n / 10 / 10 ^ k ≡ n / 10 ^ suc k = div-div-eq-div-mul n 10 (10 ^ k) ∙ ap (λ (m : ℕ). n / m) (sym (pow-succ' 10 k)) in
    rw (add-suc, digits-join j k (n / 10), e, append_assoc)

-- a number's text is the last of any more of its digits
pub decimal-last : (j n : ℕ) → n < 2 ^ 32 → length (decimal n) ≤ j → digits j n ≡ digits (j - length (decimal n)) (n / 10 ^ length (decimal n)) ++ decimal n
decimal-last j n h l =
    let k = length (decimal n) in
    let e : j ≡ j - k + k = omega arith in
    ap (λ (i : ℕ). digits i n) e ∙ digits-join (j - k) k n ∙ ap (λ (t : List ℕ). digits (j - k) (n / 10 ^ k) ++ t) (sym (decimal-digits n h))
