-- Reading and writing of numbers undo each other: a number is read from its decimal text and from nothing else.
use Prim.Native.Nat.{ℕ, zero, suc, ◌+◌, ◌-◌, ◌*◌, ◌/◌, ◌%◌, ◌≤◌, ◌<◌}
use mathlib.Core.Path.{◌≡◌, refl, ◌∙◌}
use mathlib.Core.Bool.{Bool, true, false, cond, and-eq-true_iff}
use mathlib.Core.List.{List, [], ◌∷◌, ◌++◌, append_assoc}
use native.Mathlib.Omega.{arith}
use borrow.Author.Tests.{leb-true, ltb-true, ltb-false, lt-ltb, le-leb, eqb-true}
use lib.Dec.{leb, ltb, eqb}
use Rattle.text.specs.Text.{decimal}
use Rattle.text.proofs.Decimal.{bound, decimal-one, decimal-more}
use Rattle.runfile.specs.Read.{digit, taken, absent, open-ended, digits_from, number, read_field}

-- what the tests say of a byte and of a number
digit-byte : (b : ℕ) → digit b ≡ true → (48 ≤ b) × (b ≤ 57)
digit-byte b e =
    let p = (and-eq-true_iff (leb 48 b) (leb b 57)).0 e in
    (leb-true 48 b p.0, leb-true b 57 p.1)

open-bounds : (v : ℕ) → open-ended v ≡ true → (0 < v) × (v < 10000000)
open-bounds v e =
    let p = (and-eq-true_iff (ltb 0 v) (ltb v 10000000)).0 e in
    (ltb-true 0 v p.0, ltb-true v 10000000 p.1)

-- one digit more
one_more : (v d : ℕ) → 0 < v → v < 10000000 → d < 10 → decimal (v * 10 + d) ≡ decimal v ++ ((48 + d) ∷ [])
one_more v d hv hb hd =
    let q : (v * 10 + d) / 10 ≡ v = omega arith in
    let m : (v * 10 + d) % 10 ≡ d = omega arith in
    decimal-more (v * 10 + d) (omega arith) (omega arith) ∙ rw (q, m)

is_digit : (d : ℕ) → d < 10 → digit (48 + d) ≡ true
is_digit d h = simp (le-leb 48 (48 + d) (omega arith), le-leb (48 + d) 57 (omega arith))

is_open : (v : ℕ) → 0 < v → v < 10000000 → open-ended v ≡ true
is_open v h k = simp (lt-ltb 0 v h, lt-ltb v 10000000 k)

-- reading what was written

one-read : (n : ℕ) (rest : List ℕ) → n < 10 → number ((48 + n) ∷ rest) ≡ digits_from n rest
one-read n rest h =
    let e : 48 + n - 48 ≡ n = omega arith in
    rw (is_digit n h, e)

more-read : (n : ℕ) (rest : List ℕ) → 10 ≤ n → n < 100000000 → digits_from (n / 10) ((48 + n % 10) ∷ rest) ≡ digits_from n rest
more-read n rest h k =
    let e : n / 10 * 10 + (48 + n % 10 - 48) ≡ n = omega arith in
    rw (is_digit (n % 10) (omega arith), is_open (n / 10) (omega arith) (omega arith), e)

read-within : (k n : ℕ) (rest : List ℕ) → n < bound k → n < 100000000 → number (decimal n ++ rest) ≡ digits_from n rest
read-within zero n rest h s = rw (decimal-one n h) (one-read n rest h)
read-within (suc k) n rest h s = go (ltb n 10) refl (read-within k (n / 10) ((48 + n % 10) ∷ rest) (omega arith) (omega arith))
  where
    go : (t : Bool) → ltb n 10 ≡ t
        → number (decimal (n / 10) ++ ((48 + n % 10) ∷ rest)) ≡ digits_from (n / 10) ((48 + n % 10) ∷ rest)
        → number (decimal n ++ rest) ≡ digits_from n rest
    go true e ih = rw (decimal-one n (ltb-true n 10 e)) (one-read n rest (ltb-true n 10 e))
    go false e ih =
        rw (decimal-more n (ltb-false n 10 e) (omega arith), append_assoc (decimal (n / 10)) ((48 + n % 10) ∷ []) rest)
        (ih ∙ more-read n rest (ltb-false n 10 e) s)

pub read_number : (n : ℕ) (rest : List ℕ) → n < 100000000 → number (decimal n ++ rest) ≡ digits_from n rest
read_number n rest h = read-within 7 n rest h h

-- what was read is what was written

taken-parts : {v w : ℕ} {l r : List ℕ} → taken v l ≡ taken w r → (v ≡ w) × (l ≡ r)
taken-parts e = (cc, cc)

none-taken : {w : ℕ} {r : List ℕ} {A : Type 0} → absent ≡ taken w r → A
none-taken e = let z : ◌≡◌ {A = ℕ} 0 1 = cc in absurd (omega arith)

more-written : (l : List ℕ) (v w : ℕ) (r : List ℕ) → v < 100000000 → digits_from v l ≡ taken w r
    → (decimal v ++ l ≡ decimal w ++ r) × (w < 100000000)
more-written [] v w r h e =
    let p = taken-parts e in
    (cc, omega (arith, p.0))
more-written (b ∷ l) v w r h e = go (digit b) refl (open-ended v) refl e (λ v'. more-written l v' w r)
  where
    go : (d : Bool) → digit b ≡ d → (o : Bool) → open-ended v ≡ o
        → cond d (cond o (digits_from (v * 10 + (b - 48)) l) absent) (taken v (b ∷ l)) ≡ taken w r
        → ((v' : ℕ) → v' < 100000000 → digits_from v' l ≡ taken w r → (decimal v' ++ l ≡ decimal w ++ r) × (w < 100000000))
        → (decimal v ++ (b ∷ l) ≡ decimal w ++ r) × (w < 100000000)
    go true d true o e ih =
        let p = digit-byte b d in
        let q = open-bounds v o in
        let s = ih (v * 10 + (b - 48)) (omega arith) e in
        let eb : 48 + (b - 48) ≡ b = omega arith in
        (rw (one_more v (b - 48) q.0 q.1 (omega arith), eb, append_assoc (decimal v) (b ∷ []) l) at s.0, s.1)
    go true d false o e ih = none-taken e
    go false d o oe e ih =
        let p = taken-parts e in
        (cc, omega (arith, p.0))

pub number-written : (l : List ℕ) (w : ℕ) (r : List ℕ) → number l ≡ taken w r → (l ≡ decimal w ++ r) × (w < 100000000)
number-written [] w r e = none-taken e
number-written (b ∷ l) w r e = go (digit b) refl e
  where
    go : (d : Bool) → digit b ≡ d → cond d (digits_from (b - 48) l) absent ≡ taken w r → (b ∷ l ≡ decimal w ++ r) × (w < 100000000)
    go true d e =
        let p = digit-byte b d in
        let s = more-written l (b - 48) w r (omega arith) e in
        let eb : 48 + (b - 48) ≡ b = omega arith in
        (rw (decimal-one (b - 48) (omega arith), eb) at s.0, s.1)
    go false d e = none-taken e

pub field-written : (key l : List ℕ) (w : ℕ) (r : List ℕ) → read_field key l ≡ taken w r → (l ≡ key ++ (decimal w ++ r)) × (w < 100000000)
field-written [] l w r e = number-written l w r e
field-written (k ∷ key) [] w r e = none-taken e
field-written (k ∷ key) (b ∷ l) w r e = go (eqb b k) refl e (field-written key l w r)
  where
    go : (t : Bool) → eqb b k ≡ t → cond t (read_field key l) absent ≡ taken w r
        → (read_field key l ≡ taken w r → (l ≡ key ++ (decimal w ++ r)) × (w < 100000000))
        → (b ∷ l ≡ k ∷ (key ++ (decimal w ++ r))) × (w < 100000000)
    go true t e ih =
        let s = ih e in
        let eb = eqb-true b k t in
        let el = s.0 in
        (cc, s.1)
    go false t e ih = none-taken e
