-- Where bytes have an LF: in one part of them or in the other, so that the first is found by halves.
-- Assumes nothing.
use Prim.Native.Nat.{ℕ, zero, suc, ◌+◌, ◌-◌, ◌≤◌, ◌<◌}
use mathlib.Core.Path.{◌≡◌, refl, sym, ap, subst, ◌∙◌}
use mathlib.Core.Bool.{Bool, true, false, cond, ◌||◌, or_assoc, or-false, true≢false}
use mathlib.Core.List.{List, [], ◌∷◌, ◌++◌}
use native.Mathlib.Omega.{arith}
use native.Mathlib.Numerals.{add-one}
use borrow.Author.Tests.{ltb-true, ltb-false, eqb-true, eq-eqb}
use lib.Dec.{eqb, ltb}
use lib.ListN.{length, get_or, take, drop, length-drop}
use lib.Seq.{take-suc, drop-cons, take-add, drop-drop, get_or-take, get_or-drop}
use Rattle.std.specs.List.{AllWithin, HoldsAt}
use Rattle.lines.specs.Lines.{has_lf, NextLf}

-- ---- bytes in two parts
has_both : (a b : List ℕ) → has_lf (a ++ b) ≡ (has_lf a || has_lf b)
has_both [] b = refl
has_both (x ∷ a) b = rw (has_both a b, or_assoc (eqb x 10) (has_lf a) (has_lf b))

has_parts : (n m : ℕ) (l : List ℕ) → has_lf (take (n + m) l) ≡ (has_lf (take n l) || has_lf (take m (drop n l)))
has_parts n m l = ap has_lf (take-add n m l) ∙ has_both (take n l) (take m (drop n l))

-- one byte more
pub has_more : (l : List ℕ) (k : ℕ) → k < length l → has_lf (take (k + 1) l) ≡ (has_lf (take k l) || eqb (get_or l k 0) 10)
has_more l k h = rw (add-one, take-suc l k 0, has_both, or-false)

-- ---- bytes with no LF
or_right : (a b : Bool) → (a || b) ≡ false → b ≡ false
or_right true b e = absurd (true≢false e)
or_right false b e = e

none_is : (l : List ℕ) → has_lf l ≡ false → (k : ℕ) → get_or l k 0 ≡ 10 → ⊥
none_is [] e k is = omega arith
none_is (b ∷ t) e zero is = true≢false (rw (eq-eqb b 10 is) at e)
none_is (b ∷ t) e (suc k) is = none_is t (or_right (eqb b 10) (has_lf t) e) k is

-- no byte from index f to before index i is LF
abbrev pub Clear : List ℕ → ℕ → ℕ → Type 0
Clear l f i = (k : ℕ) → k < i → f ≤ k → get_or l k 0 ≡ 10 → ⊥

pub clear_none : (l : List ℕ) (f : ℕ) → Clear l f f
clear_none l f k h g = absurd (omega arith)

pub clear-part : (l : List ℕ) (i n : ℕ) → has_lf (take n (drop i l)) ≡ false → Clear l i (i + n)
clear-part l i n e k h g is =
    let far : i + (k - i) ≡ k = omega arith in
    let at : get_or (take n (drop i l)) (k - i) 0 ≡ get_or l (i + (k - i)) 0 = get_or-take n (drop i l) (k - i) 0 (omega arith) ∙ get_or-drop i l (k - i) 0 in
    none_is (take n (drop i l)) e (k - i) (at ∙ ap (λ (j : ℕ). get_or l j 0) far ∙ is)

pub clear-join : (l : List ℕ) (f i j : ℕ) → Clear l f i → Clear l i j → Clear l f j
clear-join l f i j first second k h g is = go (ltb k i) refl
  where
    go : (b : Bool) → ltb k i ≡ b → ⊥
    go true e = first k (ltb-true k i e) g is
    go false e = second k h (ltb-false k i e) is

-- after bytes with no LF the next is the next from their start on
pub next-from : (l : List ℕ) (f i r : ℕ) → f ≤ i → Clear l f i → NextLf l i r → NextLf l f r
next-from l f i r le clear next =
    record { from = omega (arith, next.from); within = next.within; before = clear-join l f i r clear next.before; there = next.there }

-- ---- the bytes from index i on, looked at one by one
-- n of them without LF
clear-within : (l : List ℕ) (i n : ℕ) → AllWithin (λ b. b ≡ 10 → ⊥) (drop i l) 0 n → Clear l i (i + n)
clear-within l i n h j lt ge is =
    let far : i + (j - i) ≡ j = omega arith in
    h (j - i) 0 (omega arith) (omega arith) (get_or-drop i l (j - i) 0 ∙ ap (λ (k : ℕ). get_or l k 0) far ∙ is)

-- k is the place of their first LF
pub next_at : (l : List ℕ) (i k : ℕ) → (k < length (drop i l)) × HoldsAt (λ b. b ≡ 10) (drop i l) k × AllWithin (λ b. b ≡ 10 → ⊥) (drop i l) 0 k
    → NextLf l i (i + k)
next_at l i k h =
    record {
      from = omega arith;
      within = omega (arith, h.0, length-drop i l);
      before = clear-within l i k h.2;
      there = λ lt. sym (get_or-drop i l k 0) ∙ h.1 0;
    }

-- they have none
pub next_none : (l : List ℕ) (i : ℕ) → i ≤ length l → AllWithin (λ b. b ≡ 10 → ⊥) (drop i l) 0 (length (drop i l)) → NextLf l i (length l)
next_none l i le h =
    let all : i + length (drop i l) ≡ length l = omega (arith, length-drop i l) in
    record { from = le; within = omega arith; before = rw all at (clear-within l i (length (drop i l)) h); there = λ lt. absurd (omega arith) }

-- ---- the first LF from index f on is among the n bytes from index i on
pub record Among (l : List ℕ) (f i n : ℕ) : Type 0 where
  pub from : f ≤ i
  pub within : i + n ≤ length l
  pub before : Clear l f i
  pub there : has_lf (take n (drop i l)) ≡ true

-- of two halves the first has it, or the second
pub among-half : (l : List ℕ) (f i n r : ℕ) → Among l f i (n + n) → r ≡ cond (has_lf (take n (drop i l))) i (i + n) → Among l f r n
among-half l f i n r h is = subst (λ (j : ℕ). Among l f j n) (sym is) (go (has_lf (take n (drop i l))) refl)
  where
    go : (b : Bool) → has_lf (take n (drop i l)) ≡ b → Among l f (cond b i (i + n)) n
    go true e = record { from = h.from; within = omega (arith, h.within); before = h.before; there = e }
    go false e =
        let rest : has_lf (take n (drop n (drop i l))) ≡ true = sym (rw e at (has_parts n n (drop i l))) ∙ h.there in
        let clear = clear-join l f i (i + n) h.before (clear-part l i n e) in
        record { from = omega (arith, h.from); within = omega (arith, h.within); before = clear; there = rw drop-drop at rest }

-- a single byte is it
pub among_one : (l : List ℕ) (f i : ℕ) → Among l f i 1 → NextLf l f i
among_one l f i h =
    let here : i < length l = omega (arith, h.within) in
    let there = eqb-true (get_or l i 0) 10 (rw (drop-cons l i 0, or-false) at h.there) in
    record { from = h.from; within = omega arith; before = h.before; there = λ lt. there }
