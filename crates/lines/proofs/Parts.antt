-- Parts of a text and of a line: the first 81 bytes of a line, and the bytes up to the next LF.
-- Assumes nothing.
use Prim.Native.Nat.{ℕ, ◌+◌, ◌-◌, ◌≤◌, ◌<◌, min}
use mathlib.Core.Path.{◌≡◌, refl, sym, ap, subst, ◌∙◌}
use mathlib.Core.Bool.{Bool, true, false, cond}
use mathlib.Core.List.{List, [], ◌∷◌, ◌++◌}
use native.Mathlib.Nat.{min-eq_left, min-eq_right, min-le_left, min-le_right, sub-zero}
use native.Mathlib.Omega.{arith}
use borrow.Author.Tests.{ltb-true, ltb-false}
use lib.Dec.{ltb}
use lib.ListN.{length, get_or, take, drop, length-append, length-take, length-drop}
use lib.Seq.{take_all, take-append-le, take-append-add, length-take-le, take-take, get_or-take, get_or-drop}
use Rattle.text.specs.Paste.{Put}
use Rattle.text.proofs.Paste.{take-pasted}
use Rattle.lines.specs.Lines.{NoLf, NextLf}

-- text that was put: the buffer up to its end
pub put_front : {o p t : List ℕ} {i j : ℕ} → Put o i t p j → i ≤ length o → take j p ≡ take i o ++ t
put_front {o} {p} {t} {i} {j} f h = rw (f.place, f.buffer) (take-pasted o i t h)

-- ---- the first bytes of a line
absorb-by : (n : ℕ) (x t : List ℕ) (b : Bool) → ltb (length x) n ≡ b → take n (take n x ++ t) ≡ take n (x ++ t)
absorb-by n x t true e = rw (take_all n x (omega (arith, ltb-true (length x) n e)))
absorb-by n x t false e =
    let h : n ≤ length x = ltb-false (length x) n e in
    let k : n ≤ length (take n x) = rw (length-take-le n x h) (omega arith) in
    take-append-le n (take n x) t k ∙ take-take n n x (omega arith) ∙ sym (take-append-le n x t h)

-- of a list cut to n, what follows it is cut as of the whole
pub absorb : (n : ℕ) (x t : List ℕ) → take n (take n x ++ t) ≡ take n (x ++ t)
absorb n x t = absorb-by n x t (ltb (length x) n) refl

-- of a line cut to 81 bytes, one byte more is that of the whole
pub part-more : (p : List ℕ) (b : ℕ) (t : Bool) → ltb (length p) 81 ≡ t
    → cond (ltb (length (take 81 p)) 81) (take 81 p ++ (b ∷ [])) (take 81 p) ≡ take 81 (p ++ (b ∷ []))
part-more p b true e =
    let h : length p < 81 = ltb-true (length p) 81 e in
    let f : take 81 p ≡ p = take_all 81 p (omega arith) in
    let g : length (p ++ (b ∷ [])) ≤ 81 = omega (arith, length-append p (b ∷ [])) in
    rw (f, e, take_all 81 (p ++ (b ∷ [])) g)
part-more p b false e =
    let h : 81 ≤ length p = ltb-false (length p) 81 e in
    rw (length-take-le 81 p h, take-append-le 81 p (b ∷ []) h)

filled-by : (p l : List ℕ) (n : ℕ) → length p ≤ 81 → n ≡ min (length l) (81 - length p)
    → (b : Bool) → ltb (length l) (81 - length p) ≡ b → p ++ take n l ≡ take 81 (p ++ l)
filled-by p l n h e true k =
    let lt : length l < 81 - length p = ltb-true (length l) (81 - length p) k in
    let m : n ≡ length l = e ∙ min-eq_left (omega arith) in
    let all : length (p ++ l) ≤ 81 = omega (arith, length-append p l) in
    rw (m, take_all (length l) l (omega arith), take_all 81 (p ++ l) all)
filled-by p l n h e false k =
    let le : 81 - length p ≤ length l = ltb-false (length l) (81 - length p) k in
    let m : n ≡ 81 - length p = e ∙ min-eq_right le in
    let sum : length p + n ≡ 81 = omega arith in
    sym (take-append-add p l n) ∙ ap (λ (c : ℕ). take c (p ++ l)) sum

-- as many bytes of l as the line buffer takes
pub filled : (p l : List ℕ) (n : ℕ) → length p ≤ 81 → n ≡ min (length l) (81 - length p) → p ++ take n l ≡ take 81 (p ++ l)
filled p l n h e = filled-by p l n h e (ltb (length l) (81 - length p)) refl

-- ---- the bytes up to the next LF
pub no-lf : (text : List ℕ) (i e : ℕ) → NextLf text i e → NoLf (take (e - i) (drop i text))
no-lf text i e h k lt q =
    let l : k < e - i = omega (arith, simp length-take at lt, min-le_left (e - i) (length (drop i text))) in
    let w : i + k < e = omega arith in
    h.before (i + k) w (omega arith) (sym (get_or-take (e - i) (drop i text) k 0 l ∙ get_or-drop i text k 0) ∙ q)

-- as much of it as is read, in the first 81 bytes of a text
pub window-part : (text : List ℕ) (n k : ℕ) → n ≤ length text → k ≡ min n 81 → take k (take 81 text) ≡ take 81 (take n text)
window-part text n k h e =
    let len : length (take n text) ≡ n = length-take-le n text h in
    let low : k ≤ n = omega (arith, e, min-le_left n 81) in
    let high : k ≤ 81 = omega (arith, e, min-le_right n 81) in
    take-take k 81 text high
    ∙ sym (take-take k n text low)
    ∙ filled [] (take n text) k (omega arith) (e ∙ ap (λ (x : ℕ). min x 81) (sym len))

-- ---- a line of a text from index i on, as it stands at the front of the rest
pub rest_all : (text : List ℕ) (i : ℕ) → take (length text - i) (drop i text) ≡ drop i text
rest_all text i = take_all (length text - i) (drop i text) (omega (arith, length-drop i text))

pub length_rest : (text : List ℕ) (i : ℕ) → length (take (length text - i) (drop i text)) ≡ length text - i
length_rest text i = ap length (rest_all text i) ∙ length-drop i text

next-in-drop : (text : List ℕ) (i e : ℕ) → NextLf text i e → NextLf (drop i text) 0 (e - i)
next-in-drop text i e h =
    let len = length-drop i text in
    record {
      from = omega arith;
      within = omega (arith, len, h.from, h.within);
      before = λ k lt z q. h.before (i + k) (omega (arith, h.from)) (omega arith) (sym (get_or-drop i text k 0) ∙ q);
      there = λ lt.
          let sum : i + (e - i) ≡ e = omega (arith, h.from) in
          get_or-drop i text (e - i) 0 ∙ subst (λ (k : ℕ). get_or text k 0 ≡ 10) (sym sum) (h.there (omega (arith, len, h.from)));
    }

pub next-in-rest : (text : List ℕ) (i e : ℕ) → NextLf text i e → NextLf (take (length text - i) (drop i text)) 0 (e - i)
next-in-rest text i e h = subst (λ (l : List ℕ). NextLf l 0 (e - i)) (sym (rest_all text i)) (next-in-drop text i e h)

-- none of its bytes is LF
pub no-lf-front : (text : List ℕ) (n : ℕ) → NextLf text 0 n → NoLf (take n text)
no-lf-front text n h = subst (λ (k : ℕ). NoLf (take k text)) (sub-zero n) (no-lf text 0 n h)
