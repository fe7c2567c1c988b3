-- How many lines a file has: those of a part that was read, and those of what follows it.
-- Assumes nothing.
use Prim.Native.Nat.{ℕ, suc, ◌+◌, ◌-◌, ◌≤◌, ◌<◌}
use mathlib.Core.Path.{◌≡◌, refl, sym, ap, ◌∙◌}
use mathlib.Core.Bool.{Bool, true, false, cond}
use mathlib.Core.List.{List, [], ◌∷◌, ◌++◌}
use native.Mathlib.Omega.{arith}
use native.Mathlib.Numerals.{add-one}
use borrow.Author.Tests.{lt-ltb, le-ltb, ltb-true, ltb-false, ne_eqb}
use lib.Dec.{eqb, ltb}
use lib.ListN.{length, get_or, take, drop, length-drop, take-append-drop}
use lib.Seq.{drop-cons, drop-drop}
use Rattle.lines.specs.Lines.{last_line, cut, NoLf, NextLf}
use Rattle.lines.specs.Cutting.{Does, Cutting, fresh, opened, ended, kept, step, feed}
use Rattle.lines.proofs.CuttingLaws.{open-still, ended-number, kept-number, step_end, step_kept}
use Rattle.lines.proofs.Parts.{no-lf, rest_all}

-- how many lines a byte ends
abbrev ends : Bool → ℕ
ends true = 1
ends false = 0

-- how many lines end in these bytes: as many as there are LF
abbrev pub line_ends : List ℕ → ℕ
line_ends [] = 0
line_ends (b ∷ t) = ends (eqb b 10) + line_ends t

last_some : (p : List ℕ) (b : ℕ) → length (last_line (p ++ (b ∷ []))) ≡ 1
last_some [] b = refl
last_some (a ∷ p) b = refl

-- what was read of a line before does not change the number of lines that bytes, if there are any, come to
either : (l : Bool) (p q : List ℕ) (z x y : List (List ℕ)) → length x ≡ length y → length (cond l (p ∷ z) x) ≡ length (cond l (q ∷ z) y)
either true p q z x y h = refl
either false p q z x y h = h

as_many : (t p q : List ℕ) → length (last_line p) ≡ length (last_line q) → length (cut p t) ≡ length (cut q t)
as_many [] p q h = h
as_many (b ∷ t) p q h =
    either (eqb b 10) p q (cut [] t) (cut (p ++ (b ∷ [])) t) (cut (q ++ (b ∷ [])) t)
    (as_many t (p ++ (b ∷ [])) (q ++ (b ∷ [])) (last_some p b ∙ sym (last_some q b)))

cut-begun : (t : List ℕ) (b : ℕ) (p q : List ℕ) → length (cut p (b ∷ t)) ≡ length (cut q (b ∷ t))
cut-begun t b p q =
    either (eqb b 10) p q (cut [] t) (cut (p ++ (b ∷ [])) t) (cut (q ++ (b ∷ [])) t)
    (as_many t (p ++ (b ∷ [])) (q ++ (b ∷ [])) (last_some p b ∙ sym (last_some q b)))

-- bytes are at least one line
one-or : (l : Bool) (p : List ℕ) (z x : List (List ℕ)) → 1 ≤ length x → 1 ≤ length (cond l (p ∷ z) x)
one-or true p z x h = omega arith
one-or false p z x h = h

begun-some : (t p : List ℕ) → 1 ≤ length (last_line p) → 1 ≤ length (cut p t)
begun-some [] p h = h
begun-some (b ∷ t) p h =
    one-or (eqb b 10) p (cut [] t) (cut (p ++ (b ∷ [])) t) (begun-some t (p ++ (b ∷ [])) (omega (arith, last_some p b)))

pub cut-some : (t : List ℕ) (b : ℕ) (p : List ℕ) → 1 ≤ length (cut p (b ∷ t))
cut-some t b p =
    one-or (eqb b 10) p (cut [] t) (cut (p ++ (b ∷ [])) t) (begun-some t (p ++ (b ∷ [])) (omega (arith, last_some p b)))

-- a part of a file, and bytes after it
joined : (l : Bool) (p : List ℕ) (z x : List (List ℕ)) (n k : ℕ) → length z ≡ n + k → length x ≡ n + k → length (cond l (p ∷ z) x) ≡ ends l + n + k
joined true p z x n k f g = omega (arith, f)
joined false p z x n k f g = omega (arith, g)

pub cut-both : (a : List ℕ) (c : ℕ) (t p : List ℕ) → length (cut p (a ++ (c ∷ t))) ≡ line_ends a + length (cut [] (c ∷ t))
cut-both [] c t p = omega (arith, cut-begun t c p [])
cut-both (b ∷ a) c t p =
    joined (eqb b 10) p (cut [] (a ++ (c ∷ t))) (cut (p ++ (b ∷ [])) (a ++ (c ∷ t))) (line_ends a) (length (cut [] (c ∷ t)))
    (cut-both a c t []) (cut-both a c t (p ++ (b ∷ [])))

-- each end of a line is the end of one
ends-few : (a p : List ℕ) → line_ends a ≤ length (cut p a)
ends-few [] p = omega arith
ends-few (b ∷ a) p = go (eqb b 10) (ends-few a []) (ends-few a (p ++ (b ∷ [])))
  where
    go : (l : Bool) → line_ends a ≤ length (cut [] a) → line_ends a ≤ length (cut (p ++ (b ∷ [])) a)
        → ends l + line_ends a ≤ length (cond l (p ∷ cut [] a) (cut (p ++ (b ∷ [])) a))
    go true f g = omega (arith, f)
    go false f g = omega (arith, g)

-- where all lines are read, every line that ends is counted
module _ {S : Type 0} (d : Does S) (always : (h : S) → d.more h ≡ true) where
  one_byte : (a : List ℕ)
      → ((p : List ℕ) (s : Cutting S) → s.number + length (cut p a) ≤ 99999 → (feed d s a).number ≡ s.number + line_ends a)
      → (b : ℕ) (p : List ℕ) (s : Cutting S) → opened d s ≡ true
      → (l : Bool) → eqb b 10 ≡ l → s.number + length (cond l (p ∷ cut [] a) (cut (p ++ (b ∷ [])) a)) ≤ 99999
      → (feed d (step d s b) a).number ≡ s.number + (ends l + line_ends a)
  one_byte a ih b p s o true e k =
      ap (λ (x : Cutting S). (feed d x a).number) (step_end d s b o e)
      ∙ omega (arith, ih [] (ended d s) (omega (arith, ended-number d s)), ended-number d s)
  one_byte a ih b p s o false e k =
      ap (λ (x : Cutting S). (feed d x a).number) (step_kept d s b o e)
      ∙ omega (arith, ih (p ++ (b ∷ [])) (kept s b) (omega (arith, kept-number s b)), kept-number s b)

  pub fed-ends : (a p : List ℕ) (s : Cutting S) → s.number + length (cut p a) ≤ 99999 → (feed d s a).number ≡ s.number + line_ends a
  fed-ends [] p s h = omega arith
  fed-ends (b ∷ a) p s h =
      one_byte a (fed-ends a) b p s (open-still d s (omega (arith, cut-some a b p)) (always s.held)) (eqb b 10) refl h

  -- a part of a file with no line past the last that is read, and bytes after it with no such line: together they have none either
  pub whole-more : (h : S) (a c : List ℕ) (x : Cutting S) → length (cut [] a) ≤ 99999 → x ≡ feed d (fresh h) a → 0 < length c
      → ltb (99999 - x.number) (length (cut [] c)) ≡ false → length (cut [] (a ++ c)) ≤ 99999
  whole-more h a [] x few is some rest = absurd (omega arith)
  whole-more h a (b ∷ c) x few is some rest =
      let many : x.number ≡ line_ends a = ap (λ (y : Cutting S). y.number) is ∙ omega (arith, fed-ends a [] (fresh h) (omega arith)) in
      omega (arith, cut-both a b c [], many, ltb-false (99999 - x.number) (length (cut [] (b ∷ c))) rest, ends-few a [], few)

-- a line that ends is one line
pub cut-line-end : (l t p : List ℕ) → NoLf l → length (cut p (l ++ (10 ∷ t))) ≡ 1 + length (cut [] t)
cut-line-end [] t p n = omega arith
cut-line-end (b ∷ l) t p n =
    ap (λ (e : Bool). length (cond e (p ∷ cut [] (l ++ (10 ∷ t))) (cut (p ++ (b ∷ [])) (l ++ (10 ∷ t))))) (ne_eqb b 10 (n 0 (omega arith)))
    ∙ cut-line-end l t (p ++ (b ∷ [])) (λ k h. n (suc k) (omega arith))

-- bytes with no LF are one line at most
pub cut-open : (l p : List ℕ) → NoLf l → length (cut p l) ≤ 1
cut-open [] [] n = omega arith
cut-open [] (a ∷ p) n = omega arith
cut-open (b ∷ l) p n =
    let e = ap (λ (e : Bool). length (cond e (p ∷ cut [] l) (cut (p ++ (b ∷ [])) l))) (ne_eqb b 10 (n 0 (omega arith))) in
    omega (arith, e, cut-open l (p ++ (b ∷ [])) (λ k h. n (suc k) (omega arith)))

-- ---- the lines of a text from index i on
abbrev pub lines_from : List ℕ → ℕ → ℕ
lines_from text i = length (cut [] (drop i text))

-- one ends at index e
pub line-from : (text : List ℕ) (i e : ℕ) → NextLf text i e → e < length text → lines_from text i ≡ 1 + lines_from text (e + 1)
line-from text i e h lt =
    let front = take (e - i) (drop i text) in
    let far : i + (e - i) ≡ e = omega (arith, h.from) in
    let rest : drop (e - i) (drop i text) ≡ 10 ∷ drop (e + 1) text =
    drop-drop (e - i) i text
    ∙ ap (λ (k : ℕ). drop k text) far
    ∙ drop-cons text e 0 lt
    ∙ ap (λ (b : ℕ). b ∷ drop (suc e) text) (h.there lt)
    ∙ ap (λ (k : ℕ). 10 ∷ drop k text) (sym (add-one e)) in
    ap (λ (l : List ℕ). length (cut [] l)) (sym (take-append-drop (e - i) (drop i text)) ∙ ap (λ (l : List ℕ). front ++ l) rest)
    ∙ cut-line-end front (drop (e + 1) text) [] (no-lf text i e h)

-- none ends
pub last-from : (text : List ℕ) (i e : ℕ) → NextLf text i e → e ≡ length text → lines_from text i ≤ 1
last-from text i e h is =
    let all : take (e - i) (drop i text) ≡ drop i text = ap (λ (k : ℕ). take (k - i) (drop i text)) is ∙ rest_all text i in
    omega (arith, cut-open (take (e - i) (drop i text)) [] (no-lf text i e h), ap (λ (l : List ℕ). length (cut [] l)) all)

-- there is one where there are bytes
pub some-from : (text : List ℕ) (i : ℕ) → i < length text → 1 ≤ lines_from text i
some-from text i h = omega (arith, cut-some (drop (suc i) text) (get_or text i 0) [], ap (λ (l : List ℕ). length (cut [] l)) (drop-cons text i 0 h))

no_bytes : (l : List ℕ) → length l ≡ 0 → length (cut [] l) ≡ 0
no_bytes [] h = refl
no_bytes (b ∷ l) h = absurd (omega arith)

pub none_from : (text : List ℕ) (i : ℕ) → length text ≤ i → lines_from text i ≡ 0
none_from text i h = no_bytes (drop i text) (omega (arith, length-drop i text))

-- after `many` lines there are more exactly where there are bytes
pub more-from : (text : List ℕ) (i many : ℕ) → lines_from text 0 ≡ many + lines_from text i → ltb i (length text) ≡ ltb many (lines_from text 0)
more-from text i many h = go (ltb i (length text)) refl
  where
    go : (b : Bool) → ltb i (length text) ≡ b → b ≡ ltb many (lines_from text 0)
    go true e = sym (lt-ltb many (lines_from text 0) (omega (arith, h, some-from text i (ltb-true i (length text) e))))
    go false e = sym (le-ltb many (lines_from text 0) (omega (arith, h, none_from text i (ltb-false i (length text) e))))
