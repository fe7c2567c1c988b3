-- Where a watch parts, what the watches say in turn, and the text of a line and how long it is.
-- Assumes nothing.
use Prim.Native.Nat.{ℕ, zero, suc, ◌+◌, ◌≤◌}
use mathlib.Core.Path.{◌≡◌, refl, sym, ap, subst}
use mathlib.Core.Bool.{Bool, true, false, cond}
use mathlib.Core.List.{List, [], ◌∷◌, ◌++◌, append-nil}
use native.Mathlib.Nat.{add-zero}
use native.Mathlib.Omega.{arith}
use borrow.Author.Tests.{eq-eqb, ne_eqb}
use lib.Dec.{eqb}
use lib.ListN.{length, replicate, length-append}
use Rattle.text.specs.Text.{field}
use Rattle.text.specs.Paste.{Put}
use Rattle.text.proofs.Decimal.{length-ten}
use Rattle.sheet.proofs.Room.{of-text}
use Rattle.report.specs.contracts.PartingPartialEq.TheImpl as pe
use Rattle.std.specs.Option.{option_eq}
use Rattle.report.specs.Report.{PartsAs, EachParts, alike, run, names_text, numbers_text, line_text, run_text}
use Rattle.report.specs.Lines.{NoneParts}
use Rattle.report.specs.declared.Parting.{Parting}
use Rattle.std.specs.Prelude.{Option, None, Some}

-- ---- `==` tells what is alike
pub eq_alike : (x y : Option Parting) → option_eq (pe.ghosts).eq x y ≡ alike x y
unfolding alike
eq_alike None None = refl
eq_alike None (Some q) = refl
eq_alike (Some p) None = refl
eq_alike (Some p) (Some q) = refl

-- ---- the text of a line
pub names-one : (a b : ℕ) → a ≡ b → field "n=" a ≡ names_text a b
unfolding names_text
names-one a b e = rw (eq-eqb a b e) (sym (append-nil (field "n=" a)))

pub names-two : (a b : ℕ) → (a ≡ b → ⊥) → field "n=" a ++ field " to=" b ≡ names_text a b
unfolding names_text
names-two a b h = rw (ne_eqb a b h)

pub line_as : (names : List ℕ) {o p : List ℕ} {at next : ℕ} {x y : Option Parting} → x ≡ y → Put o at (line_text names y) p next → Put o at (line_text names x) p next
line_as names e f = of-text (ap (line_text names) (sym e)) f

-- ---- how long the lines are
pub names-short : (a b : ℕ) → length (names_text a b) ≤ 26
unfolding names_text
names-short a b = go (eqb a b)
  where
    go : (t : Bool) → length (field "n=" a ++ cond t [] (field " to=" b)) ≤ 26
    go true = simp length-append (omega (arith, length-ten a))
    go false = simp length-append (omega (arith, length-ten a, length-ten b))

numbers-short : (f s t : ℕ) → length (numbers_text f s t) ≤ 54
unfolding numbers_text
numbers-short f s t = simp length-append (omega (arith, length-ten f, length-ten s, length-ten t))

line-short : (names : List ℕ) (x : Option Parting) → length names ≤ 26 → length (line_text names x) ≤ 80
line-short names None h = omega arith
line-short names (Some p) h = simp length-append (omega (arith, numbers-short p.first p.second p.stands))

pub run_short : (a b : ℕ) (x : Option Parting) → length (run_text (run a b x)) ≤ 80
run_short a b x = line-short (names_text a b) x (names-short a b)

pub refusal-short : (q : ℕ) (x : Option Parting) → length (line_text (field "refused=" q) x) ≤ 80
refusal-short q x = line-short (field "refused=" q) x (simp length-append (omega (arith, length-ten q)))

-- ---- watches in turn
pub each-nowhere : {us ws : List ℕ} (k n : ℕ) → NoneParts us ws k (k + n) → EachParts us ws k (replicate n None)
unfolding EachParts
each-nowhere k zero b = tt
each-nowhere k (suc n) b = (b k (omega arith) (omega arith), each-nowhere (suc k) n (λ i p q. b i (omega (arith, p)) (omega (arith, q))))

pub each_more : {us ws : List ℕ} (k : ℕ) (xs : List (Option Parting)) {x : Option Parting} → EachParts us ws k xs → PartsAs us ws (k + length xs) x
    → EachParts us ws k (xs ++ (x ∷ []))
unfolding EachParts
each_more {us} {ws} k [] {x} f g = (subst (λ (n : ℕ). PartsAs us ws n x) (add-zero k) g, tt)
each_more {us} {ws} k (y ∷ ys) {x} f g =
    let e : k + suc (length ys) ≡ suc k + length ys = omega arith in
    (f.0, each_more (suc k) ys f.1 (subst (λ (n : ℕ). PartsAs us ws n x) e g))
