-- What the library's tests say of the definitions of `Read`.
use Prim.Native.Nat.{ℕ, ◌<◌}
use mathlib.Core.Path.{◌≡◌, refl}
use mathlib.Core.Bool.{Bool, true, false, cond, ◌&&◌}
use mathlib.Core.List.{List, [], ◌∷◌}
use native.Mathlib.Omega.{arith}
use borrow.Author.Tests.{ne_eqb}
use lib.Dec.{eqb}
use lib.ListN.{length, take, drop}
use Rattle.std.specs.Prelude.{Option, Some, None}
use Rattle.std.specs.Option.{option_or}
use Rattle.std.specs.Bool.{then_some}
use Rattle.std.specs.Cmp.Lexicographic.{pointwise}
use Rattle.step.specs.declared.Step.{Step}
use Rattle.step.specs.Results.{Reading}
use Rattle.runfile.specs.Parts.{reading}
use Rattle.runfile.specs.Read.{Taken, absent, number, read_field, equal, ended, exactly, or_else}

-- a number behind a key is a number behind as many bytes, if these are the key
pub field-behind : (key l : List ℕ) → read_field key l ≡ cond (pointwise eqb (take (length key) l) key) (number (drop (length key) l)) absent
field-behind [] l = refl
field-behind (k ∷ key) [] = refl
field-behind (k ∷ key) (b ∷ l) = go (eqb b k) _ (field-behind key l)
  where
    go : (t u : Bool)
        → read_field key l ≡ cond u (number (drop (length key) l)) absent
        → cond t (read_field key l) absent ≡ cond (t && u) (number (drop (length key) l)) absent
    go true u e = e
    go false u e = refl

-- the same, with the bytes cut off
pub field-cut : (key l : List ℕ) {front rest : List ℕ} {n : ℕ} {b : Bool} → length key ≡ n → front ≡ take n l → rest ≡ drop n l
    → b ≡ pointwise eqb front key → read_field key l ≡ cond b (number rest) absent
field-cut key l e f r b = rw (b, f, r, ← e) (field-behind key l)

-- a line that ends within the key
pub field-short : (key l : List ℕ) {n : ℕ} → length l < n → length key ≡ n → read_field key l ≡ absent
field-short key l h e = go key l (omega (arith, e))
  where
    either : (t : Bool) {u : Taken} → u ≡ absent → cond t u absent ≡ absent
    either true e = e
    either false e = refl

    go : (key l : List ℕ) → length l < length key → read_field key l ≡ absent
    go [] l h = absurd (omega arith)
    go (k ∷ key) [] h = refl
    go (k ∷ key) (b ∷ l) h = either (eqb b k) (go key l (omega arith))

-- the same bytes, as the library compares them
pub equal-pointwise : (word l : List ℕ) → equal word l ≡ pointwise eqb l word
equal-pointwise [] [] = refl
equal-pointwise [] (b ∷ l) = refl
equal-pointwise (k ∷ word) [] = refl
equal-pointwise (k ∷ word) (b ∷ l) = go (eqb b k) _ (equal-pointwise word l)
  where
    go : (t u : Bool) → equal word l ≡ u → cond t (equal word l) false ≡ (t && u)
    go true u e = e
    go false u e = refl

-- the answer, if nothing is left of the line
pub finished : {A : Type 0} (l : List ℕ) (x : A) {b : Bool} {r : Option A} → b ≡ eqb (length l) 0 → r ≡ then_some b x → reading r ≡ ended l x
finished [] x e h = rw (h, e)
finished (b ∷ l) x e h = rw (h, e, ne_eqb (length (b ∷ l)) 0 (λ z. omega (arith, z)))

-- the step, if a test holds
pub tested : (t : Bool) (s : Step) → reading (then_some t s) ≡ exactly t s
tested true s = refl
tested false s = refl

-- the first step, or else the second
pub either : (a b : Option Step) {r : Option Step} {p q : Reading} → reading a ≡ p → reading b ≡ q → r ≡ option_or a b → reading r ≡ or_else p q
either a b e h o = rw (o, ← e, ← h) (go a)
  where
    go : (a : Option Step) → reading (option_or a b) ≡ or_else (reading a) (reading b)
    go None = refl
    go (Some x) = refl
