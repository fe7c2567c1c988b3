-- Laws of the table's text: how long it is at most, and one text more behind those that were put.
use Prim.Native.Nat.{ℕ, zero, suc, ◌+◌, ◌*◌, ◌≤◌, ◌<◌}
use mathlib.Core.Path.{◌≡◌, refl, sym, ap, subst}
use mathlib.Core.Bool.{Bool, true, false}
use mathlib.Core.List.{List, ◌++◌}
use native.Mathlib.Nat.{add-zero}
use native.Mathlib.Numerals.{add-one}
use native.Mathlib.Omega.{arith}
use borrow.Author.Tests.{ltb-true, ltb-false}
use lib.Dec.{ltb}
use lib.ListN.{length, length-append}
use Rattle.text.specs.Text.{bytes, decimal, field}
use Rattle.text.specs.Paste.{Put}
use Rattle.text.proofs.Decimal.{decimal-one, length-between}
use Rattle.text.proofs.Paste.{paste-nothing, put_then}
use Rattle.acceptance.specs.Classes.{class_number, class_of}
use Rattle.acceptance.specs.declared.Class.{Class}
use Rattle.acceptance.specs.declared.Class.TheVariants.{None, BelowR, BelowS, A12ToA14, A12AndA13, A13Only, A0Only}
use Rattle.classes.specs.Table.{line_of, texts_below, kind_text}

-- ---- how long a line is
-- a number of one digit, and of one or two
pub one-digit : (n : ℕ) → n < 10 → length (decimal n) ≡ 1
one-digit n h = ap length (decimal-one n h)

pub two_digits : (n : ℕ) → n < 100 → length (decimal n) ≤ 2
two_digits n h = go (ltb n 10) refl
  where
    go : (t : Bool) → ltb n 10 ≡ t → length (decimal n) ≤ 2
    go true t = omega (arith, one-digit n (ltb-true n 10 t))
    go false t = omega (arith, length-between 0 n (ltb-false n 10 t) h (omega arith))

-- where a key and a number of one digit end
pub after_one : {o p : List ℕ} {at next : ℕ} (key : List ℕ) (n : ℕ) → n < 10 → Put o at (key ++ decimal n) p next → next ≡ at + length key + 1
after_one key n h f = omega (arith, f.place, length-append key (decimal n), one-digit n h)

-- where the fields before the class end
pub after-pair : {o p q : List ℕ} {at j k : ℕ} (kind f : ℕ) → kind < 6 → f < 32 → Put o at (field "kind=" kind) p j → Put p j (field " f=" f) q k
    → k ≤ at + 11
after-pair kind f h l a b =
    omega (arith, after_one (bytes "kind=") kind (omega arith) a, b.place, length-append (bytes " f=") (decimal f), two_digits f (omega arith))

few : (c : Class) → class_number c < 10
few None = omega arith
few BelowR = omega arith
few BelowS = omega arith
few A12ToA14 = omega arith
few A12AndA13 = omega arith
few A13Only = omega arith
few A0Only = omega arith

-- a class has one digit
pub class-few : {n : ℕ} (c : Class) → n ≡ class_number c → n < 10
class-few c e = omega (arith, few c, e)

line-short : (kind f : ℕ) → kind < 6 → f < 32 → length (line_of kind f) ≤ 20
unfolding line_of
line-short kind f h l =
    let c = class_of kind f in
    simp length-append (omega (arith, one-digit kind (omega arith), two_digits f (omega arith), one-digit (class_number c) (few c)))

-- the same number, said otherwise
pub of_number : {o p : List ℕ} {at next n m : ℕ} (key : List ℕ) → n ≡ m → Put o at (key ++ decimal n) p next → Put o at (key ++ decimal m) p next
of_number {o} {p} {at} {next} key e f = subst (λ (k : ℕ). Put o at (key ++ decimal k) p next) e f

-- ---- texts one behind the other
-- i texts of at most m bytes each
texts-short : (m i : ℕ) (g : ℕ → List ℕ) → ((k : ℕ) → k < i → length (g k) ≤ m) → length (texts_below i g) ≤ i * m
unfolding texts_below
texts-short m zero g h = omega arith
texts-short m (suc i) g h =
    let before = texts-short m i g (λ k l. h k (omega (arith, l))) in
    rw (length-append (texts_below i g) (g i)) (omega (arith, before, h i (omega arith)))

-- where they end
texts-end : {o p : List ℕ} {at next : ℕ} (m i : ℕ) (g : ℕ → List ℕ) → ((k : ℕ) → k < i → length (g k) ≤ m) → Put o at (texts_below i g) p next
    → next ≤ at + i * m
texts-end m i g h f = omega (arith, f.place, texts-short m i g h)

-- the lines of the functions below i
pub lines_end : {o p : List ℕ} {at next : ℕ} (kind i : ℕ) → kind < 6 → i ≤ 32 → Put o at (texts_below i (line_of kind)) p next → next ≤ at + i * 20
lines_end kind i h n f = texts-end 20 i (line_of kind) (λ k l. line-short kind k h (omega (arith, l))) f

kind-short : (kind : ℕ) → kind < 6 → length (kind_text kind) ≤ 640
unfolding kind_text
kind-short kind h = texts-short 20 32 (line_of kind) (λ f l. line-short kind f h l)

-- the lines of the kinds below i
pub kinds-end : {o p : List ℕ} {at next : ℕ} (i : ℕ) → i ≤ 6 → Put o at (texts_below i kind_text) p next → next ≤ at + i * 640
kinds-end i n f = texts-end 640 i kind_text (λ k l. kind-short k (omega (arith, l))) f

-- none of them, one more, and all
pub texts-none : (o : List ℕ) (at : ℕ) (g : ℕ → List ℕ) → Put o at (texts_below 0 g) o at
unfolding texts_below
texts-none o at g = record { buffer = sym (paste-nothing o at); place = sym (add-zero at) }

pub texts-more : {o p q : List ℕ} {at j k : ℕ} (g : ℕ → List ℕ) (i : ℕ) → Put o at (texts_below i g) p j → Put p j (g i) q k → at ≤ length o
    → Put o at (texts_below (i + 1) g) q k
unfolding texts_below
texts-more g i before one h = rw (add-one i) (put_then before one h)

pub texts-all : {o p : List ℕ} {at next : ℕ} (g : ℕ → List ℕ) (n i : ℕ) → i ≡ n → Put o at (texts_below i g) p next → Put o at (texts_below n g) p next
texts-all {o} {p} {at} {next} g n i e f = subst (λ (k : ℕ). Put o at (texts_below k g) p next) e f
