-- Laws of tests and of case lists: conjunctions, a test of every number below a bound, a choice by a test, a choice by a code.
-- Assumes nothing.
use Prim.Native.Nat.{ℕ, zero, suc, ◌+◌, ◌<◌}
use mathlib.Core.Path.{◌≡◌, refl, sym, ap, ◌∙◌}
use mathlib.Core.List.{List, [], ◌∷◌, ◌++◌}
use mathlib.Core.Bool.{Bool, true, false, cond, ◌&&◌, ◌||◌, true≢false}
use mathlib.Core.Logic.{⊎_elim, ◌⊎◌, inl, inr}
use native.Mathlib.Omega.{arith}
use native.Mathlib.Numerals.{add-one}
use borrow.Author.Tests.{eqb-true, eqb-false, ne_eqb, lt-ltb}
use lib.Dec.{eqb, ltb}
use Rattle.kinds.specs.Cases.{all_of, every, is_one_of, Case, case_of}

-- ---- two tests
pub both-fst : (t u : Bool) → t && u ≡ true → t ≡ true
both-fst true u h = refl
both-fst false u h = h

pub both-snd : (t u : Bool) → t && u ≡ true → u ≡ true
both-snd true u h = h
both-snd false true h = refl
both-snd false false h = h

pub both_true : (t : Bool) → t && true ≡ t
both_true true = refl
both_true false = refl

pub both_false : (t : Bool) → t && false ≡ false
both_false true = refl
both_false false = refl

-- ---- decisions
pub decided : (t : Bool) → (t ≡ true) ⊎ (t ≡ false)
decided true = inl refl
decided false = inr refl

pub alike : (i j : ℕ) → (i ≡ j) ⊎ (i ≡ j → ⊥)
alike i j = ⊎_elim (λ h. inl (eqb-true i j h)) (λ h. inr (eqb-false i j h)) (decided (eqb i j))

-- of a number n that is m, and is not 0
pub positive : (n m : ℕ) → n ≡ m → (n ≡ 0 → ⊥) → ltb 0 m ≡ true
positive n m e h = lt-ltb 0 m (omega arith)

-- to show P of a choice, show it of each side, with the test's outcome in hand
pub by_cases : {A : Type 0} (P : A → Type 0) (t : Bool) (x y : A) → (t ≡ true → P x) → (t ≡ false → P y) → P (cond t x y)
by_cases P true x y f g = f refl
by_cases P false x y f g = g refl

-- ---- a test of every number below a bound
pub every_more : (i : ℕ) (p : ℕ → Bool) → every i p ≡ true → p i ≡ true → every (i + 1) p ≡ true
every_more i p h e = simp (add-one, h, e)

pub every-at : (n : ℕ) (p : ℕ → Bool) (i : ℕ) → every n p ≡ true → i < n → p i ≡ true
every-at zero p i h l = absurd (omega arith)
every-at (suc n) p i h l =
    ⊎_elim
    (λ (e : i ≡ n). rw e (both-snd (every n p) (p n) h))
    (λ (e : i ≡ n → ⊥). every-at n p i (both-fst (every n p) (p n) h) (omega arith))
    (alike i n)

pub every-intro : (n : ℕ) (p : ℕ → Bool) → ((i : ℕ) → i < n → p i ≡ true) → every n p ≡ true
every-intro zero p f = refl
every-intro (suc n) p f = simp (every-intro n p (λ i l. f i (omega arith)), f n (omega arith))

pub every-false : (n : ℕ) (p : ℕ → Bool) (i : ℕ) → i < n → p i ≡ false → every n p ≡ false
every-false n p i l h =
    ⊎_elim (λ (e : every n p ≡ true). absurd (true≢false (sym (every-at n p i e l) ∙ h))) (λ e. e) (decided (every n p))

-- ---- a list of tests
abbrev pub AllTrue : List Bool → Type 0
AllTrue [] = Unit
AllTrue (t ∷ ts) = (t ≡ true) × AllTrue ts

pub all_true : (ts : List Bool) → all_of ts ≡ true → AllTrue ts
all_true [] h = tt
all_true (t ∷ ts) h = (both-fst t (all_of ts) h, all_true ts (both-snd t (all_of ts) h))

pub all-intro : (ts : List Bool) → AllTrue ts → all_of ts ≡ true
all-intro [] h = refl
all-intro (t ∷ ts) h = simp h.0 (all-intro ts h.1)

-- where all tests but the last hold, the last decides
pub last-decides : (ts : List Bool) (t : Bool) → AllTrue ts → t ≡ all_of (ts ++ (t ∷ []))
last-decides [] t h = sym (both_true t)
last-decides (u ∷ ts) t h = rw h.0 (last-decides ts t h.1)

-- ---- a number of a list
pub one-of-only : (x y : ℕ) → is_one_of x (y ∷ []) ≡ true → x ≡ y
one-of-only x y h = eqb-true x y (go (eqb x y) h)
  where
    go : (t : Bool) → t || false ≡ true → t ≡ true
    go true h = refl
    go false h = h

-- a number of a list is its first, or one of the others
pub one-of-first : (x y : ℕ) (zs : List ℕ) → is_one_of x (y ∷ zs) ≡ true → (x ≡ y) ⊎ (is_one_of x zs ≡ true)
one-of-first x y zs h = go (eqb x y) (eqb-true x y) h
  where
    go : (t : Bool) → (t ≡ true → x ≡ y) → t || is_one_of x zs ≡ true → (x ≡ y) ⊎ (is_one_of x zs ≡ true)
    go true f h = inl (f refl)
    go false f h = inr h

-- a number of three is one of them
pub one_of_three : (x i j k : ℕ) → is_one_of x (i ∷ j ∷ k ∷ []) ≡ true → (x ≡ i) ⊎ ((x ≡ j) ⊎ (x ≡ k))
one_of_three x i j k h =
    ⊎_elim inl
    (λ g. inr (⊎_elim inl (λ f. inr (one-of-only x k f)) (one-of-first x j (k ∷ []) g)))
    (one-of-first x i (j ∷ k ∷ []) h)

-- a number of the list is none that the list lacks
pub one-of-apart : (x y : ℕ) (zs : List ℕ) → is_one_of x zs ≡ true → is_one_of y zs ≡ false → x ≡ y → ⊥
one-of-apart x y zs h g e = true≢false (sym h ∙ ap (λ (n : ℕ). is_one_of n zs) e ∙ g)

-- ---- a list of cases
-- P of what the case of code k does, for each case
abbrev pub EachCase : {A : Type 0} → (A → Type 0) → ℕ → List (Case A) → Type 0
EachCase P k [] = Unit
EachCase P k (c ∷ cs) = (k ≡ c.code → P c.outcome) × EachCase P k cs

-- then P of what code k does
pub case-all : {A : Type 0} (P : A → Type 0) (k : ℕ) (cs : List (Case A)) (o : A) → EachCase P k cs → P o → P (case_of k cs o)
case-all P k [] o h g = g
case-all P k (c ∷ cs) o h g =
    by_cases P (eqb k c.code) c.outcome (case_of k cs o) (λ e. h.0 (eqb-true _ _ e)) (λ e. case-all P k cs o h.1 g)

-- k is the code of no case, in the form in which the last arm of a `match` knows it
abbrev pub Rest : {A : Type 0} → Type 0 → ℕ → List (Case A) → Type 0
Rest R k [] = R
Rest R k (c ∷ cs) = Rest (R × (k ≡ c.code → ⊥)) k cs

-- then no case is taken
pub case-else : {A : Type 0} (R : Type 0) (k : ℕ) (cs : List (Case A)) (o : A) → Rest R k cs → R × (case_of k cs o ≡ o)
case-else R k [] o h = (h, refl)
case-else R k (c ∷ cs) o h =
    let p : (R × (k ≡ c.code → ⊥)) × (case_of k cs o ≡ o) = case-else (R × (k ≡ c.code → ⊥)) k cs o h in
    (p.0.0, simp (ne_eqb k c.code p.0.1) p.1)
