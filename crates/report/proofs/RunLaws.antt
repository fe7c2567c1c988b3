-- `runs` gives the maximal runs (`maximal`) and nothing else is (`maximal-only`); a row of stations that part alike is one run and so one line (`row-text`).
-- Assumes nothing.
use Prim.Native.Nat.{ℕ, zero, suc, ◌+◌, ◌-◌, ◌≤◌}
use mathlib.Core.Path.{◌≡◌, refl, sym, ap, subst, ◌∙◌}
use mathlib.Core.Bool.{Bool, true, false, cond, ◌&&◌, false≢true, and-eq-true_iff}
use mathlib.Core.List.{List, [], ◌∷◌, ◌++◌, append-nil}
use native.Mathlib.Omega.{arith}
use borrow.Author.Tests.{eq-eqb, eqb-true}
use lib.Dec.{eqb}
use lib.ListN.{replicate}
use Rattle.report.specs.Report.{at_lines, alike, Run, run, joined, runs, run_text, runs_text}
use Rattle.report.specs.Maximal.{Otherwise, Maximal}
use Rattle.report.specs.declared.Parting.{Parting}
use Rattle.std.specs.Prelude.{Option, None, Some}

-- ---- alike is equal
pub alike_self : (x : Option Parting) → alike x x ≡ true
unfolding alike
alike_self None = refl
alike_self (Some p) = rw (eq-eqb p.first p.first refl, eq-eqb p.second p.second refl, eq-eqb p.stands p.stands refl)

pub alike-equal : (x y : Option Parting) → alike x y ≡ true → x ≡ y
unfolding alike
alike-equal None None h = refl
alike-equal None (Some q) h = absurd (false≢true h)
alike-equal (Some p) None h = absurd (false≢true h)
alike-equal (Some p) (Some q) h =
    let a = (and-eq-true_iff (eqb p.first q.first) (eqb p.second q.second && eqb p.stands q.stands)).0 h in
    let b = (and-eq-true_iff (eqb p.second q.second) (eqb p.stands q.stands)).0 a.1 in
    lines (eqb-true p.first q.first a.0) (eqb-true p.second q.second b.0) (eqb-true p.stands q.stands b.1)
  where
    lines : {f s t f' s' t' : ℕ} → f ≡ f' → s ≡ s' → t ≡ t' → at_lines f s t ≡ at_lines f' s' t'
    lines a b c = rw (a, b, c)

pub alike-not : (x y : Option Parting) → alike x y ≡ false → x ≡ y → ⊥
alike-not x y h e = false≢true (sym h ∙ subst (λ (z : Option Parting). alike x z ≡ true) e (alike_self x))

-- ---- the runs are maximal
one-row : (k : ℕ) (x : Option Parting) (ys : List (Option Parting)) → x ∷ ys ≡ replicate (suc k - k) x ++ ys
one-row k x ys = let e : suc k - k ≡ 1 = omega arith in rw e

join-maximal : (k : ℕ) (x : Option Parting) (xs : List (Option Parting)) (rs : List Run) → Maximal (suc k) xs rs → Maximal k (x ∷ xs) (joined k x rs)
unfolding joined
join-maximal k x xs [] m = (refl, omega arith, tt, ([], subst (λ (l : List (Option Parting)). x ∷ l ≡ replicate (suc k - k) x ++ []) (sym m) (one-row k x []), refl))
join-maximal k x xs (r ∷ rs) m = go (alike x r.parting) refl
  where
    go : (t : Bool) → alike x r.parting ≡ t → Maximal k (x ∷ xs) (cond t (run k r.high x ∷ rs) (run k k x ∷ r ∷ rs))
    go true h =
        let e : r.parting ≡ x = sym (alike-equal x r.parting h) in
        let n : suc r.high - k ≡ suc (suc r.high - suc k) = omega (arith, m.1) in
        let c : xs ≡ replicate (suc r.high - suc k) x ++ m.3.0 =
        subst (λ (y : Option Parting). xs ≡ replicate (suc r.high - suc k) y ++ m.3.0) e m.3.1 in
        (refl, omega (arith, m.1), subst (λ (y : Option Parting). Otherwise y rs) e m.2, (m.3.0, rw n (ap (λ (l : List (Option Parting)). x ∷ l) c), m.3.2))
    go false h = (refl, omega arith, alike-not x r.parting h, (xs, one-row k x xs, m))

pub maximal : (k : ℕ) (xs : List (Option Parting)) → Maximal k xs (runs k xs)
unfolding runs
maximal k [] = refl
maximal k (x ∷ xs) = join-maximal k x xs (runs (suc k) xs) (maximal (suc k) xs)

-- ---- a row of stations that part alike is one run
-- x does not go into the runs of the stations from k + 1 on
abbrev Apart : ℕ → Option Parting → List (Option Parting) → Type 0
Apart k x zs = joined k x (runs (suc k) zs) ≡ run k k x ∷ runs (suc k) zs

pub apart_none : (k : ℕ) (x : Option Parting) → Apart k x []
unfolding joined runs
apart_none k x = refl

headed : (k : ℕ) (y : Option Parting) (rs : List Run) → (b : ℕ) × (qs : List Run) × (joined k y rs ≡ run k b y ∷ qs)
unfolding joined
headed k y [] = (k, [], refl)
headed k y (r ∷ rs) = go (alike y r.parting)
  where
    go : (t : Bool) → (b : ℕ) × (qs : List Run) × (cond t (run k r.high y ∷ rs) (run k k y ∷ r ∷ rs) ≡ run k b y ∷ qs)
    go true = (r.high, rs, refl)
    go false = (k, r ∷ rs, refl)

join-otherwise : (k : ℕ) (x : Option Parting) (rs : List Run) → Otherwise x rs → joined k x rs ≡ run k k x ∷ rs
unfolding joined
join-otherwise k x [] h = refl
join-otherwise k x (r ∷ rs) h = go (alike x r.parting) refl
  where
    go : (t : Bool) → alike x r.parting ≡ t → cond t (run k r.high x ∷ rs) (run k k x ∷ r ∷ rs) ≡ run k k x ∷ r ∷ rs
    go true e = absurd (h (alike-equal x r.parting e))
    go false e = refl

join-same : (k a b : ℕ) (x : Option Parting) (qs : List Run) → joined k x (run a b x ∷ qs) ≡ run k b x ∷ qs
unfolding joined
join-same k a b x qs = rw (alike_self x)

pub apart_other : (k : ℕ) (x y : Option Parting) (zs : List (Option Parting)) → alike x y ≡ false → Apart k x (y ∷ zs)
unfolding runs
apart_other k x y zs h =
    let q = headed (suc k) y (runs (suc (suc k)) zs) in
    subst (λ (l : List Run). joined k x l ≡ run k k x ∷ l) (sym q.2) (join-otherwise k x (run (suc k) q.0 y ∷ q.1) (alike-not x y h))

row-run : (m a b : ℕ) (x : Option Parting) (zs : List (Option Parting)) → b ≡ a + m → Apart b x zs → runs a (replicate (suc m) x ++ zs) ≡ run a b x ∷ runs (suc b) zs
unfolding runs
row-run zero a b x zs e h = let d : b ≡ a = omega arith in subst (λ (n : ℕ). joined n x (runs (suc n) zs) ≡ run n b x ∷ runs (suc b) zs) d h
row-run (suc m) a b x zs e h =
    ap (joined a x) (row-run m (suc a) b x zs (omega arith) h) ∙ join-same a (suc a) b x (runs (suc b) zs)

-- so there are no other maximal runs
pub maximal-only : (k : ℕ) (xs : List (Option Parting)) (rs : List Run) → Maximal k xs rs → rs ≡ runs k xs
unfolding runs
maximal-only k xs [] m = rw m
maximal-only k xs (r ∷ rs) m =
    let ys = m.3.0 in
    let x = r.parting in
    let e : rs ≡ runs (suc r.high) ys = maximal-only (suc r.high) ys rs m.3.2 in
    let n : suc r.high - k ≡ suc (r.high - k) = omega (arith, m.1) in
    let apart : Apart r.high x ys = subst (λ (l : List Run). joined r.high x l ≡ run r.high r.high x ∷ l) e (join-otherwise r.high x rs m.2) in
    let c : xs ≡ replicate (suc (r.high - k)) x ++ ys = subst (λ (j : ℕ). xs ≡ replicate j x ++ ys) n m.3.1 in
    let d : r ≡ run k r.high x = ap (λ (j : ℕ). run j r.high x) m.0 in
    ap (λ (q : Run). q ∷ rs) d ∙ ap (λ (l : List Run). run k r.high x ∷ l) e
    ∙ sym (row-run (r.high - k) k r.high x ys (omega (arith, m.1)) apart) ∙ ap (runs k) (sym c)

-- and so one line; no station at all that parts nowhere is no line
pub row-text : (m a k : ℕ) (x : Option Parting) (zs : List (Option Parting)) → 1 ≤ k → a + m ≡ k → (m ≡ 0 → x ≡ None) → Apart (k - 1) x zs
    → runs_text (runs a (replicate m x ++ zs)) ≡ run_text (run a (k - 1) x) ++ runs_text (runs k zs)
unfolding runs_text
row-text zero a k x zs p e n h = let d : a ≡ k = omega arith in rw (n refl, d)
row-text (suc m) a k x zs p e n h =
    let d : suc (k - 1) ≡ k = omega arith in
    subst (λ (i : ℕ). runs_text (runs a (replicate (suc m) x ++ zs)) ≡ run_text (run a (k - 1) x) ++ runs_text (runs i zs)) d
    (ap runs_text (row-run m a (k - 1) x zs (omega arith) h))

-- past the last station there is no line
pub text-end : (line : List ℕ) → line ++ runs_text (runs 24 []) ≡ line
unfolding runs runs_text
text-end line = append-nil line
