-- The contracts of the open calls leave no answer to choice: of two lists at most one comparison is told, of a watch at most one, and a step stands at one
-- place.
-- Assumes nothing.
use mathlib.Core.Path.{◌≡◌, refl, sym, ap, ◌∙◌, subst}
use mathlib.Core.List.{List, ◌∷◌, ◌++◌}
use Prim.Native.Nat.{ℕ, suc, ◌+◌, ◌≤◌, ◌<◌}
use native.Mathlib.Decide.{dec_lt}
use native.Mathlib.Omega.{arith}
use lib.ListN.{length, length-append}
use Rattle.verdict.specs.Counted.{count, step_at, seen_to}
use Rattle.verdict.specs.Compared.{Parts, Watched, Stands, Compared}
use Rattle.verdict.specs.declared.Parted.{Parted}
use Rattle.verdict.proofs.Trace.{head-is}
use Rattle.verdict.proofs.Walks.{FromPlace, from_place, rest_of, cancel, parts-differ}
use Rattle.step.specs.Results.{Reading}
use Rattle.std.specs.Prelude.{Option, None, Some}

-- how many steps watch k sees before place i
abbrev many_to : List ℕ → ℕ → ℕ → ℕ
many_to ws k i = length (seen_to k ws i)

more : (ws : List ℕ) (k i c : ℕ) → FromPlace ws k i c → many_to ws k i < many_to ws k c
more ws k i c r =
    let e : many_to ws k c ≡ many_to ws k i + suc (length r.0) = ap length r.1 ∙ length-append (seen_to k ws i) (step_at ws i ∷ r.0) in
    omega (arith, e)

no_less : (ws : List ℕ) (k i c : ℕ) → i ≤ c → many_to ws k i ≤ many_to ws k c
no_less ws k i c h =
    let r : (l : List Reading) × (seen_to k ws c ≡ seen_to k ws i ++ l) = rest_of ws k i c h in
    let e : many_to ws k c ≡ many_to ws k i + length r.0 = ap length r.1 ∙ length-append (seen_to k ws i) r.0 in
    omega (arith, e)

module _ (us ws : List ℕ) (k : ℕ) where
  -- a second parting is not further on in the first list ..
  not-later : (i j i' j' : ℕ) → Parts us ws k i j → Parts us ws k i' j' → i < i' → ⊥
  not-later i j i' j' p q h = go (dec_lt j j')
    where
      hi : i < count us
      hi = omega (arith, h, q.first)

      x : FromPlace us k i i'
      x = from_place us k i i' h (p.seen_first hi)

      go : Dec (j < j') → ⊥
      go (no a) =
          omega (arith, more us k i i' x, no_less ws k j' j (omega (arith, a)), ap length p.before, ap length q.before)
      go (yes a) =
          let hj : j < count ws = omega (arith, a, q.second) in
          let y : FromPlace ws k j j' = from_place ws k j j' a (p.seen-second hj) in
          p.apart hi hj (head-is (step_at us i) (step_at ws j) x.0 y.0
          (cancel (seen_to k us i) (seen_to k ws j) (step_at us i ∷ x.0) (step_at ws j ∷ y.0) p.before (sym x.1 ∙ q.before ∙ y.1)))

  same_first : (i j i' j' : ℕ) → Parts us ws k i j → Parts us ws k i' j' → i ≡ i'
  same_first i j i' j' p q = go (dec_lt i i') (dec_lt i' i)
    where
      go : Dec (i < i') → Dec (i' < i) → i ≡ i'
      go (yes a) b = absurd (not-later i j i' j' p q a)
      go (no a) (yes b) = absurd (not-later i' j' i j q p b)
      go (no a) (no b) = omega (arith, a, b)

  -- .. nor, at the same place of the first, in the second
  not-later-second : (i j j' : ℕ) → Parts us ws k i j → Parts us ws k i j' → j < j' → ⊥
  not-later-second i j j' p q h =
      omega (arith, more ws k j j' (from_place ws k j j' h (p.seen-second (omega (arith, h, q.second)))), ap length p.before, ap length q.before)

  same_second : (i j j' : ℕ) → Parts us ws k i j → Parts us ws k i j' → j ≡ j'
  same_second i j j' p q = go (dec_lt j j') (dec_lt j' j)
    where
      go : Dec (j < j') → Dec (j' < j) → j ≡ j'
      go (yes a) b = absurd (not-later-second i j j' p q a)
      go (no a) (yes b) = absurd (not-later-second i j' j q p b)
      go (no a) (no b) = omega (arith, a, b)

abbrev parted : ℕ → ℕ → ℕ → Option Parted
parted k i j = Some (record { watch = k; first = i; second = j })

same-parting : (us ws : List ℕ) (k i j k' i' j' : ℕ) → k ≡ k' → Parts us ws k i j → Parts us ws k' i' j' → parted k i j ≡ parted k' i' j'
same-parting us ws k i j k' i' j' e p p' =
    let q : Parts us ws k i' j' = subst (λ (n : ℕ). Parts us ws n i' j') (sym e) p' in
    let ei : i ≡ i' = same_first us ws k i j i' j' p q in
    let ej : j ≡ j' = same_second us ws k i j j' p (subst (λ (n : ℕ). Parts us ws k n j') (sym ei) q) in
    rw (e, ei, ej)

-- `compare`
pub sole : (us ws : List ℕ) (v w : Option Parted) → Compared us ws v → Compared us ws w → v ≡ w
sole us ws None None a b = refl
sole us ws None (Some d) a b = absurd (parts-differ us ws d.watch d.first d.second b.2 (a.0 d.watch b.0))
sole us ws (Some d) None a b = absurd (parts-differ us ws d.watch d.first d.second a.2 (b.0 d.watch a.0))
sole us ws (Some d) (Some e) a b = go (dec_lt d.watch e.watch) (dec_lt e.watch d.watch)
  where
    go : Dec (d.watch < e.watch) → Dec (e.watch < d.watch) → Some d ≡ Some e
    go (yes h) m = absurd (parts-differ us ws d.watch d.first d.second a.2 (b.1 d.watch a.0.0 h))
    go (no h) (yes m) = absurd (parts-differ us ws e.watch e.first e.second b.2 (a.1 e.watch b.0.0 m))
    go (no h) (no m) = same-parting us ws d.watch d.first d.second e.watch e.first e.second (omega (arith, h, m)) a.2 b.2

-- `watch`
pub sole-watched : (us ws : List ℕ) (k : ℕ) (v w : Option Parted) → Watched us ws k v → Watched us ws k w → v ≡ w
sole-watched us ws k None None a b = refl
sole-watched us ws k None (Some d) a b = absurd (parts-differ us ws k d.first d.second b.2 (a b.0))
sole-watched us ws k (Some d) None a b = absurd (parts-differ us ws k d.first d.second a.2 (b a.0))
sole-watched us ws k (Some d) (Some e) a b =
    ap (λ (x : ℕ). parted x d.first d.second) a.1 ∙ same-parting us ws k d.first d.second k e.first e.second refl a.2 b.2
    ∙ ap (λ (x : ℕ). parted x e.first e.second) (sym b.1)

-- `find`
pub sole-stands : (us : List ℕ) (i : ℕ) (ws : List ℕ) (from r r' : ℕ) → Stands us i ws from r → Stands us i ws from r' → r ≡ r'
sole-stands us i ws from r r' a b = go (dec_lt r r') (dec_lt r' r)
  where
    not-less : (r r' : ℕ) → Stands us i ws from r → Stands us i ws from r' → r < r' → ⊥
    not-less r r' a b h = let q = a.here (omega (arith, h, b.high)) in b.before r q.0 h q.1 q.2

    go : Dec (r < r') → Dec (r' < r) → r ≡ r'
    go (yes h) m = absurd (not-less r r' a b h)
    go (no h) (yes m) = absurd (not-less r' r b a m)
    go (no h) (no m) = omega (arith, h, m)
