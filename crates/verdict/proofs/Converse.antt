-- Out of a list and a rearrangement of it a test picks the same steps in the same order, if any two steps that pass it touch a station in common or are
-- equal.
-- Assumes nothing.
use mathlib.Core.Path.{◌≡◌, refl, sym, ap, ◌∙◌}
use mathlib.Core.Bool.{Bool, true, false}
use mathlib.Core.Logic.{◌⊎◌, inl, inr}
use mathlib.Core.List.{List, [], ◌∷◌}
use Prim.Native.Nat.{ℕ, zero, suc, pred, ◌<◌, suc-le-suc, zero-le}
use native.Mathlib.Nat.{not-suc-le-zero}
use native.Mathlib.Omega.{arith}
use lib.ListN.{length, get_or}
use Rattle.regroup.specs.Lists.{Common, Rearranged}
use Rattle.regroup.proofs.Skip.{del, skip, skip-le, length-del, get_or-del}
use Rattle.regroup.proofs.Stations.{which}
use Rattle.regroup.proofs.Whole.{Placed, placed, rest}
use Rattle.verdict.specs.Watches.{only}
use Rattle.verdict.proofs.Trace.{only-in, only_out, only-del-same, only-keep}

module _ {Step : Type 0} (touches : Step → ℕ → Bool) (d : Step) (f : Step → Bool) where
  -- any two steps of the list that pass the test touch a station in common or are equal
  abbrev pub Tied : List Step → Type 0
  Tied ys =
      (i j : ℕ) → i < length ys → j < length ys → f (get_or ys i d) ≡ true → f (get_or ys j d) ≡ true
      → Common touches (get_or ys i d) (get_or ys j d) ⊎ (get_or ys i d ≡ get_or ys j d)

  tied-del : (ys : List Step) (k : ℕ) → k < length ys → Tied ys → Tied (del k ys)
  tied-del ys k hk o i j a b t u =
      let long : suc (length (del k ys)) ≡ length ys = length-del k ys hk in
      rw (get_or-del k ys i d, get_or-del k ys j d)
      (o (skip k i) (skip k j) (omega (arith, skip-le k i, long, a)) (omega (arith, skip-le k j, long, b))
      (sym (ap f (get_or-del k ys i d)) ∙ t) (sym (ap f (get_or-del k ys j d)) ∙ u))

  -- with the first step of the first list at place k of the second
  more : (x : Step) (xs ys : List Step) (p : ℕ → ℕ) → Placed touches d (x ∷ xs) ys p → Tied ys → (k : ℕ) → k < length ys → p k ≡ 0
      → only f xs ≡ only f (del k ys) → only f (x ∷ xs) ≡ only f ys
  more x xs ys p r o k hk pk ih = go (which (f x))
    where
      is_x : get_or ys k d ≡ x
      is_x = r.same k hk ∙ ap (λ (i : ℕ). get_or (x ∷ xs) i d) pk

      as-x : (j : ℕ) → j < k → Common touches (get_or ys j d) (get_or ys k d) ⊎ (get_or ys j d ≡ get_or ys k d) → get_or ys j d ≡ get_or ys k d
      as-x j l (inl c) = absurd (omega (arith, pk, r.order j k l hk c))
      as-x j l (inr e) = e

      go : (f x ≡ true) ⊎ (f x ≡ false) → only f (x ∷ xs) ≡ only f ys
      go (inl t) =
          only-in f d x xs t ∙ ap (λ (s : Step). s ∷ only f xs) (sym is_x) ∙ ap (λ (l : List Step). get_or ys k d ∷ l) ih
          ∙ sym (only-del-same f d ys k hk (ap f is_x ∙ t) (λ j l u. as-x j l (o j k (omega (arith, l, hk)) hk u (ap f is_x ∙ t))))
      go (inr t) = only_out f d x xs t ∙ ih ∙ only-keep f d ys k hk (ap f is_x ∙ t)

  picks : (xs ys : List Step) (p : ℕ → ℕ) → Placed touches d xs ys p → Tied ys → only f xs ≡ only f ys
  picks [] [] p r o = refl
  picks [] (y ∷ ys) p r o = absurd (not-suc-le-zero (r.places zero (suc-le-suc zero-le)))
  picks (x ∷ xs) ys p r o =
      let first : (k : ℕ) × (k < length ys) × (p k ≡ 0) = r.each zero (suc-le-suc zero-le) in
      more x xs ys p r o first.0 first.1 first.2
      (picks xs (del first.0 ys) (λ (j : ℕ). pred (p (skip first.0 j))) (rest touches d x xs ys p r first.0 first.1 first.2)
      (tied-del ys first.0 first.1 o))

  pub picked : (xs ys : List Step) (p : List ℕ) → Rearranged touches d xs ys p → Tied ys → only f xs ≡ only f ys
  picked xs ys p r o = picks xs ys (λ (k : ℕ). get_or p k 0) (placed touches d xs ys p r) o
