-- The test watch by watch is exact: each watch sees the same in both lists where, and only where, the second is a rearrangement of the first.
-- Assumes nothing.
use mathlib.Core.Path.{◌≡◌, sym, ◌∙◌}
use mathlib.Core.Bool.{Bool, true}
use mathlib.Core.Logic.{◌⊎◌, inl, inr}
use mathlib.Core.List.{List}
use Prim.Native.Nat.{ℕ, ◌+◌, ◌-◌, ◌≤◌, ◌<◌}
use native.Mathlib.Decide.{dec_lt}
use native.Mathlib.Omega.{arith}
use borrow.Author.Tests.{le-leb, lt-leb, eq-eqb, eqb-true}
use lib.Dec.{eqb}
use lib.ListN.{length, get_or}
use Rattle.regroup.specs.Lists.{Common, Rearranged}
use Rattle.step.specs.Refusals.{refusals}
use Rattle.verdict.specs.Watches.{only, Watch, sees}
use Rattle.verdict.proofs.Trace.{SeenAlike, Shares, lawful}
use Rattle.verdict.proofs.Converse.{picked}

-- each step is refused with a number of the table or touches a station
abbrev pub Sorted : {Step : Type 0} → (Step → ℕ → Bool) → (Step → ℕ) → Type 0
Sorted {Step} touches refusal = (s : Step) → ((1 ≤ refusal s) × (refusal s ≤ refusals)) ⊎ ((n : ℕ) × (1 ≤ n) × (n ≤ 23) × (touches s n ≡ true))

-- steps of the list that are refused with the same number are equal steps
abbrev pub Uniform : {Step : Type 0} → (Step → ℕ) → Step → List Step → Type 0
Uniform refusal d xs =
    (i j : ℕ) → i < length xs → j < length xs → 1 ≤ refusal (get_or xs i d) → refusal (get_or xs i d) ≡ refusal (get_or xs j d) → get_or xs i d ≡ get_or xs j d

module _ {Step : Type 0} (touches : Step → ℕ → Bool) (refusal : Step → ℕ) where
  abbrev see : ℕ → Step → Bool
  see = sees touches refusal

  pub sees-station : (n : ℕ) (s : Step) → n ≤ 23 → see n s ≡ touches s n
  unfolding sees
  sees-station n s h = rw (le-leb n 23 h)

  pub sees-refusal : (n : ℕ) (s : Step) → 23 < n → see n s ≡ eqb (refusal s) (n - 23)
  unfolding sees
  sees-refusal n s h = rw (lt-leb n 23 h)

  every : Sorted touches refusal → (s : Step) → (n : ℕ) × Watch n × (see n s ≡ true)
  every sorted s = go (sorted s)
    where
      go : ((1 ≤ refusal s) × (refusal s ≤ refusals)) ⊎ ((n : ℕ) × (1 ≤ n) × (n ≤ 23) × (touches s n ≡ true)) → (n : ℕ) × Watch n × (see n s ≡ true)
      go (inl r) = (
        23 + refusal s,
        (omega arith, omega (arith, r)),
        sees-refusal (23 + refusal s) s (omega (arith, r)) ∙ eq-eqb (refusal s) (23 + refusal s - 23) (omega arith),
      )
      go (inr t) = (t.0, (t.1, omega (arith, t.2)), sees-station t.0 s t.2 ∙ t.3)

  common-shares : (s t : Step) → Common touches s t → Shares see s t
  common-shares s t c = (c.0, (c.1, omega (arith, c.2)), sees-station c.0 s c.2 ∙ c.3, sees-station c.0 t c.2 ∙ c.4)

  -- THE TEST SUFFICES: where each watch sees the same in both lists, the second list is a rearrangement of the first
  pub suffices : Sorted touches refusal → (d : Step) (xs ys : List Step) → SeenAlike see xs ys → (p : List ℕ) × Rearranged touches d xs ys p
  suffices sorted d xs ys h = lawful touches see (every sorted) common-shares d ys xs h

  -- IT IS NECESSARY: in any rearrangement each station sees the same ..
  needed : (d : Step) (xs ys : List Step) (p : List ℕ) → Rearranged touches d xs ys p → (n : ℕ) → 1 ≤ n → n ≤ 23 → only (see n) xs ≡ only (see n) ys
  needed d xs ys p r n a b =
      picked touches d (see n) xs ys p r
      (λ i j hi hj x y. inl (n, a, b, sym (sees-station n (get_or ys i d) b) ∙ x, sym (sees-station n (get_or ys j d) b) ∙ y))

  -- .. and each refusal number, where steps that are refused alike are equal
  needed-refused : (d : Step) (xs ys : List Step) (p : List ℕ) → Rearranged touches d xs ys p → Uniform refusal d ys → (n : ℕ) → 23 < n
      → only (see n) xs ≡ only (see n) ys
  needed-refused d xs ys p r u n a = picked touches d (see n) xs ys p r (λ i j hi hj x y. inr (one i j hi hj x y))
    where
      number : (s : Step) → see n s ≡ true → refusal s ≡ n - 23
      number s t = eqb-true (refusal s) (n - 23) (sym (sees-refusal n s a) ∙ t)

      one : (i j : ℕ) → i < length ys → j < length ys → see n (get_or ys i d) ≡ true → see n (get_or ys j d) ≡ true → get_or ys i d ≡ get_or ys j d
      one i j hi hj x y =
          let ei : refusal (get_or ys i d) ≡ n - 23 = number (get_or ys i d) x in
          u i j hi hj (omega (arith, ei, a)) (ei ∙ sym (number (get_or ys j d) y))

  pub exact : (d : Step) (xs ys : List Step) (p : List ℕ) → Uniform refusal d ys → Rearranged touches d xs ys p → SeenAlike see xs ys
  exact d xs ys p u r n w = go (dec_lt 23 n)
    where
      go : Dec (23 < n) → only (see n) xs ≡ only (see n) ys
      go (yes h) = needed-refused d xs ys p r u n h
      go (no h) = needed d xs ys p r n w.0 (omega (arith, h))
