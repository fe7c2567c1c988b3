-- Where each watch sees the same in two lists, the second is a rearrangement of the first.
-- By the second list: its first step y stands in the first list behind steps that share no watch with it, at the same place for each watch that sees it.
-- Assumes nothing.
use mathlib.Core.Path.{◌≡◌, refl, sym, ap, ap₂, ◌∙◌, subst}
use mathlib.Core.Bool.{Bool, true, false, false≢true, cond}
use mathlib.Core.Logic.{◌⊎◌, inl, inr}
use mathlib.Core.List.{List, [], ◌∷◌, map}
use Prim.Native.Nat.{ℕ, zero, suc, ◌<◌, suc-le-suc, zero-le}
use native.Mathlib.Nat.{not-suc-le-zero, le_of_suc-le-suc}
use native.Mathlib.Decide.{ℕ_discrete, dec_lt}
use native.Mathlib.Omega.{arith}
use lib.ListN.{length, get_or, length-map}
use Rattle.regroup.specs.Lists.{Common, arranged, Rearranged}
use Rattle.regroup.proofs.Skip.{del, skip, skip-mono, skip-inj, skip-ne, skip-le, skip-hit, length-del, get_or-del}
use Rattle.regroup.proofs.Stations.{which}
use Rattle.regroup.proofs.Whole.{get_or-map-in, step-at}
use Rattle.verdict.specs.Watches.{only, Watch}

pub head-is : {A : Type 0} (x y : A) (xs ys : List A) → x ∷ xs ≡ y ∷ ys → x ≡ y
head-is x y xs ys e = ap (λ l. get_or l 0 x) e

tail-is : {A : Type 0} (x y : A) (xs ys : List A) → x ∷ xs ≡ y ∷ ys → xs ≡ ys
tail-is x y xs ys e = ap (λ l. del 0 l) e

not-both : (b : Bool) → b ≡ true → b ≡ false → ⊥
not-both b t f = false≢true (sym f ∙ t)

module _ {A : Type 0} (f : A → Bool) (d : A) where
  pub only-in : (x : A) (xs : List A) → f x ≡ true → only f (x ∷ xs) ≡ x ∷ only f xs
  only-in x xs h = rw h

  pub only_out : (x : A) (xs : List A) → f x ≡ false → only f (x ∷ xs) ≡ only f xs
  only_out x xs h = rw h

  abbrev Before : List A → ℕ → Type 0
  Before l k = (j : ℕ) → j < k → f (get_or l j d) ≡ false

  -- without an element for which f holds, where those before it are equal to it
  pub only-del-same : (l : List A) (k : ℕ) → k < length l → f (get_or l k d) ≡ true
      → ((j : ℕ) → j < k → f (get_or l j d) ≡ true → get_or l j d ≡ get_or l k d) → only f l ≡ get_or l k d ∷ only f (del k l)
  only-del-same [] k h t b = absurd (not-suc-le-zero h)
  only-del-same (x ∷ xs) zero h t b = only-in x xs t
  only-del-same (x ∷ xs) (suc k) h t b = go (which (f x)) (only-del-same xs k (le_of_suc-le-suc h) t (λ j i. b (suc j) (suc-le-suc i)))
    where
      go : (f x ≡ true) ⊎ (f x ≡ false) → only f xs ≡ get_or xs k d ∷ only f (del k xs) → only f (x ∷ xs) ≡ get_or xs k d ∷ only f (x ∷ del k xs)
      go (inr n) ih = only_out x xs n ∙ ih ∙ ap (λ l. get_or xs k d ∷ l) (sym (only_out x (del k xs) n))
      go (inl y) ih =
          let e : x ≡ get_or xs k d = b zero (suc-le-suc zero-le) y in
          only-in x xs y ∙ ap₂ (λ (a : A) (l : List A). a ∷ l) e (ih ∙ ap (λ a. a ∷ only f (del k xs)) (sym e))
          ∙ ap (λ l. get_or xs k d ∷ l) (sym (only-in x (del k xs) y))

  -- without its first element for which f holds
  only-del : (l : List A) (k : ℕ) → k < length l → f (get_or l k d) ≡ true → Before l k → only f l ≡ get_or l k d ∷ only f (del k l)
  only-del l k h t b = only-del-same l k h t (λ j i u. absurd (not-both (f (get_or l j d)) u (b j i)))

  -- without an element for which it does not
  pub only-keep : (l : List A) (k : ℕ) → k < length l → f (get_or l k d) ≡ false → only f (del k l) ≡ only f l
  only-keep [] k h t = absurd (not-suc-le-zero h)
  only-keep (x ∷ xs) zero h t = sym (only_out x xs t)
  only-keep (x ∷ xs) (suc k) h t = ap (λ l. cond (f x) (x ∷ l) l) (only-keep xs k (le_of_suc-le-suc h) t)

  abbrev Found : List A → Type 0
  Found l = (k : ℕ) × (k < length l) × (f (get_or l k d) ≡ true) × Before l k

  look-more : (x : A) (xs : List A) → (f x ≡ true) ⊎ (f x ≡ false) → Found xs ⊎ (only f xs ≡ []) → Found (x ∷ xs) ⊎ (only f (x ∷ xs) ≡ [])
  look-more x xs (inl t) r = inl (zero, suc-le-suc zero-le, t, λ j h. absurd (not-suc-le-zero h))
  look-more x xs (inr t) (inr e) = inr (only_out x xs t ∙ e)
  look-more x xs (inr t) (inl r) = inl (suc r.0, suc-le-suc r.1, r.2, before)
    where
      before : (j : ℕ) → j < suc r.0 → f (get_or (x ∷ xs) j d) ≡ false
      before zero h = t
      before (suc j) h = r.3 j (le_of_suc-le-suc h)

  -- the first element for which f holds
  look : (l : List A) → Found l ⊎ (only f l ≡ [])
  look [] = inr refl
  look (x ∷ xs) = look-more x xs (which (f x)) (look xs)

-- a rearrangement, from one of all but the second list's first step
module _ {Step : Type 0} (touches : Step → ℕ → Bool) (d y : Step) (ys xs : List Step) (k : ℕ) (hk : k < length xs) (is_y : get_or xs k d ≡ y)
    (free : (j : ℕ) → j < k → Common touches y (get_or xs j d) → ⊥) (p : List ℕ) (r : Rearranged touches d (del k xs) ys p) where
  abbrev q : List ℕ
  q = k ∷ map (skip k) p

  long : suc (length (del k xs)) ≡ length xs
  long = length-del k xs hk

  same : length (map (skip k) p) ≡ length p
  same = length-map p (skip k)

  later : (j : ℕ) → j < length p → get_or (map (skip k) p) j 0 ≡ skip k (get_or p j 0)
  later j h = get_or-map-in (skip k) p j 0 0 h

  from_first : (j : ℕ) → j < length p → get_or ys j d ≡ get_or xs (skip k (get_or p j 0)) d
  from_first j h = step-at touches d (del k xs) ys p r j h ∙ get_or-del k xs (get_or p j 0) d

  moved : (l : List ℕ) → arranged d (del k xs) l ≡ arranged d xs (map (skip k) l)
  moved [] = refl
  moved (i ∷ l) = ap₂ (λ (a : Step) (b : List Step). a ∷ b) (get_or-del k xs i d) (moved l)

  places : (j : ℕ) → j < length q → get_or q j 0 < length xs
  places zero h = hk
  places (suc j) h =
      let b : j < length p = omega (arith, same, h) in
      omega (arith, later j b, skip-le k (get_or p j 0), r.places j b, long)

  each : (i : ℕ) → i < length xs → Dec (i ≡ k) → (j : ℕ) × (j < length q) × (get_or q j 0 ≡ i)
  each i h (yes e) = (0, suc-le-suc zero-le, sym e)
  each i h (no e) =
      let hit : (j : ℕ) × (suc j < length xs) × (skip k j ≡ i) = skip-hit k i (length xs) hk h e in
      let s : (j : ℕ) × (j < length p) × (get_or p j 0 ≡ hit.0) = r.each hit.0 (omega (arith, hit.1, long)) in
      (suc s.0, omega (arith, s.1, same), later s.0 s.1 ∙ ap (skip k) s.2 ∙ hit.2)

  once : (i j : ℕ) → i < length q → j < length q → get_or q i 0 ≡ get_or q j 0 → i ≡ j
  once zero zero a b e = refl
  once zero (suc j) a b e = absurd (skip-ne k (get_or p j 0) (sym (later j (omega (arith, same, b))) ∙ sym e))
  once (suc i) zero a b e = absurd (skip-ne k (get_or p i 0) (sym (later i (omega (arith, same, a))) ∙ e))
  once (suc i) (suc j) a b e =
      let ai : i < length p = omega (arith, same, a) in
      let bj : j < length p = omega (arith, same, b) in
      ap suc (r.once i j ai bj (skip-inj k (get_or p i 0) (get_or p j 0) (sym (later i ai) ∙ e ∙ later j bj)))

  order : (i j : ℕ) → i < j → j < length q → Common touches (get_or (y ∷ ys) i d) (get_or (y ∷ ys) j d) → get_or q i 0 < get_or q j 0
  order i zero l b c = absurd (not-suc-le-zero l)
  order zero (suc j) l b c = go (dec_lt (skip k (get_or p j 0)) k)
    where
      bj : j < length p
      bj = omega (arith, same, b)

      go : Dec (skip k (get_or p j 0) < k) → k < get_or q (suc j) 0
      go (yes a) = absurd (free (skip k (get_or p j 0)) a (subst (Common touches y) (from_first j bj) c))
      go (no a) = omega (arith, a, later j bj, skip-ne k (get_or p j 0))
  order (suc i) (suc j) l b c =
      let bj : j < length p = omega (arith, same, b) in
      let bi : i < length p = omega (arith, bj, l) in
      omega (arith, later i bi, later j bj, skip-mono k (get_or p i 0) (get_or p j 0) (r.order i j (le_of_suc-le-suc l) bj c))

  rearranged-more : Rearranged touches d xs (y ∷ ys) q
  rearranged-more = record {
    second = ap₂ (λ (a : Step) (b : List Step). a ∷ b) (sym is_y) (r.second ∙ moved p);
    places = places;
    each = λ i h. each i h (ℕ_discrete i k);
    once = once;
    order = order;
  }

-- each watch sees the same in both lists
abbrev pub SeenAlike : {Step : Type 0} → (ℕ → Step → Bool) → List Step → List Step → Type 0
SeenAlike see xs ys = (n : ℕ) → Watch n → only (see n) xs ≡ only (see n) ys

-- two steps that a watch sees, the two of them
abbrev pub Shares : {Step : Type 0} → (ℕ → Step → Bool) → Step → Step → Type 0
Shares see s t = (n : ℕ) × Watch n × (see n s ≡ true) × (see n t ≡ true)

-- every step is seen by a watch, and steps that touch a station in common share one
module _ {Step : Type 0} (touches : Step → ℕ → Bool) (see : ℕ → Step → Bool) (every : (s : Step) → (n : ℕ) × Watch n × (see n s ≡ true))
    (shares : (s t : Step) → Common touches s t → Shares see s t) (d : Step) where
  -- where a watch that sees y, the second list's first step, sees its first step of the first list
  at_head : (y : Step) (ys xs : List Step) (n : ℕ) → see n y ≡ true → only (see n) xs ≡ only (see n) (y ∷ ys)
      → Found (see n) d xs ⊎ (only (see n) xs ≡ []) → (k : ℕ) × (k < length xs) × (get_or xs k d ≡ y) × Before (see n) d xs k
  at_head y ys xs n t e (inr z) = absurd (nil (sym z ∙ e ∙ only-in (see n) d y ys t))
    where
      nil : [] ≡ y ∷ only (see n) ys → ⊥
      nil h = let z : ◌≡◌ {A = ℕ} 0 (suc (length (only (see n) ys))) = ap length h in omega (arith, z)
  at_head y ys xs n t e (inl r) = (
    r.0,
    r.1,
    head-is (get_or xs r.0 d) y (only (see n) (del r.0 xs)) (only (see n) ys)
        (sym (only-del (see n) d xs r.0 r.1 r.2 r.3) ∙ e ∙ only-in (see n) d y ys t),
    r.3,
  )

  -- y stands in the first list behind steps with which it shares no watch, and without it the lists are still alike
  fronted : (y : Step) (ys xs : List Step) → SeenAlike see xs (y ∷ ys)
      → (k : ℕ) × (k < length xs) × (get_or xs k d ≡ y) × ((j : ℕ) → j < k → Shares see y (get_or xs j d) → ⊥) × SeenAlike see (del k xs) ys
  fronted y ys xs h = (k, hk, is_y, free, rest)
    where
      place : (n : ℕ) → Watch n → see n y ≡ true → (k : ℕ) × (k < length xs) × (get_or xs k d ≡ y) × Before (see n) d xs k
      place n b t = at_head y ys xs n t (h n b) (look (see n) d xs)

      n : ℕ
      n = (every y).0

      at : (k : ℕ) × (k < length xs) × (get_or xs k d ≡ y) × Before (see n) d xs k
      at = place n (every y).1 (every y).2

      k : ℕ
      k = at.0

      hk : k < length xs
      hk = at.1

      is_y : get_or xs k d ≡ y
      is_y = at.2

      free : (j : ℕ) → j < k → Shares see y (get_or xs j d) → ⊥
      free j l c = go (dec_lt j other.0)
        where
          other : (i : ℕ) × (i < length xs) × (get_or xs i d ≡ y) × Before (see c.0) d xs i
          other = place c.0 c.1 c.2

          go : Dec (j < other.0) → ⊥
          go (yes a) = not-both (see c.0 (get_or xs j d)) c.3 (other.3 j a)
          go (no a) = not-both (see n (get_or xs other.0 d)) (ap (see n) other.2 ∙ (every y).2) (at.3 other.0 (omega (arith, a, l)))

      rest : SeenAlike see (del k xs) ys
      rest m b = go (which (see m y))
        where
          none : see m y ≡ true → Before (see m) d xs k
          none t j l = go (which (see m (get_or xs j d)))
            where
              go : (see m (get_or xs j d) ≡ true) ⊎ (see m (get_or xs j d) ≡ false) → see m (get_or xs j d) ≡ false
              go (inl a) = absurd (free j l (m, b, t, a))
              go (inr a) = a

          go : (see m y ≡ true) ⊎ (see m y ≡ false) → only (see m) (del k xs) ≡ only (see m) ys
          go (inl t) =
              tail-is (get_or xs k d) y (only (see m) (del k xs)) (only (see m) ys)
              (sym (only-del (see m) d xs k hk (ap (see m) is_y ∙ t) (none t)) ∙ h m b ∙ only-in (see m) d y ys t)
          go (inr t) = only-keep (see m) d xs k hk (ap (see m) is_y ∙ t) ∙ h m b ∙ only_out (see m) d y ys t

  pub lawful : (ys xs : List Step) → SeenAlike see xs ys → (p : List ℕ) × Rearranged touches d xs ys p
  lawful [] [] h = (
    [],
    record {
      second = refl;
      places = λ k b. absurd (not-suc-le-zero b);
      each = λ i b. absurd (not-suc-le-zero b);
      once = λ j k a b. absurd (not-suc-le-zero a);
      order = λ j k l b. absurd (not-suc-le-zero b);
    },
  )
  lawful [] (x ∷ xs) h = absurd (cons (sym (only-in (see (every x).0) d x xs (every x).2) ∙ h (every x).0 (every x).1))
    where
      cons : x ∷ only (see (every x).0) xs ≡ [] → ⊥
      cons e = let z : ◌≡◌ {A = ℕ} (suc (length (only (see (every x).0) xs))) 0 = ap length e in omega (arith, z)
  lawful (y ∷ ys) xs h =
      let f : (k : ℕ) × (k < length xs) × (get_or xs k d ≡ y) × ((j : ℕ) → j < k → Shares see y (get_or xs j d) → ⊥) × SeenAlike see (del k xs) ys = fronted y ys xs h in
      let r : (p : List ℕ) × Rearranged touches d (del f.0 xs) ys p = lawful ys (del f.0 xs) f.4 in (
        f.0 ∷ map (skip f.0) r.0,
        rearranged-more touches d y ys xs f.0 f.1 f.2 (λ j l c. f.3 j l (shares y (get_or xs j d) c)) r.0 r.1,
      )
