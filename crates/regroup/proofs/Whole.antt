-- The claim about two whole lists: a rearrangement that keeps the order of steps that touch a station in common leaves the same memory, and each
-- step gives back the same.
-- The proof goes by the first list. Its first step stands somewhere in the second, behind steps with which it has no station in common: so it may as
-- well have been the first there (`Commute.move`), and the rest of the second list is a rearrangement of the rest of the first.
-- Assumes nothing.
use mathlib.Core.Path.{◌≡◌, refl, sym, ap, ◌∙◌}
use mathlib.Core.Bool.{Bool}
use mathlib.Core.List.{List, [], ◌∷◌, map}
use Prim.Native.Nat.{ℕ, zero, suc, pred, ◌<◌, suc-le-suc, zero-le}
use native.Mathlib.Nat.{not-suc-le-zero, le_of_suc-le-suc}
use native.Mathlib.Decide.{ℕ_discrete}
use native.Mathlib.Omega.{arith}
use lib.ListN.{length, get_or, length-map}
use lib.Seq.{ext_get_or}
use Rattle.regroup.specs.Lists.{run, outs, Common, arranged, Law, Rearranged, Alike}
use Rattle.regroup.proofs.Skip.{del, skip, skip-mono, skip-inj, skip-ne, skip-le, skip-hit, length-del, get_or-del}
use Rattle.regroup.proofs.Commute.{Moved, move}

-- ---- lists of steps

-- as many things are given back as there are steps
pub length-outs : {Step Out : Type 0} (does : List ℕ → Step → List ℕ) (gives : List ℕ → Step → Out) (m : List ℕ) (xs : List Step)
    → length (outs does gives m xs) ≡ length xs
length-outs does gives m [] = refl
length-outs does gives m (x ∷ xs) = ap suc (length-outs does gives (does m x) xs)

-- an element of a mapped list, whatever stands past the two ends
pub get_or-map-in : {A B : Type 0} (f : A → B) (l : List A) (k : ℕ) (a : A) (b : B) → k < length l → get_or (map f l) k b ≡ f (get_or l k a)
get_or-map-in f [] k a b h = absurd (not-suc-le-zero h)
get_or-map-in f (x ∷ xs) zero a b h = refl
get_or-map-in f (x ∷ xs) (suc k) a b h = get_or-map-in f xs k a b (le_of_suc-le-suc h)

module _ {Step : Type 0} (touches : Step → ℕ → Bool) (d : Step) (xs ys : List Step) (p : List ℕ) (r : Rearranged touches d xs ys p) where
  -- the second list has a step for each place of p
  pub as_long : length ys ≡ length p
  as_long = ap length r.second ∙ length-map p (λ (i : ℕ). get_or xs i d)

  -- and at place k the one at place p_k of the first
  pub step-at : (k : ℕ) → k < length p → get_or ys k d ≡ get_or xs (get_or p k 0) d
  step-at k h = ap (λ (l : List Step). get_or l k d) r.second ∙ get_or-map-in (λ (i : ℕ). get_or xs i d) p k 0 d h

-- `Rearranged`, with the places given by a function: so a place can be left out without a new list of places
pub record Placed {Step : Type 0} (touches : Step → ℕ → Bool) (d : Step) (xs ys : List Step) (p : ℕ → ℕ) : Type 0 where
  pub same : (k : ℕ) → k < length ys → get_or ys k d ≡ get_or xs (p k) d
  pub places : (k : ℕ) → k < length ys → p k < length xs
  pub each : (i : ℕ) → i < length xs → (k : ℕ) × (k < length ys) × (p k ≡ i)
  pub once : (j k : ℕ) → j < length ys → k < length ys → p j ≡ p k → j ≡ k
  pub order : (j k : ℕ) → j < k → k < length ys → Common touches (get_or ys j d) (get_or ys k d) → p j < p k

pub placed : {Step : Type 0} (touches : Step → ℕ → Bool) (d : Step) (xs ys : List Step) (p : List ℕ)
    → Rearranged touches d xs ys p → Placed touches d xs ys (λ (k : ℕ). get_or p k 0)
placed touches d xs ys p r =
    let l : length ys ≡ length p = as_long touches d xs ys p r in
    record {
      same = λ k h. step-at touches d xs ys p r k (omega arith);
      places = λ k h. r.places k (omega arith);
      each = λ i h. let q : (k : ℕ) × (k < length p) × (get_or p k 0 ≡ i) = r.each i h in (q.0, omega (arith, q.1, l), q.2);
      once = λ j k a b. r.once j k (omega arith) (omega arith);
      order = λ j k a b. r.order j k a (omega arith);
    }

-- ---- one step less

positive : (n : ℕ) → (n ≡ 0 → ⊥) → suc (pred n) ≡ n
positive n h = omega arith

-- the first step x of the first list stands at place k of the second
module _ {Step : Type 0} (touches : Step → ℕ → Bool) (d x : Step) (xs ys : List Step) (p : ℕ → ℕ) (r : Placed touches d (x ∷ xs) ys p)
    (k : ℕ) (hk : k < length ys) (pk : p k ≡ 0) where
  long : suc (length (del k ys)) ≡ length ys
  long = length-del k ys hk

  in-long : (j : ℕ) → j < length (del k ys) → skip k j < length ys
  in-long j h = omega (arith, skip-le k j, long)

  not_first : (j : ℕ) → j < length (del k ys) → p (skip k j) ≡ 0 → ⊥
  not_first j h e = skip-ne k j (r.once (skip k j) k (in-long j h) hk (e ∙ sym pk))

  up : (j : ℕ) → j < length (del k ys) → suc (pred (p (skip k j))) ≡ p (skip k j)
  up j h = positive (p (skip k j)) (not_first j h)

  -- a place of the first list's rest, in the second's
  found : (i : ℕ) → (q : (j : ℕ) × (j < length ys) × (p j ≡ suc i)) → (j : ℕ) × (j < length (del k ys)) × (pred (p (skip k j)) ≡ i)
  found i q = (hit.0, omega (arith, hit.1, long), ap (λ (n : ℕ). pred (p n)) hit.2 ∙ ap pred q.2)
    where
      other : q.0 ≡ k → ⊥
      other e = let z : ◌≡◌ {A = ℕ} 0 (suc i) = sym pk ∙ ap p (sym e) ∙ q.2 in omega arith

      hit : (j : ℕ) × (suc j < length ys) × (skip k j ≡ q.0)
      hit = skip-hit k q.0 (length ys) hk q.1 other

  -- the rest of the second list is a rearrangement of the rest of the first
  pub rest : Placed touches d xs (del k ys) (λ (j : ℕ). pred (p (skip k j)))
  rest = record {
    same = λ j h. get_or-del k ys j d ∙ r.same (skip k j) (in-long j h) ∙ ap (λ (i : ℕ). get_or (x ∷ xs) i d) (sym (up j h));
    places = λ j h. omega (arith, r.places (skip k j) (in-long j h), up j h);
    each = λ i h. found i (r.each (suc i) (suc-le-suc h));
    once = λ i j a b e. skip-inj k i j (r.once (skip k i) (skip k j) (in-long i a) (in-long j b) (sym (up i a) ∙ ap suc e ∙ up j b));
    order = λ i j l b c.
        let a : i < length (del k ys) = omega arith in
        omega (arith, up i a, up j b, r.order (skip k i) (skip k j) (skip-mono k i j l) (in-long j b) (simp get_or-del at c));
  }

-- ---- the whole lists

module _ {Step Out : Type 0} (does : List ℕ → Step → List ℕ) (gives : List ℕ → Step → Out) (fit : List ℕ → Type 0) (touches : Step → ℕ → Bool)
    (law : Law does gives fit touches) (d : Step) (o : Out) where
  -- `Alike`, with the places given by a function
  abbrev Same : List Step → List Step → (ℕ → ℕ) → List ℕ → Type 0
  Same xs ys p m =
      (run does m ys ≡ run does m xs)
      × ((k : ℕ) → k < length ys → get_or (outs does gives m ys) k o ≡ get_or (outs does gives m xs) (p k) o)

  -- with the first step of the first list at place k of the second, and the claim known of the two rests
  more : (x : Step) (xs ys : List Step) (p : ℕ → ℕ) (m : List ℕ) → fit m → (r : Placed touches d (x ∷ xs) ys p)
      → (k : ℕ) (hk : k < length ys) (pk : p k ≡ 0)
      → Same xs (del k ys) (λ (j : ℕ). pred (p (skip k j))) (does m x) → Same (x ∷ xs) ys p m
  more x xs ys p m f r k hk pk ih = (moved.0 ∙ ih.0, λ i h. place i h (ℕ_discrete i k))
    where
      is_x : get_or ys k d ≡ x
      is_x = r.same k hk ∙ ap (λ (i : ℕ). get_or (x ∷ xs) i d) pk

      moved : Moved does gives o x ys k m
      moved = rw is_x at (move does gives fit touches law d o ys k m f hk (λ j l c. omega (arith, pk, r.order j k l hk c)))

      place : (i : ℕ) → i < length ys → Dec (i ≡ k) → get_or (outs does gives m ys) i o ≡ get_or (outs does gives m (x ∷ xs)) (p i) o
      place i h (yes e) = rw (e, pk) moved.1
      place i h (no e) =
          let hit : (j : ℕ) × (suc j < length ys) × (skip k j ≡ i) = skip-hit k i (length ys) hk h e in
          let j : ℕ = hit.0 in
          let hj : j < length (del k ys) = omega (arith, hit.1, length-del k ys hk) in
          ap (λ (n : ℕ). get_or (outs does gives m ys) n o) (sym hit.2)
          ∙ moved.2 j
          ∙ ih.1 j hj
          ∙ ap (λ (n : ℕ). get_or (outs does gives m (x ∷ xs)) n o) (up touches d x xs ys p r k hk pk j hj ∙ ap p hit.2)

  whole : (xs ys : List Step) (p : ℕ → ℕ) (m : List ℕ) → fit m → Placed touches d xs ys p → Same xs ys p m
  whole [] [] p m f r = (refl, λ k h. absurd (not-suc-le-zero h))
  whole [] (y ∷ ys) p m f r = absurd (not-suc-le-zero (r.places zero (suc-le-suc zero-le)))
  whole (x ∷ xs) ys p m f r =
      let first : (k : ℕ) × (k < length ys) × (p k ≡ 0) = r.each zero (suc-le-suc zero-le) in
      more x xs ys p m f r first.0 first.1 first.2
      (whole xs (del first.0 ys) (λ (j : ℕ). pred (p (skip first.0 j))) (does m x) ((law.local x).keeps m f)
      (rest touches d x xs ys p r first.0 first.1 first.2))

module _ {Step Out : Type 0} (does : List ℕ → Step → List ℕ) (gives : List ℕ → Step → Out) (fit : List ℕ → Type 0) (touches : Step → ℕ → Bool)
    (law : Law does gives fit touches) (d : Step) where
  -- what step k of the second list gives back is what the step at place p_k of the first gave back
  pub regroup-at : (m : List ℕ) → fit m → (xs ys : List Step) (p : List ℕ) → Rearranged touches d xs ys p
      → (o : Out) (k : ℕ) → k < length p → get_or (outs does gives m ys) k o ≡ get_or (outs does gives m xs) (get_or p k 0) o
  regroup-at m f xs ys p r o k h =
      (whole does gives fit touches law d o xs ys (λ (i : ℕ). get_or p i 0) m f (placed touches d xs ys p r)).1 k
      (omega (arith, as_long touches d xs ys p r))

  -- THE CLAIM: from a fit memory, any list and any rearrangement of it that keeps the order of steps that touch a station in common end alike
  pub regroup : (m : List ℕ) → fit m → (xs ys : List Step) (p : List ℕ) → Rearranged touches d xs ys p → Alike does gives m xs ys p
  regroup m f xs ys p r = (
    (whole does gives fit touches law d (gives m d) xs ys (λ (k : ℕ). get_or p k 0) m f (placed touches d xs ys p r)).0,
    λ o.
        let n : length (outs does gives m ys) ≡ length ys = length-outs does gives m ys in
        let l : length ys ≡ length p = as_long touches d xs ys p r in
        let first : List Out = outs does gives m xs in
        ext_get_or o (outs does gives m ys) (arranged o first p)
        (n ∙ l ∙ sym (length-map p (λ (i : ℕ). get_or first i o)))
        (λ k h.
        let b : k < length p = omega arith in
        regroup-at m f xs ys p r o k b ∙ sym (get_or-map-in (λ (i : ℕ). get_or first i o) p k 0 o b)),
  )
