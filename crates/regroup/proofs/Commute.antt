-- Two steps with no station in common may change places, and so a step moves to the front of a list past steps with which it has none in common.
-- Why: what the one touches, the other neither changes nor reads. Both may read I, but it changes only where one of them touches all 23, and then the
-- other touches none and does nothing.
-- Assumes nothing.
use mathlib.Core.Path.{◌≡◌, refl, sym, ap, ◌∙◌}
use mathlib.Core.Bool.{Bool, true, false}
use mathlib.Core.Logic.{◌⊎◌, inl, inr}
use mathlib.Core.List.{List, [], ◌∷◌}
use Prim.Native.Nat.{ℕ, zero, suc, ◌≤◌, ◌<◌}
use native.Mathlib.Nat.{not-suc-le-zero, le_of_suc-le-suc}
use native.Mathlib.Omega.{arith}
use lib.ListN.{length, get_or}
use Rattle.blocks.specs.Blocks.{Agree}
use Rattle.regroup.specs.Lists.{run, outs, Common, Law}
use Rattle.blocks.proofs.Blocks.{blocks-ext}
use Rattle.regroup.proofs.Stations.{which, Outside, Within, untouched}
use Rattle.regroup.proofs.Skip.{del, skip}

-- step x, which stands at place k of ys, may as well have been the first: the same memory is left, x gives back what it gives as the first, and each
-- other step what it gives in the list without x that follows it
abbrev pub Moved : {Step Out : Type 0} → (List ℕ → Step → List ℕ) → (List ℕ → Step → Out) → Out → Step → List Step → ℕ → List ℕ → Type 0
Moved does gives o x ys k m =
    (run does m ys ≡ run does (does m x) (del k ys))
    × (get_or (outs does gives m ys) k o ≡ gives m x)
    × ((j : ℕ) → get_or (outs does gives m ys) (skip k j) o ≡ get_or (outs does gives (does m x) (del k ys)) j o)

module _ {Step Out : Type 0} (does : List ℕ → Step → List ℕ) (gives : List ℕ → Step → Out) (fit : List ℕ → Type 0) (touches : Step → ℕ → Bool)
    (law : Law does gives fit touches) where
  -- of two steps with no station in common, the second does not touch what the first touches
  apart : (s t : Step) → (Common touches s t → ⊥) → (n : ℕ) → 1 ≤ n → n ≤ 23 → touches s n ≡ true → touches t n ≡ false
  apart s t nc n a b h = go (which (touches t n))
    where
      go : (touches t n ≡ true) ⊎ (touches t n ≡ false) → touches t n ≡ false
      go (inl k) = absurd (nc (n, a, b, h, k))
      go (inr k) = k

  -- nor has the second one in common with the first
  flip : (s t : Step) → (Common touches s t → ⊥) → Common touches t s → ⊥
  flip s t nc c = nc (c.0, c.1, c.2, c.4, c.3)

  -- a step that touches none changes nothing
  still : (m : List ℕ) (t : Step) → fit m → ((n : ℕ) → 1 ≤ n → n ≤ 23 → touches t n ≡ false) → does m t ≡ m
  still m t f none = blocks-ext (does m t) m (law.size (does m t) ((law.local t).keeps m f)) (law.size m f) each
    where
      each : (n : ℕ) → n < 24 → Agree (does m t) m n
      each zero h = ((law.local t).frame m f 1 (omega arith) (omega arith) (none 1 (omega arith) (omega arith))).1
      each (suc n) h = ((law.local t).frame m f (suc n) (omega arith) (omega arith) (none (suc n) (omega arith) (omega arith))).0

  -- a step gives the same, and leaves the same in what it touches, after a step with which it has no station in common
  half : (m : List ℕ) (s t : Step) → fit m → (Common touches s t → ⊥)
      → (gives (does m t) s ≡ gives m s) × ((n : ℕ) → 1 ≤ n → n ≤ 23 → touches s n ≡ true → Agree (does (does m t) s) (does m s) n)
  half m s t f nc =
      (law.local s).reads (does m t) m ((law.local t).keeps m f) f (
        λ n a b h. let x = (law.local t).frame m f n a b (apart s t nc n a b h) in (x.0, x.1 0 (omega arith)),
        λ all. ((law.local t).frame m f 1 (omega arith) (omega arith) (apart s t nc 1 (omega arith) (omega arith) (all 1 (omega arith) (omega arith)))).1,
      )

  -- the two leave the same memory in either order
  pub commute : (m : List ℕ) (s t : Step) → fit m → (Common touches s t → ⊥) → does (does m s) t ≡ does (does m t) s
  commute m s t f nc = go (untouched (touches s) 23) (untouched (touches t) 23)
    where
      fs : fit (does m s)
      fs = (law.local s).keeps m f

      ft : fit (does m t)
      ft = (law.local t).keeps m f

      -- a station's block: one of the two touches it, or neither
      station : (n : ℕ) → 1 ≤ n → n ≤ 23 → (touches s n ≡ true) ⊎ (touches s n ≡ false) → (touches t n ≡ true) ⊎ (touches t n ≡ false)
          → Agree (does (does m s) t) (does (does m t) s) n
      station n a b (inl hs) ht w i =
          ((law.local t).frame (does m s) fs n a b (apart s t nc n a b hs)).0 w i ∙ sym ((half m s t f nc).1 n a b hs w i)
      station n a b (inr hs) (inl ht) w i =
          (half m t s f (flip s t nc)).1 n a b ht w i ∙ sym (((law.local s).frame (does m t) ft n a b hs).0 w i)
      station n a b (inr hs) (inr ht) w i =
          ((law.local t).frame (does m s) fs n a b ht).0 w i ∙ ((law.local s).frame m f n a b hs).0 w i
          ∙ sym (((law.local t).frame m f n a b ht).0 w i) ∙ sym (((law.local s).frame (does m t) ft n a b hs).0 w i)

      -- where one of the two touches all 23, the other does nothing; where neither does, block 0 stays as it was
      go : Outside (touches s) 23 ⊎ Within (touches s) 23 → Outside (touches t) 23 ⊎ Within (touches t) 23 → does (does m s) t ≡ does (does m t) s
      go (inr all) b =
          let none : (n : ℕ) → 1 ≤ n → n ≤ 23 → touches t n ≡ false = λ n x y. apart s t nc n x y (all n x y) in
          still (does m s) t fs none ∙ ap (λ (k : List ℕ). does k s) (sym (still m t f none))
      go (inl a) (inr all) =
          let none : (n : ℕ) → 1 ≤ n → n ≤ 23 → touches s n ≡ false = λ n x y. apart t s (flip s t nc) n x y (all n x y) in
          ap (λ (k : List ℕ). does k t) (still m s f none) ∙ sym (still (does m t) s ft none)
      go (inl a) (inl b) =
          blocks-ext (does (does m s) t) (does (does m t) s)
          (law.size _ ((law.local t).keeps (does m s) fs)) (law.size _ ((law.local s).keeps (does m t) ft)) each
        where
          each : (n : ℕ) → n < 24 → Agree (does (does m s) t) (does (does m t) s) n
          each zero h = λ w i.
              ((law.local t).frame (does m s) fs b.0 b.1 b.2 b.3).1 w i
              ∙ ((law.local s).frame m f a.0 a.1 a.2 a.3).1 w i
              ∙ sym (((law.local t).frame m f b.0 b.1 b.2 b.3).1 w i)
              ∙ sym (((law.local s).frame (does m t) ft a.0 a.1 a.2 a.3).1 w i)
          each (suc n) h = station (suc n) (omega arith) (omega arith) (which (touches s (suc n))) (which (touches t (suc n)))

  -- past one step more
  move-more : (o : Out) (x y : Step) (ys : List Step) (k : ℕ) (m : List ℕ) → fit m → (Common touches y x → ⊥)
      → Moved does gives o x ys k (does m y) → Moved does gives o x (y ∷ ys) (suc k) m
  move-more o x y ys k m f ny ih =
      (ih.0 ∙ ap (λ (l : List ℕ). run does l (del k ys)) swap, ih.1 ∙ (half m x y f (flip y x ny)).0, there)
    where
      swap : does (does m y) x ≡ does (does m x) y
      swap = commute m y x f ny

      there : (j : ℕ) → get_or (outs does gives m (y ∷ ys)) (skip (suc k) j) o ≡ get_or (outs does gives (does m x) (y ∷ del k ys)) j o
      there zero = sym (half m y x f ny).0
      there (suc j) = ih.2 j ∙ ap (λ (l : List ℕ). get_or (outs does gives l (del k ys)) j o) swap

  -- a step that has no station in common with those before it moves to the front
  pub move : (d : Step) (o : Out) (ys : List Step) (k : ℕ) (m : List ℕ) → fit m → k < length ys
      → ((j : ℕ) → j < k → Common touches (get_or ys j d) (get_or ys k d) → ⊥) → Moved does gives o (get_or ys k d) ys k m
  move d o [] k m f h nc = absurd (not-suc-le-zero h)
  move d o (y ∷ ys) zero m f h nc = (refl, refl, λ j. refl)
  move d o (y ∷ ys) (suc k) m f h nc =
      move-more o (get_or ys k d) y ys k m f (nc zero (omega arith))
      (move d o ys k (does m y) ((law.local y).keeps m f) (le_of_suc-le-suc h) (λ j l. nc (suc j) (omega arith)))
