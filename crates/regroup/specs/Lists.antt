-- Lists of steps: what a list leaves and gives back, what a rearrangement of a list is, the law of one step, and when two lists end alike. The claim
-- that joins them, `Whole.regroup`, holds for any steps that obey the law. (RULES 5.7 to 5.12)
-- Of the steps four things are given:
--   does m s     the memory that step s leaves, from the memory m
--   gives m s    what it gives back: its whole answer, and its buffer
--   fit m        the memory m is fit
--   touches s n  step s touches station n. A refused step touches none. That no memory is asked for says that only a step's fields and its buffer
--                decide whether it is refused.
use Rattle.std.specs.Prelude.{◌≡◌, Bool, true, List, [], ◌∷◌, map, ℕ, ◌≤◌, ◌<◌, length, get_or}
use Rattle.regroup.specs.Local.{Local}

-- the memory that a list of steps leaves: the first step gets m, each later one what the step before left
abbrev pub run : {Step : Type 0} → (List ℕ → Step → List ℕ) → List ℕ → List Step → List ℕ
run does m [] = m
run does m (s ∷ ss) = run does (does m s) ss

-- what each step of the list gives back, in the list's order
abbrev pub outs : {Step Out : Type 0} → (List ℕ → Step → List ℕ) → (List ℕ → Step → Out) → List ℕ → List Step → List Out
outs does gives m [] = []
outs does gives m (s ∷ ss) = gives m s ∷ outs does gives (does m s) ss

-- the two steps touch a station in common
abbrev pub Common : {Step : Type 0} → (Step → ℕ → Bool) → Step → Step → Type 0
Common touches s t = (n : ℕ) × (1 ≤ n) × (n ≤ 23) × (touches s n ≡ true) × (touches t n ≡ true)

-- what stands in the list at the places p, in their order (`d` stands past the list's end)
abbrev pub arranged : {A : Type 0} → A → List A → List ℕ → List A
arranged d l p = map (λ (i : ℕ). get_or l i d) p

-- ys is a rearrangement of xs that keeps the order of any two steps that touch a station in common. p says which: step k of ys is the step at place
-- p_k of xs. So steps are told apart by their places in the first list, and two equal steps are two.
pub record Rearranged {Step : Type 0} (touches : Step → ℕ → Bool) (d : Step) (xs ys : List Step) (p : List ℕ) : Type 0 where
  -- the steps of ys are steps of xs, with the same fields and the same buffer contents handed in
  pub second : ys ≡ arranged d xs p
  -- each from a place of xs
  pub places : (k : ℕ) → k < length p → get_or p k 0 < length xs
  -- each step of xs is among them
  pub each : (i : ℕ) → i < length xs → (k : ℕ) × (k < length p) × (get_or p k 0 ≡ i)
  -- and only once
  pub once : (j k : ℕ) → j < length p → k < length p → get_or p j 0 ≡ get_or p k 0 → j ≡ k
  -- of two steps that touch a station in common, the one that is first in ys was first in xs
  pub order : (j k : ℕ) → j < k → k < length p → Common touches (get_or ys j d) (get_or ys k d) → get_or p j 0 < get_or p k 0

-- One law for all steps: a step from a fit memory changes and reads only the blocks that it touches, and I; the Station Number Register only if it touches all 23
pub record Law {Step Out : Type 0} (does : List ℕ → Step → List ℕ) (gives : List ℕ → Step → Out)
    (fit : List ℕ → Type 0) (touches : Step → ℕ → Bool) : Type 0 where
  -- a fit memory has 768 words
  pub size : (m : List ℕ) → fit m → length m ≡ 768
  -- every step keeps to the stations that it touches
  pub local : (s : Step) → Local fit (touches s) (λ (m : List ℕ). does m s) (λ (m : List ℕ). gives m s)

-- The lists xs and ys, run from the memory m, end alike: they leave the same 768 words, and what step k of ys gives back is what the step at place
-- p_k of xs gave back. (`o` stands past the end: no place of a rearrangement lies there.)
abbrev pub Alike : {Step Out : Type 0} → (List ℕ → Step → List ℕ) → (List ℕ → Step → Out)
    → List ℕ → List Step → List Step → List ℕ → Type 0
Alike {Out = Out} does gives m xs ys p =
    (run does m ys ≡ run does m xs)
    × ((o : Out) → outs does gives m ys ≡ arranged o (outs does gives m xs) p)
