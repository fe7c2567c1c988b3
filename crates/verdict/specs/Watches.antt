-- The watches over a list of steps, and what each sees of it.
use Rattle.std.specs.Prelude.{Bool, cond, List, [], ◌∷◌, ℕ, ◌+◌, ◌-◌, ◌≤◌, leb, eqb}
use Rattle.step.specs.Refusals.{refusals}

-- the elements for which f holds, in order
abbrev pub only : {A : Type 0} → (A → Bool) → List A → List A
only f [] = []
only f (x ∷ xs) = cond (f x) (x ∷ only f xs) (only f xs)

-- watch k from 1 to 23 is station k, and watch 23 + r is the refusal number r
abbrev pub last_watch : ℕ
last_watch = 23 + refusals

abbrev pub Watch : ℕ → Type 0
Watch k = (1 ≤ k) × (k ≤ last_watch)

-- a station sees the steps that touch it, and a refusal number those that are refused with it
unfoldable pub sees : {Step : Type 0} → (Step → ℕ → Bool) → (Step → ℕ) → ℕ → Step → Bool
sees touches refusal k s = cond (leb k 23) (touches s k) (eqb (refusal s) (k - 23))
