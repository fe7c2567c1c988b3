-- Tests and cases as lists, so that a row of a table in the paper is an item of a list here.
use Rattle.std.specs.Prelude.{ℕ, zero, suc, List, [], ◌∷◌, Bool, true, false, cond, ◌&&◌, ◌||◌, eqb}

infixl 70 ◌does◌
-- every test of the list holds
abbrev pub all_of : List Bool → Bool
all_of [] = true
all_of (t ∷ ts) = t && all_of ts

-- p holds of every number below n
abbrev pub every : ℕ → (ℕ → Bool) → Bool
every zero p = true
every (suc n) p = every n p && p n

-- x is one of the numbers
abbrev pub is_one_of : ℕ → List ℕ → Bool
is_one_of x [] = false
is_one_of x (y ∷ ys) = eqb x y || is_one_of x ys

-- a code with what it does
pub record Case (A : Type 0) : Type 0 where
  pub code : ℕ
  pub outcome : A

abbrev pub ◌does◌ : {A : Type 0} → ℕ → A → Case A
◌does◌ k o = record { code = k; outcome = o }

-- what the case of code k does; o where no case has that code
abbrev pub case_of : {A : Type 0} → ℕ → List (Case A) → A → A
case_of k [] o = o
case_of k (c ∷ cs) o = cond (eqb k c.code) c.outcome (case_of k cs o)
