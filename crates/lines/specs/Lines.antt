-- The lines of a file (RULES 7.5, 7.8).
use Rattle.std.specs.Prelude.{ℕ, ◌≤◌, ◌<◌, ◌≡◌, Bool, false, cond, ◌||◌, List, [], ◌∷◌, ◌++◌, eqb, length, get_or, take}

-- LF ends a line; the last may lack it. `begun` is what was read of the line so far
abbrev pub last_line : (begun : List ℕ) → List (List ℕ)
last_line [] = []
last_line (b ∷ begun) = (b ∷ begun) ∷ []

abbrev pub cut : (begun : List ℕ) → List ℕ → List (List ℕ)
cut begun [] = last_line begun
cut begun (b ∷ file) = cond (eqb b 10) (begun ∷ cut [] file) (cut (begun ++ (b ∷ [])) file)

-- the lines of a file; those past 99,999 are not read
unfoldable pub lines_of : List ℕ → List (List ℕ)
lines_of file = take 99999 (cut [] file)

-- none of the bytes is LF
abbrev pub NoLf : List ℕ → Type 0
NoLf l = (k : ℕ) → k < length l → get_or l k 0 ≡ 10 → ⊥

-- a byte of them is LF
abbrev pub has_lf : List ℕ → Bool
has_lf [] = false
has_lf (b ∷ t) = eqb b 10 || has_lf t

-- r is the index of the first LF from index f on, or the length
pub record NextLf (l : List ℕ) (f r : ℕ) : Type 0 where
  pub from : f ≤ r
  pub within : r ≤ length l
  pub before : (k : ℕ) → k < r → f ≤ k → get_or l k 0 ≡ 10 → ⊥
  pub there : r < length l → get_or l r 0 ≡ 10
