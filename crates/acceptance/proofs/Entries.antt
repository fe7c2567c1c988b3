-- A table that is the list of a rule's values, from the first on; and the digits of the 192 classes.
-- Assumes nothing.
use Prim.Native.Nat.{ℕ, zero, suc, ◌+◌, ◌<◌}
use mathlib.Core.Path.{◌≡◌, sym, ap, ◌∙◌}
use mathlib.Core.List.{List, [], ◌∷◌}
use native.Mathlib.Nat.{add-zero, zero-add, suc-add, add-suc, le_of_suc-le-suc, not-suc-le-zero}
use lib.ListN.{get_or}
use Rattle.acceptance.specs.Classes.{digit_of, class_of}

-- ---- a table of values
-- f i, f (i + 1), .., n of them
abbrev pub values : {A : Type 0} → (ℕ → A) → ℕ → ℕ → List A
values f i zero = []
values f i (suc n) = f i ∷ values f (suc i) n

from : {A : Type 0} (d : A) (f : ℕ → A) (i n k : ℕ) → k < n → get_or (values f i n) k d ≡ f (i + k)
from d f i zero k h = absurd (not-suc-le-zero h)
from d f i (suc n) zero h = ap f (sym (add-zero i))
from d f i (suc n) (suc k) h = from d f (suc i) n k (le_of_suc-le-suc h) ∙ ap f (suc-add i k ∙ sym (add-suc i k))

-- ---- the table of classes: a row for each of the 6 kinds, in it the digits of the 32 functions
abbrev pub digit_row : ℕ → List ℕ
digit_row kind = values (λ f. digit_of (class_of kind f)) 0 32

pub digit-in : (kind f : ℕ) → kind < 6 → f < 32 → get_or (get_or (values digit_row 0 6) kind []) f 0 ≡ digit_of (class_of kind f)
digit-in kind f p q =
    ap (λ (row : List ℕ). get_or row f 0) (from [] digit_row 0 6 kind p ∙ ap digit_row (zero-add kind))
    ∙ from 0 (λ g. digit_of (class_of kind g)) 0 32 f q ∙ ap (λ g. digit_of (class_of kind g)) (zero-add f)
