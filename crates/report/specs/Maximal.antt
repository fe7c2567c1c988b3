-- What the maximal runs of stations are, said apart from how `runs` finds them: `runs` gives them, and no other runs are (`maximal`, `maximal-only` in `proofs/RunLaws.antt`).
use Rattle.std.specs.Prelude.{ℕ, suc, ◌-◌, ◌≤◌, ◌≡◌, List, [], ◌∷◌, ◌++◌, replicate, Option}
use Rattle.report.specs.Report.{Run}
use Rattle.report.specs.declared.Parting.{Parting}

-- the next run, if there is one, does not part as x
abbrev pub Otherwise : Option Parting → List Run → Type 0
Otherwise x [] = Unit
Otherwise x (r ∷ rs) = x ≡ r.parting → ⊥

-- The runs cover the stations k, k + 1, .. that part as xs says, one run after the other: all stations of a run part as it says, and the next run parts otherwise.
abbrev pub Maximal : ℕ → List (Option Parting) → List Run → Type 0
Maximal k xs [] = xs ≡ []
Maximal k xs (r ∷ rs) =
    (r.low ≡ k) × (k ≤ r.high) × Otherwise r.parting rs
    × ((ys : List (Option Parting)) × (xs ≡ replicate (suc r.high - k) r.parting ++ ys) × Maximal (suc r.high) ys rs)
