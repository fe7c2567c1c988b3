-- A verdict is a list of rows: what follows a row is put into it, and `search row-then` goes down the list row by row.
use mathlib.Core.Path.{◌≡◌}
use mathlib.Core.Bool.{Bool}
use Rattle.step.specs.declared.Refusal.{Refusal}
use Rattle.step.specs.Verdict.{unless}
use Rattle.step.specs.Results.{Verdict}

-- what follows a row may be written out
pub row-then : (t : Bool) (q : Refusal) (r s v : Verdict) → r ≡ unless t q s → s ≡ v → r ≡ unless t q v
row-then t q r s v e f = cc
