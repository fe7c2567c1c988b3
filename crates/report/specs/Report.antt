-- What the program prints of two lists of steps: one line for each maximal run of neighbouring stations that part alike, one for each refusal number that parts, and
-- last the verdict. The lines that it names are those of the two files, from 1 on, since each line of a file is a step of its list; 0 stands for none.
-- Of two lists there is one report only: `sole-report` in `proofs/SoleReport.antt`.
use Rattle.std.specs.Prelude.{ℕ, suc, ◌+◌, ◌≡◌, Bool, true, false, cond, ◌&&◌, List, [], ◌∷◌, ◌++◌, ltb, eqb, length, Option, None, Some}
use Rattle.text.specs.Text.{bytes, field}
use Rattle.text.specs.Paste.{Put}
use Rattle.step.specs.Refusals.{refusals}
use Rattle.verdict.specs.Counted.{count}
use Rattle.verdict.specs.Compared.{Watched, Stands, Compared}
use Rattle.verdict.specs.declared.Parted.{Parted}
use Rattle.report.specs.declared.Parting.{Parting}

-- ---- where a watch parts: nowhere, or at three lines, the one of the first list that was due, the one of the second that stands there, and the one where the due
-- step stands instead
abbrev pub at_lines : (first second stands : ℕ) → Option Parting
at_lines f s t = Some (record { first = f; second = s; stands = t })

-- the line at a place of a list of so many steps
abbrev pub line_of : (place many : ℕ) → ℕ
line_of place many = cond (ltb place many) (place + 1) 0

-- x is the parting at place i of the first list and place j of the second
abbrev pub PartingAt : (us ws : List ℕ) (i j : ℕ) → Option Parting → Type 0
PartingAt us ws i j x = (s : ℕ) × Stands us i ws j s × (x ≡ at_lines (line_of i (count us)) (line_of j (count ws)) (line_of s (count ws)))

-- x is the parting that a comparison tells
abbrev pub PartingOf : (us ws : List ℕ) → Option Parted → Option Parting → Type 0
PartingOf us ws None x = x ≡ None
PartingOf us ws (Some d) x = PartingAt us ws d.first d.second x

-- watch k parts as x says
abbrev pub PartsAs : (us ws : List ℕ) → ℕ → Option Parting → Type 0
PartsAs us ws k x = (v : Option Parted) × Watched us ws k v × PartingOf us ws v x

-- the watches k, k + 1, .. part as xs says, in turn
unfoldable pub EachParts : (us ws : List ℕ) → ℕ → List (Option Parting) → Type 0
EachParts us ws k [] = Unit
EachParts us ws k (x ∷ xs) = PartsAs us ws k x × EachParts us ws (suc k) xs

-- ---- runs
-- two stations part alike: both nowhere, or at the same three lines
unfoldable pub alike : Option Parting → Option Parting → Bool
alike None None = true
alike None (Some q) = false
alike (Some p) None = false
alike (Some p) (Some q) = eqb p.first q.first && (eqb p.second q.second && eqb p.stands q.stands)

-- the stations from low to high, which all part alike
pub record Run : Type 0 where
  pub low : ℕ
  pub high : ℕ
  pub parting : Option Parting

abbrev pub run : ℕ → ℕ → Option Parting → Run
run a b x = record { low = a; high = b; parting = x }

-- station k before the runs of the stations from k + 1 on: it goes into the first of them where it parts as that does, and is a run of its own where not
unfoldable pub joined : ℕ → Option Parting → List Run → List Run
joined k x [] = run k k x ∷ []
joined k x (r ∷ rs) = cond (alike x r.parting) (run k r.high x ∷ rs) (run k k x ∷ r ∷ rs)

-- THE MAXIMAL RUNS of the stations k, k + 1, .. that part as xs says (what that is: `Maximal.antt`)
unfoldable pub runs : ℕ → List (Option Parting) → List Run
runs k [] = []
runs k (x ∷ xs) = joined k x (runs (suc k) xs)

-- ---- the text
-- the stations from a to b, by name
unfoldable pub names_text : ℕ → ℕ → List ℕ
names_text a b = field "n=" a ++ cond (eqb a b) [] (field " to=" b)

-- the three lines at which they part
unfoldable pub numbers_text : (first second stands : ℕ) → List ℕ
numbers_text first second stands = field " first=" first ++ field " second=" second ++ field " stands=" stands ++ bytes "\n"

-- the line of those so named that part as x; none where they part nowhere
abbrev pub line_text : List ℕ → Option Parting → List ℕ
line_text names None = []
line_text names (Some p) = names ++ numbers_text p.first p.second p.stands

-- the line of a run, and the lines of runs
abbrev pub run_text : Run → List ℕ
run_text r = line_text (names_text r.low r.high) r.parting

unfoldable pub runs_text : List Run → List ℕ
runs_text [] = []
runs_text (r ∷ rs) = run_text r ++ runs_text rs

-- the lines of the refusal numbers q, q + 1, ..
unfoldable pub refusals_text : ℕ → List (Option Parting) → List ℕ
refusals_text q [] = []
refusals_text q (x ∷ xs) = line_text (field "refused=" q) x ++ refusals_text (suc q) xs

-- the last line
abbrev pub verdict_text : Option Parted → List ℕ
verdict_text None = bytes "regrouped=1\n"
verdict_text (Some d) = bytes "regrouped=0\n"

-- all that is printed: watches 1 to 23 are the stations, and from 24 on the refusal numbers
pub record Report (us ws text : List ℕ) : Type 0 where
  pub stations : List (Option Parting)
  pub refused : List (Option Parting)
  pub verdict : Option Parted
  pub all-stations : (length stations ≡ 23) × EachParts us ws 1 stations
  pub all-refused : (length refused ≡ refusals) × EachParts us ws 24 refused
  pub compared : Compared us ws verdict
  pub printed : text ≡ runs_text (runs 1 stations) ++ refusals_text 1 refused ++ verdict_text verdict

-- it was put at the start of a buffer
pub record PutReport (us ws before after : List ℕ) (next : ℕ) : Type 0 where
  pub text : List ℕ
  pub report : Report us ws text
  pub put : Put before 0 text after next
