-- A list of steps lent as words, six words a step, each step with a buffer of 512 words: what each step counts as where two lists are compared.
use Rattle.std.specs.Prelude.{◌≡◌, Bool, true, false, List, [], ◌∷◌, ◌++◌, ℕ, zero, suc, ◌/◌, length, replicate, Ok, Err}
use Rattle.step.specs.Refusals.{verdict_number}
use Rattle.step.specs.Touches.{touches_of}
use Rattle.step.specs.Verdict.{verdict_of}
use Rattle.step.specs.declared.Refusal.TheVariants.{Garbled}
use Rattle.lists.specs.Words.{reading_of, part}
use Rattle.verdict.specs.Watches.{only, sees}
use Rattle.step.specs.Results.{Reading, Verdict}

-- A buffer of 512 words of 0. Of those as long it is judged best (`judged-zeros` of `step`): what is refused with it is refused with any, with the same
-- number. So a put of lent words counts as one whose words are good.
unfoldable pub lent : List ℕ
lent = replicate 512 0

-- the same of a slice that is lent
abbrev pub Zeros : List ℕ → Type 0
Zeros b = b ≡ replicate 512 0

-- a step with its verdict
abbrev pub counted_as : Verdict → Reading → Reading
counted_as (Ok _) r = r
counted_as (Err q) r = Err q

-- A step counts as itself where it may be done, and as its refusal where it is refused: then nothing of it but the number comes back, and it changes
-- nothing.
unfoldable pub counted : Reading → Reading
counted r = counted_as (verdict_of r lent) r

-- the stations that a step touches; a refused step touches none
abbrev pub touches_lent : Reading → ℕ → Bool
touches_lent r k = touches_of r lent k

-- the number with which a step is refused, 0 where it is not
abbrev pub refusal_of : Reading → ℕ
refusal_of r = verdict_number (verdict_of r lent)

-- watch k sees the step
abbrev pub see : ℕ → Reading → Bool
see k r = sees touches_lent refusal_of k r

-- the number of whole steps; words past the last are not looked at
abbrev pub count : List ℕ → ℕ
count ws = length ws / 6

-- what step k of the list counts as
abbrev pub step_at : List ℕ → ℕ → Reading
step_at ws k = counted (reading_of (part 6 ws k))

-- the first k of a row
unfoldable pub firsts : {A : Type 0} → (ℕ → A) → ℕ → List A
firsts f zero = []
firsts f (suc k) = firsts f k ++ (f k ∷ [])

-- all steps of the list
abbrev pub steps : List ℕ → List Reading
steps ws = firsts (step_at ws) (count ws)

-- what watch k sees of the list's first i steps, and of all of them
abbrev pub seen_to : ℕ → List ℕ → ℕ → List Reading
seen_to k ws i = only (see k) (firsts (step_at ws) i)

abbrev pub seen : ℕ → List ℕ → List Reading
seen k ws = only (see k) (steps ws)

-- how many steps of the list are refused, of which nothing but the number is compared
abbrev pub is_refused : Reading → Bool
is_refused (Ok s) = false
is_refused (Err q) = true

abbrev pub refused_to : List ℕ → ℕ → ℕ
refused_to ws i = length (only is_refused (firsts (step_at ws) i))

abbrev pub refused_in : List ℕ → ℕ
refused_in ws = refused_to ws (count ws)

-- (what stands past a list's end, and is never looked at)
abbrev pub past : Reading
past = Err Garbled
