-- Steps that touch stations (RULES 5.2 to 5.5, 5.16): which stations a step reaches by its fields, and which it touches, a refused step none.
use Rattle.std.specs.Prelude.{ℕ, Bool, true, false, cond, ◌&&◌, List, leb, eqb, Ok, Err}
use Rattle.step.specs.declared.Step.{Step}
use Rattle.step.specs.declared.Step.TheVariants.{Command, Front, Z, C, Inhibit, LookAtMe, Scan, Repeat, Stop, Put, PutLent, Processor, Within}
use Rattle.step.specs.declared.Short.{Short}
use Rattle.step.specs.declared.Short.TheVariants.{ShortScan, ShortRepeat, ShortStop}
use Rattle.step.specs.Verdict.{within, is_fine, step_verdict, verdict_of}
use Rattle.step.specs.Results.{Reading}

-- the stations k of a transfer at the trigger processor's entry: those of the general entry's
abbrev pub short_reach : Short → ℕ → Bool
short_reach (ShortScan n a f to limit) k = within n k to
short_reach (ShortRepeat n a f limit tries) k = eqb n k
short_reach (ShortStop n a f limit) k = eqb n k

-- the stations k of a step that is not refused: N, or all where the N of a command is above 23; in a scan, a put or a listing N to `to`; in Z, C, I and the Look-at-Me
-- reading all
abbrev pub reach : Step → ℕ → Bool
reach (Command n a f w) k = cond (leb n 23) (eqb n k) true
reach (Front n a v) k = eqb n k
reach Z k = true
reach C k = true
reach (Inhibit v) k = true
reach LookAtMe k = true
reach (Scan n a f to limit) k = within n k to
reach (Repeat n a f limit tries) k = eqb n k
reach (Stop n a f limit) k = eqb n k
reach (Put n a to limit w) k = within n k to
reach (PutLent n a to limit) k = within n k to
reach (Processor t) k = short_reach t k
reach (Within n to lo hi) k = within n k to

-- the same of a reading: one that is no step reaches none
abbrev pub reach_of : Reading → ℕ → Bool
reach_of (Ok s) k = reach s k
reach_of (Err q) k = false

-- a step that is lent this buffer touches the station k: a refused step touches none
abbrev pub touches : Step → List ℕ → ℕ → Bool
touches s buffer k = is_fine (step_verdict s buffer) && reach s k

-- the same of a reading: one that is no step touches none
abbrev pub touches_of : Reading → List ℕ → ℕ → Bool
touches_of r buffer k = is_fine (verdict_of r buffer) && reach_of r k
