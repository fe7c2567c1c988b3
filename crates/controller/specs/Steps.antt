-- One step: the memory that it leaves, its answer, and its buffer afterwards. First 9, then 1, then the fields from left to right, then 8 (and
-- in a put of lent words 5); a refusal changes nothing.
use Rattle.std.specs.Prelude.{ℕ, Bool, cond, List, length, take, replicate, Ok, Err}
use Rattle.dataway.specs.Crate.{is_fit_crate}
use Rattle.dataway.specs.Stations.{taken_of, after_front}
use Rattle.dataway.specs.Addressed.{sent_of}
use Rattle.dataway.specs.Controls.{after_z, after_c, after_i}
use Rattle.dataway.specs.Lam.{lam_of}
use Rattle.transfer.specs.Cycle.{Ended, transfer_of, buffer_after}
use Rattle.transfer.specs.Scan.{scan_of}
use Rattle.transfer.specs.Repeat.{repeat_of}
use Rattle.transfer.specs.Stop.{stop_of}
use Rattle.transfer.specs.Put.{put_of}
use Rattle.windows.specs.Within.{within_of, listed_in}
use Rattle.step.specs.Verdict.{step_verdict}
use Rattle.step.specs.Touches.{touches_of}
use Rattle.step.specs.declared.Refusal.{Refusal}
use Rattle.step.specs.declared.Refusal.TheVariants.{UnfitCrate}
use Rattle.step.specs.declared.Step.{Step}
use Rattle.step.specs.declared.Step.TheVariants.{Command, Front, Z, C, Inhibit, LookAtMe, Scan, Repeat, Stop, Put, PutLent, Processor, Within}
use Rattle.step.specs.declared.Short.{Short}
use Rattle.step.specs.declared.Short.TheVariants.{ShortScan, ShortRepeat, ShortStop}
use Rattle.controller.specs.declared.Answer.{Answer}
use Rattle.controller.specs.declared.Answer.TheVariants.{Replied, Taken, Done, Looked, Transferred, Wrote, Listed, Refused}
use Rattle.step.specs.Results.{Reading, Verdict}

-- a step of a list: its reading, and the words of the buffer that it is handed
pub record Order : Type 0 where
  pub reading : Reading
  pub buffer : List ℕ

abbrev pub order : Reading → List ℕ → Order
order r b = record { reading = r; buffer = b }

-- what a step gives back: its answer, and its buffer afterwards
pub record Out : Type 0 where
  pub answer : Answer
  pub buffer : List ℕ

-- all that a step comes to: the memory that it leaves, and what it gives back
pub record Performed : Type 0 where
  pub memory : List ℕ
  pub out : Out

abbrev pub performed : List ℕ → Answer → List ℕ → Performed
performed m a b = record { memory = m; out = record { answer = a; buffer = b } }

-- a block transfer that ended so, lent the buffer b
abbrev pub transferred : Ended → List ℕ → Performed
transferred e b = performed e.memory (Transferred (transfer_of e)) (buffer_after e b)

-- a put that ended so: the buffer stays as it was
abbrev pub wrote : Ended → List ℕ → Performed
wrote e b = performed e.memory (Wrote (transfer_of e)) b

-- a listing of these registers: the crate stays as it was
abbrev pub listed : (ps m b : List ℕ) → Performed
listed ps m b = performed m (Listed (length ps)) (listed_in ps b)

-- a refusal returns only its number and changes nothing
abbrev pub refused : Refusal → List ℕ → List ℕ → Performed
refused q m b = performed m (Refused q) b

-- a transfer at the trigger processor's entry does what the general entry's does
abbrev pub short_of : List ℕ → Short → Ended
short_of m (ShortScan n a f to limit) = scan_of m n a f to limit
short_of m (ShortRepeat n a f limit tries) = repeat_of m n a f limit tries
short_of m (ShortStop n a f limit) = stop_of m n a f limit

-- what each kind of step does, where it is not refused; a put offers `limit` words, each w, or the first `limit` words of its buffer
abbrev pub act_of : List ℕ → Step → List ℕ → Performed
act_of m (Command n a f w) b = performed (sent_of m n a f w).memory (Replied (sent_of m n a f w).reply) b
act_of m (Front n a v) b = performed (after_front m n a v) (Taken (taken_of m n a v)) b
act_of m Z b = performed (after_z m) Done b
act_of m C b = performed (after_c m) Done b
act_of m (Inhibit v) b = performed (after_i m v) Done b
act_of m LookAtMe b = performed m (Looked (lam_of m)) b
act_of m (Scan n a f to limit) b = transferred (scan_of m n a f to limit) b
act_of m (Repeat n a f limit tries) b = transferred (repeat_of m n a f limit tries) b
act_of m (Stop n a f limit) b = transferred (stop_of m n a f limit) b
act_of m (Put n a to limit w) b = wrote (put_of m n a to limit (replicate limit w)) b
act_of m (PutLent n a to limit) b = wrote (put_of m n a to limit (take limit b)) b
act_of m (Processor t) b = transferred (short_of m t) b
act_of m (Within n to lo hi) b = listed (within_of m n to lo hi) m b

-- a step with its verdict
abbrev pub judged_of : Verdict → List ℕ → Step → List ℕ → Performed
judged_of (Ok _) m s b = act_of m s b
judged_of (Err q) m s b = refused q m b

-- a reading: 1 where it is no step, else the verdict on its fields and its buffer, else what the step does
abbrev pub reading_done : List ℕ → Reading → List ℕ → Performed
reading_done m (Ok s) b = judged_of (step_verdict s b) m s b
reading_done m (Err q) b = refused q m b

-- a step from a fit crate
unfoldable pub done_of : List ℕ → Order → Performed
done_of m o = reading_done m o.reading o.buffer

-- a step from any memory: first 9
unfoldable pub step_of : List ℕ → Order → Performed
step_of m o = cond (is_fit_crate m) (done_of m o) (refused UnfitCrate m o.buffer)

-- the memory that a step leaves
abbrev pub leaves : List ℕ → Order → List ℕ
leaves m o = (step_of m o).memory

-- what it gives back
abbrev pub gives : List ℕ → Order → Out
gives m o = (step_of m o).out

-- the stations that it touches, by its fields and its buffer alone; a refused step touches none
abbrev pub touches : Order → ℕ → Bool
touches o k = touches_of o.reading o.buffer k
