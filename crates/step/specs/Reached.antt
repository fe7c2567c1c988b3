-- Which stations a step touches, in plain words (RULES 5.2 to 5.5, 5.16); `Touches` tests it.
use Rattle.std.specs.Prelude.{ℕ, ◌≤◌, ◌<◌, ◌≡◌, true, List, Ok}
use Rattle.step.specs.declared.Step.{Step}
use Rattle.step.specs.declared.Step.TheVariants.{Command, Front, Z, C, Inhibit, LookAtMe, Scan, Repeat, Stop, Put, PutLent, Processor, Within}
use Rattle.step.specs.declared.Short.{Short}
use Rattle.step.specs.Entries.{general_of}
use Rattle.step.specs.Verdict.{verdict_of}
use Rattle.step.specs.Touches.{touches_of}
use Rattle.step.specs.Results.{Reading}

-- Reached s k: step s, if it is not refused, touches station k
pub data Reached : Step → ℕ → Type 0 where
  -- a command to a station, a front event, a Repeat and a Stop touch N
  by-command : {n a f w : ℕ} → n ≤ 23 → Reached (Command n a f w) n
  by_front : {n a v : ℕ} → Reached (Front n a v) n
  by-repeat : {n a f limit tries : ℕ} → Reached (Repeat n a f limit tries) n
  by-stop : {n a f limit : ℕ} → Reached (Stop n a f limit) n
  -- a command to N above 23, to many stations or to the controller, touches all 23
  by-many : {n a f w k : ℕ} → 23 < n → 1 ≤ k → k ≤ 23 → Reached (Command n a f w) k
  -- a scan touches N to `to`
  by-scan : {n a f to limit k : ℕ} → n ≤ k → k ≤ to → Reached (Scan n a f to limit) k
  -- so does a put, of one word or of words lent
  by-put : {n a to limit w k : ℕ} → n ≤ k → k ≤ to → Reached (Put n a to limit w) k
  by-put-lent : {n a to limit k : ℕ} → n ≤ k → k ≤ to → Reached (PutLent n a to limit) k
  -- a transfer at the trigger processor's entry touches what it touches at the general one
  by-processor : {t : Short} {k : ℕ} → Reached (general_of t) k → Reached (Processor t) k
  -- and a listing of the registers inside a window
  by-within : {n to lo hi k : ℕ} → n ≤ k → k ≤ to → Reached (Within n to lo hi) k
  -- Z, C, I and the Look-at-Me reading touch all 23
  by-z : {k : ℕ} → 1 ≤ k → k ≤ 23 → Reached Z k
  by-c : {k : ℕ} → 1 ≤ k → k ≤ 23 → Reached C k
  by-i : {v k : ℕ} → 1 ≤ k → k ≤ 23 → Reached (Inhibit v) k
  by-look : {k : ℕ} → 1 ≤ k → k ≤ 23 → Reached LookAtMe k

-- a reading touches station k exactly when it is a step that is not refused and reaches it
abbrev pub TouchesExact : Type 0
TouchesExact = (r : Reading) (b : List ℕ) (k : ℕ) → 1 ≤ k → k ≤ 23
    → (touches_of r b k ≡ true → (s : Step) × (r ≡ Ok s) × (verdict_of r b ≡ Ok tt) × Reached s k)
    × ((s : Step) → r ≡ Ok s → verdict_of r b ≡ Ok tt → Reached s k → touches_of r b k ≡ true)
