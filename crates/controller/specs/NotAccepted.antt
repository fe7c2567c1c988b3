-- Where a Repeat and a Stop end 3 (RULES 4.22): said of a step as it is run, from any memory and with any buffer.
use Rattle.std.specs.Prelude.{ℕ, ◌≤◌, ◌≡◌, List, Ok}
use Rattle.transfer.specs.Faults.{registers}
use Rattle.transfer.specs.declared.Transfer.{Transfer}
use Rattle.step.specs.declared.Step.{Step}
use Rattle.step.specs.declared.Step.TheVariants.{Repeat, Stop}
use Rattle.controller.specs.declared.Answer.TheVariants.{Transferred}
use Rattle.controller.specs.Steps.{order, performed, step_of, gives}

-- the step s at N, A, with the buffer b, answered p: end 3 exactly where A is at r or above (r is 0 of an empty station, 1 of a buffer memory); and then with
-- no word and one cycle, and the crate and the buffer as they were
abbrev pub NotAccepted : List ℕ → (n a : ℕ) → Step → List ℕ → Transfer → Type 0
NotAccepted m n a s b p =
    (p.end ≡ 3 → registers m n ≤ a)
    × (registers m n ≤ a → step_of m (order (Ok s) b) ≡ performed m (Transferred (record { end = 3; words = 0; cycles = 1 })) b)

-- EVERY REPEAT THAT IS NOT REFUSED
abbrev pub RepeatNotAccepted : Type 0
RepeatNotAccepted = (m : List ℕ) (n a f limit tries : ℕ) (b : List ℕ) (p : Transfer)
    → (gives m (order (Ok (Repeat n a f limit tries)) b)).answer ≡ Transferred p
    → NotAccepted m n a (Repeat n a f limit tries) b p

-- AND EVERY STOP
abbrev pub StopNotAccepted : Type 0
StopNotAccepted = (m : List ℕ) (n a f limit : ℕ) (b : List ℕ) (p : Transfer)
    → (gives m (order (Ok (Stop n a f limit)) b)).answer ≡ Transferred p
    → NotAccepted m n a (Stop n a f limit) b p
