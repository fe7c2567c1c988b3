-- A step at a covered station (RULES 1.16): said of a step as it is run, from any memory and with any buffer.
use Rattle.std.specs.Prelude.{ℕ, ◌≡◌, List, Ok}
use Rattle.blocks.specs.Blocks.{word}
use Rattle.station.specs.declared.Reply.{Reply}
use Rattle.transfer.specs.declared.Transfer.{Transfer}
use Rattle.step.specs.declared.Step.{Step}
use Rattle.step.specs.declared.Step.TheVariants.{Command, Front, Repeat, Stop}
use Rattle.controller.specs.declared.Answer.{Answer}
use Rattle.controller.specs.declared.Answer.TheVariants.{Replied, Taken, Transferred}
use Rattle.controller.specs.Steps.{order, performed, step_of, gives}

-- the step s with the buffer b answered p, and left the crate and the buffer as they were
abbrev pub Idle : List ℕ → Step → List ℕ → Answer → Type 0
Idle m s b p = step_of m (order (Ok s) b) ≡ performed m p b

-- EVERY COMMAND, FRONT EVENT, REPEAT AND STOP at a covered station that is not refused answers as at an empty one
pub record CoveredSteps : Type 0 where
  pub command : (m : List ℕ) (n a f w : ℕ) (b : List ℕ) (p : Reply) → word m n 7 ≡ 1
      → (gives m (order (Ok (Command n a f w)) b)).answer ≡ Replied p
      → Idle m (Command n a f w) b (Replied (record { x = 0; q = 0; r = 0 }))
  pub front : (m : List ℕ) (n a v : ℕ) (b : List ℕ) (d : ℕ) → word m n 7 ≡ 1
      → (gives m (order (Ok (Front n a v)) b)).answer ≡ Taken d
      → Idle m (Front n a v) b (Taken 0)
  pub repeat : (m : List ℕ) (n a f limit tries : ℕ) (b : List ℕ) (p : Transfer) → word m n 7 ≡ 1
      → (gives m (order (Ok (Repeat n a f limit tries)) b)).answer ≡ Transferred p
      → Idle m (Repeat n a f limit tries) b (Transferred (record { end = 3; words = 0; cycles = 1 }))
  pub stop : (m : List ℕ) (n a f limit : ℕ) (b : List ℕ) (p : Transfer) → word m n 7 ≡ 1
      → (gives m (order (Ok (Stop n a f limit)) b)).answer ≡ Transferred p
      → Idle m (Stop n a f limit) b (Transferred (record { end = 3; words = 0; cycles = 1 }))
