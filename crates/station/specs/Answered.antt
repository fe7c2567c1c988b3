-- What X, Q and R may be (RULES 2.1, 2.28, 2.29): a command is accepted or not, Q is 0 or 1, and R has 24 bits.
use Rattle.std.specs.Prelude.{ℕ, ◌<◌, ◌^◌, ◌≡◌, List}
use Rattle.station.specs.Block.{FitBlock}
use Rattle.station.specs.Outcome.{Outcome, not_accepted}
use Rattle.station.specs.Command.{command_of}

-- a command to the block b came to o
pub data Answered (b : List ℕ) (o : Outcome) : Type 0 where
  -- not accepted: X = Q = R = 0, no change
  declined : o ≡ not_accepted b → Answered b o
  -- accepted: X = 1, Q is 0 or 1, R has 24 bits
  accepted : o.reply.x ≡ 1 → o.reply.q < 2 → o.reply.r < 2 ^ 24 → Answered b o

-- every command to a fit block
abbrev pub AllAnswered : Type 0
AllAnswered = (b : List ℕ) (a f w : ℕ) → FitBlock b → a < 16 → Answered b (command_of b a f w)

-- Q is 0 or 1, whatever the block
abbrev pub QIsBit : Type 0
QIsBit = (b : List ℕ) (a f w : ℕ) → (command_of b a f w).reply.q < 2
