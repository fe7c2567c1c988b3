-- What a command comes to (RULES 2.29): the block that it leaves, and its answer X, Q and R.
use Rattle.std.specs.Prelude.{ℕ, List, Bool, cond}
use Rattle.station.specs.declared.Reply.{Reply}

pub record Outcome : Type 0 where
  pub block : List ℕ
  pub reply : Reply

abbrev pub answer : List ℕ → (x q r : ℕ) → Outcome
answer b x q r = record { block = b; reply = record { x = x; q = q; r = r } }

-- not accepted: X = Q = R = 0, no change
abbrev pub not_accepted : List ℕ → Outcome
not_accepted b = answer b 0 0 0

-- accepted, with nothing to read: X = 1, Q = 1, R = 0
abbrev pub done : List ℕ → Outcome
done b = answer b 1 1 0

-- accepted, with the word v read: X = 1, Q = 1, R = v
abbrev pub gives : List ℕ → ℕ → Outcome
gives b v = answer b 1 1 v

-- accepted, with Q set by a rule: X = 1, R = 0
abbrev pub tells : List ℕ → ℕ → Outcome
tells b q = answer b 1 q 0

-- the outcome o where the test t accepts the command, else not accepted
abbrev pub accept : Bool → List ℕ → Outcome → Outcome
accept t b o = cond t o (not_accepted b)
