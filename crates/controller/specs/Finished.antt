-- What the answer of a step tells, from any memory and with any buffer: where a scan has been, and what X, Q and R may be.
use Rattle.std.specs.Prelude.{ℕ, ◌+◌, ◌-◌, ◌≤◌, ◌<◌, ◌^◌, ◌≡◌, List, ◌++◌, length, drop, Ok}
use Rattle.station.specs.declared.Reply.{Reply}
use Rattle.transfer.specs.Walk.{Made, Walk, words_of, Everywhere}
use Rattle.transfer.specs.declared.Transfer.{Transfer}
use Rattle.step.specs.declared.Step.{Step}
use Rattle.step.specs.declared.Step.TheVariants.{Scan}
use Rattle.controller.specs.Steps.{order, leaves, gives}
use Rattle.controller.specs.declared.Answer.{Answer}
use Rattle.controller.specs.declared.Answer.TheVariants.{Replied, Transferred}

-- A scan of the memory m, lent the buffer b, answered end, words and cycles t, and left the memory m' and the buffer b'. Then these are the commands that it
-- made:
pub record Scanned (m : List ℕ) (n a f to limit : ℕ) (b : List ℕ) (t : Transfer) (m' b' : List ℕ) : Type 0 where
  pub commands : List Made
  -- a walk from N, A that ends so and leaves the memory
  pub walk : Walk f to limit m n a 0 commands t.end m'
  -- each cycle is a command
  pub cycles : t.cycles ≡ length commands
  -- each word was read with Q = 1; the words stand in the buffer, and past them its contents
  pub words : t.words ≡ length (words_of commands)
  pub buffer : b' ≡ words_of commands ++ drop t.words b
  -- END 2: EVERY STATION FROM N TO `to` WAS COMMANDED, those after N at A0
  pub everywhere : t.end ≡ 2 → Everywhere n a to commands
  pub enough : t.end ≡ 2 → to - n + 1 ≤ t.cycles

-- where the answer r has end, words and cycles, they are those of such a scan
abbrev pub ScanTold : (m : List ℕ) (n a f to limit : ℕ) (b : List ℕ) → Answer → (m' b' : List ℕ) → Type 0
ScanTold m n a f to limit b r m' b' = (t : Transfer) → r ≡ Transferred t → Scanned m n a f to limit b t m' b'

-- A FINISHED SCAN HAS BEEN EVERYWHERE: of any memory, any fields and any buffer
abbrev pub FinishedScan : Type 0
FinishedScan = (m : List ℕ) (n a f to limit : ℕ) (b : List ℕ)
    → ScanTold m n a f to limit b
    (gives m (order (Ok (Scan n a f to limit)) b)).answer
    (leaves m (order (Ok (Scan n a f to limit)) b))
    (gives m (order (Ok (Scan n a f to limit)) b)).buffer

-- a step that answers X, Q and R: X and Q are 0 or 1, R has 24 bits; X = 0 leaves Q and R 0 and changes nothing
abbrev pub RepliesAreWords : Type 0
RepliesAreWords = (m : List ℕ) (s : Step) (b : List ℕ) (p : Reply) → (gives m (order (Ok s) b)).answer ≡ Replied p
    → (p.x < 2) × (p.q < 2) × (p.r < 2 ^ 24)
    × (p.x ≡ 0 → (p.q ≡ 0) × (p.r ≡ 0) × (leaves m (order (Ok s) b) ≡ m))
