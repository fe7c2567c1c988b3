-- What reaches one station of the crate (RULES 2.1, 3.1): a command, a front event. Each is the block's own rule, under `with_block`.
-- And a module put in (RULES 7.11, 7.23).
use Rattle.std.specs.Prelude.{ℕ, ◌+◌, ◌*◌, List, cond, set, eqb}
use Rattle.blocks.specs.Blocks.{block_of, with_block, inhibit_of}
use Rattle.kinds.specs.declared.Module.{Module}
use Rattle.acceptance.specs.declared.Span.{Span}
use Rattle.station.specs.Accepted.{Accepts}
use Rattle.station.specs.Command.{command_of}
use Rattle.station.specs.Front.{front_of}
use Rattle.station.specs.Control.{module_of, covered_block}
use Rattle.station.specs.declared.Reply.{Reply}

-- a command to station N: its answer X, Q and R
unfoldable pub reply_of : List ℕ → (n a f w : ℕ) → Reply
reply_of m n a f w = (command_of (block_of m n) a f w).reply

-- and the memory that it leaves
unfoldable pub after_command : List ℕ → (n a f w : ℕ) → List ℕ
after_command m n a f w = with_block m n (command_of (block_of m n) a f w).block

-- the span t has the subaddresses at which station N accepts F
abbrev pub AcceptsAt : List ℕ → (n f : ℕ) → Span → Type 0
AcceptsAt m n f t = Accepts (block_of m n) f t

-- a front event at station N, under the crate's Inhibit: its digit (station/specs/Front)
unfoldable pub taken_of : List ℕ → (n a v : ℕ) → ℕ
taken_of m n a v = (front_of (inhibit_of m) (block_of m n) a v).taken

-- and the memory that it leaves
unfoldable pub after_front : List ℕ → (n a v : ℕ) → List ℕ
after_front m n a v = with_block m n (front_of (inhibit_of m) (block_of m n) a v).block

-- the memory with a module in the stations that it fills: its own and, where it is two stations wide, the one to its right, empty and covered
unfoldable pub occupied_by : List ℕ → Module → List ℕ
occupied_by m p =
    cond (eqb p.wide 2)
    (with_block (with_block m p.n (module_of p)) (p.n + 1) covered_block)
    (with_block m p.n (module_of p))

-- the memory with station N covered by no module; past station 23 there is none
abbrev pub uncovered : List ℕ → (n : ℕ) → List ℕ
uncovered m n = set m (32 * n + 7) 0

-- the memory with a module put in: what stood in the stations that it fills is taken out, and so is the cover that this laid
unfoldable pub with_module : List ℕ → Module → List ℕ
with_module m p = uncovered (occupied_by m p) (p.n + p.wide)
