-- At each return, what the calls found says which case of the definition holds.
use Rattle.std.proofs.Common.{rules}
use Rattle.runfile.specs.Read.{stop_line}
use Rattle.runfile.proofs.Found.{finished}
use Rattle.runfile.proofs.transfers.read_stop.Goals as goal

pub returns-in_err-n : goal.returns-in_err-n
unfolding stop_line
returns-in_err-n c = rw (← c.in_err-n.ensures) (search rules)

pub returns-in_err-limit : goal.returns-in_err-limit
unfolding stop_line
returns-in_err-limit c = rw (← c.in_ok-n.ensures, ← c.in_err-limit.ensures) (search rules)

pub returns : goal.returns
unfolding stop_line
returns c = rw (← c.in_ok-n.ensures, ← c.in_ok-limit.ensures) (finished _ _ c.is_empty.ensures c.then_some.ensures)
