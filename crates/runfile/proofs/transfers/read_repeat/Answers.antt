-- At each return, what the calls found says which case of the definition holds.
use Rattle.std.proofs.Common.{rules}
use Rattle.runfile.specs.Read.{repeat_line}
use Rattle.runfile.proofs.Found.{finished}
use Rattle.runfile.proofs.transfers.read_repeat.Goals as goal

pub returns-in_err-n : goal.returns-in_err-n
unfolding repeat_line
returns-in_err-n c = rw (← c.in_err-n.ensures) (search rules)

pub returns-in_err-limit : goal.returns-in_err-limit
unfolding repeat_line
returns-in_err-limit c = rw (← c.in_ok-n.ensures, ← c.in_err-limit.ensures) (search rules)

pub returns-in_err-tries : goal.returns-in_err-tries
unfolding repeat_line
returns-in_err-tries c = rw (← c.in_ok-n.ensures, ← c.in_ok-limit.ensures, ← c.in_err-tries.ensures) (search rules)

pub returns : goal.returns
unfolding repeat_line
returns c = rw (← c.in_ok-n.ensures, ← c.in_ok-limit.ensures, ← c.in_ok-tries.ensures) (finished _ _ c.is_empty.ensures c.then_some.ensures)
