-- At each return, what the calls found says which case of the definition holds.
use Rattle.std.proofs.Common.{rules}
use Rattle.runfile.specs.Read.{within_line}
use Rattle.runfile.proofs.Found.{finished}
use Rattle.runfile.proofs.transfers.read_within.Goals as goal

pub returns-in_err-n : goal.returns-in_err-n
unfolding within_line
returns-in_err-n c = rw (← c.in_err-n.ensures) (search rules)

pub returns-in_err-to : goal.returns-in_err-to
unfolding within_line
returns-in_err-to c = rw (← c.in_ok-n.ensures, ← c.in_err-to.ensures) (search rules)

pub returns-in_err-lo : goal.returns-in_err-lo
unfolding within_line
returns-in_err-lo c = rw (← c.in_ok-n.ensures, ← c.in_ok-to.ensures, ← c.in_err-lo.ensures) (search rules)

pub returns-in_err-hi : goal.returns-in_err-hi
unfolding within_line
returns-in_err-hi c = rw (← c.in_ok-n.ensures, ← c.in_ok-to.ensures, ← c.in_ok-lo.ensures, ← c.in_err-hi.ensures) (search rules)

pub returns : goal.returns
unfolding within_line
returns c = rw (← c.in_ok-n.ensures, ← c.in_ok-to.ensures, ← c.in_ok-lo.ensures, ← c.in_ok-hi.ensures) (finished _ _ c.is_empty.ensures c.then_some.ensures)
