-- At each return, what the calls found says which case of the definition holds.
use Rattle.std.proofs.Common.{rules}
use Rattle.runfile.specs.Read.{scan_line}
use Rattle.runfile.proofs.Found.{finished}
use Rattle.runfile.proofs.transfers.read_scan.Goals as goal

pub returns-in_err-n : goal.returns-in_err-n
unfolding scan_line
returns-in_err-n c = rw (← c.in_err-n.ensures) (search rules)

pub returns-in_err-to : goal.returns-in_err-to
unfolding scan_line
returns-in_err-to c = rw (← c.in_ok-n.ensures, ← c.in_err-to.ensures) (search rules)

pub returns-in_err-limit : goal.returns-in_err-limit
unfolding scan_line
returns-in_err-limit c = rw (← c.in_ok-n.ensures, ← c.in_ok-to.ensures, ← c.in_err-limit.ensures) (search rules)

pub returns : goal.returns
unfolding scan_line
returns c = rw (← c.in_ok-n.ensures, ← c.in_ok-to.ensures, ← c.in_ok-limit.ensures) (finished _ _ c.is_empty.ensures c.then_some.ensures)
