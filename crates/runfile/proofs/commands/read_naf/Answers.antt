-- At each return, what the calls found says which case of the definition holds.
use Rattle.std.proofs.Common.{rules}
use Rattle.runfile.specs.Read.{naf_line}
use Rattle.runfile.proofs.Found.{finished}
use Rattle.runfile.proofs.commands.read_naf.Goals as goal

pub returns-in_err-n : goal.returns-in_err-n
unfolding naf_line
returns-in_err-n c = rw (← c.in_err-n.ensures) (search rules)

pub returns-in_err-w : goal.returns-in_err-w
unfolding naf_line
returns-in_err-w c = rw (← c.in_ok-n.ensures, ← c.in_err-w.ensures) (search rules)

pub returns : goal.returns
unfolding naf_line
returns c = rw (← c.in_ok-n.ensures, ← c.in_ok-w.ensures) (finished _ _ c.is_empty.ensures c.then_some.ensures)
