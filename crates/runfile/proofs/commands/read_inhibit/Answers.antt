-- At each return, what the calls found says which case of the definition holds.
use Rattle.std.proofs.Common.{rules}
use Rattle.runfile.specs.Read.{inhibit_line}
use Rattle.runfile.proofs.Found.{finished}
use Rattle.runfile.proofs.commands.read_inhibit.Goals as goal

pub returns-in_err-v : goal.returns-in_err-v
unfolding inhibit_line
returns-in_err-v c = rw (← c.in_err-v.ensures) (search rules)

pub returns : goal.returns
unfolding inhibit_line
returns c = rw (← c.in_ok-v.ensures) (finished _ _ c.is_empty.ensures c.then_some.ensures)
