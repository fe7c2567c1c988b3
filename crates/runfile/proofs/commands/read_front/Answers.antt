-- At each return, what the calls found says which case of the definition holds.
use Rattle.std.proofs.Common.{rules}
use Rattle.runfile.specs.Read.{front_line}
use Rattle.runfile.proofs.Found.{finished}
use Rattle.runfile.proofs.commands.read_front.Goals as goal

pub returns-in_err-n : goal.returns-in_err-n
unfolding front_line
returns-in_err-n c = rw (← c.in_err-n.ensures) (search rules)

pub returns-in_err-a : goal.returns-in_err-a
unfolding front_line
returns-in_err-a c = rw (← c.in_ok-n.ensures, ← c.in_err-a.ensures) (search rules)

pub returns-in_err-v : goal.returns-in_err-v
unfolding front_line
returns-in_err-v c = rw (← c.in_ok-n.ensures, ← c.in_ok-a.ensures, ← c.in_err-v.ensures) (search rules)

pub returns : goal.returns
unfolding front_line
returns c = rw (← c.in_ok-n.ensures, ← c.in_ok-a.ensures, ← c.in_ok-v.ensures) (finished _ _ c.is_empty.ensures c.then_some.ensures)
