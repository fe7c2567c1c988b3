-- At each return, what the calls found says which case of the definition holds.
use Rattle.std.proofs.Common.{rules}
use Rattle.runfile.specs.Read.{read_module}
use Rattle.runfile.proofs.Found.{finished}
use Rattle.runfile.proofs.modules.read_fields.Goals as goal

pub returns-in_err-n : goal.returns-in_err-n
unfolding read_module
returns-in_err-n c = rw (← c.in_err-n.ensures) (search rules)

pub returns-in_err-kind : goal.returns-in_err-kind
unfolding read_module
returns-in_err-kind c = rw (← c.in_ok-n.ensures, ← c.in_err-kind.ensures) (search rules)

pub returns-in_err-r : goal.returns-in_err-r
unfolding read_module
returns-in_err-r c = rw (← c.in_ok-n.ensures, ← c.in_ok-kind.ensures, ← c.in_err-r.ensures) (search rules)

pub returns-in_err-wide : goal.returns-in_err-wide
unfolding read_module
returns-in_err-wide c = rw (← c.in_ok-n.ensures, ← c.in_ok-kind.ensures, ← c.in_ok-r.ensures, ← c.in_err-wide.ensures) (search rules)

pub returns : goal.returns
unfolding read_module
returns c = rw (← c.in_ok-n.ensures, ← c.in_ok-kind.ensures, ← c.in_ok-r.ensures, ← c.in_ok-wide.ensures) (finished _ _ c.is_empty.ensures c.then_some.ensures)
