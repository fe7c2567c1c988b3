-- At each return, what the calls found says which case of the definition holds.
use Rattle.std.proofs.Common.{rules}
use Rattle.runfile.specs.Read.{head_of}
use Rattle.runfile.proofs.fields.head_of.Goals as goal

pub returns-in_err-n : goal.returns-in_err-n
unfolding head_of
returns-in_err-n g c = rw (← c.in_err-n.ensures) (search rules)

pub returns-in_err-a : goal.returns-in_err-a
unfolding head_of
returns-in_err-a g c = rw (← c.in_ok-n.ensures, ← c.in_err-a.ensures) (search rules)

pub returns-in_err-f : goal.returns-in_err-f
unfolding head_of
returns-in_err-f g c = rw (← c.in_ok-n.ensures, ← c.in_ok-a.ensures, ← c.in_err-f.ensures) (search rules)

pub returns : goal.returns
unfolding head_of
returns g c = rw (← c.in_ok-n.ensures, ← c.in_ok-a.ensures, ← c.in_ok-f.ensures)
