-- The library's test is the definition's.
use Rattle.runfile.specs.Read.{bare_line}
use Rattle.runfile.proofs.Found.{equal-pointwise, tested}
use Rattle.runfile.proofs.bare.read_bare.Goals as goal

pub returns : goal.returns
unfolding bare_line
returns c = let a = c.args in rw (equal-pointwise a.word.now a.line.now, ← c.eq.ensures, c.then_some.ensures) (tested _ _)
