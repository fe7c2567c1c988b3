-- No more lines are refused than there are.
use native.Mathlib.Omega.{arith}
use Rattle.verdict.specs.Counted.{count}
use Rattle.verdict.proofs.Walks.{refused-few}
use Rattle.regrouping.proofs.hear.Goals as goal

pub overflow_cast-refused : goal.overflow_cast-refused
overflow_cast-refused g c = omega (arith, c.refused-refused.ensures, refused-few c.args.words.now (count c.args.words.now), c.requires)
