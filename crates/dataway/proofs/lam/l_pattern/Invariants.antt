-- `l_pattern` meets its contract. The loop's invariant: l is the pattern of stations 1 to n.
use mathlib.Core.Path.{◌≡◌}
use Rattle.dataway.specs.Lam.{pattern_to}
use Rattle.dataway.proofs.lam.l_pattern.Given as goal

abbrev pub invariant-loop-n : goal.invariant-loop-n
invariant-loop-n l = l.l ≡ pattern_to l.n l.memory
