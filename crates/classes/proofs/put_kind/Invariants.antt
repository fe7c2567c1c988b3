-- After f turns the lines of the functions below f were put.
use Rattle.text.specs.Paste.{Put}
use Rattle.classes.specs.Table.{line_of, texts_below}
use Rattle.classes.proofs.put_kind.Given as goal

abbrev pub invariant-loop-f : goal.invariant-loop-f
invariant-loop-f l = Put l.initial.out l.at (texts_below l.f (line_of l.kind)) l.out l.next
