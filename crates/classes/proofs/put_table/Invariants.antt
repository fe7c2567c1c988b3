-- After so many turns the lines of the kinds below that number were put.
use Rattle.text.specs.Paste.{Put}
use Rattle.classes.specs.Table.{kind_text, texts_below}
use Rattle.classes.proofs.put_table.Given as goal

abbrev pub invariant-loop-kind : goal.invariant-loop-kind
invariant-loop-kind l = Put l.initial.out 0 (texts_below l.kind kind_text) l.out l.next
