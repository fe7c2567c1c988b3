-- What is held stays as the reader asks.
use Rattle.reader.specs.Reading.{Held}
use Rattle.list_check.proofs.take_parts.Given as goal

abbrev pub invariant-loop : goal.invariant-loop
invariant-loop l = Held l.r l.line l.memory l.out
