-- Some bytes of the file are taken.
use Rattle.reader.specs.Reading.{state_of, Held}
use Rattle.shell.specs.Handed.{Reached}
use Rattle.shell.proofs.take_open.Given as goal

abbrev pub invariant-loop : goal.invariant-loop
invariant-loop g l = record {
  held : Held l.r l.line l.memory l.out;
  reached : Reached (state_of l.initial.r l.initial.line l.initial.memory l.initial.out) (state_of l.r l.line l.memory l.out);
}
