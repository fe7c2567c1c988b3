-- Some bytes of the file are stored, none of whose lines is past the last that is read.
use Rattle.listfile.specs.Listing.{state_of, Held}
use Rattle.shell.specs.Handed.{Listed}
use Rattle.shell.proofs.steps.take_parts.Given as goal

abbrev pub invariant-loop : goal.invariant-loop
invariant-loop g l = record {
  held : Held l.r l.line l.words;
  listed : Listed (state_of l.r l.line l.words);
}
