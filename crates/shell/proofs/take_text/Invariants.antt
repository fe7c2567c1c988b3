-- After each turn the first `from` bytes are taken.
use Rattle.std.proofs.Common.{length, ◌-◌, ◌≤◌, take}
use Rattle.reader.specs.Reading.{state_of, Held, Took}
use Rattle.shell.proofs.take_text.Given as goal

abbrev pub invariant-loop-from : goal.invariant-loop-from
invariant-loop-from g l = record {
  within : l.from ≤ length l.text;
  held : Held l.r l.line l.memory l.out;
  took : Took (state_of l.initial.r l.initial.line l.initial.memory l.initial.out) (take l.from l.text) (state_of l.r l.line l.memory l.out);
}

abbrev pub decreases-loop-from : goal.decreases-loop-from
decreases-loop-from g l = length l.text - l.from
