-- Each turn takes some bytes more.
use Rattle.reader.specs.Reading.{state_of}
use Rattle.shell.proofs.HandedLaws.{reached-none, reached-one, reached-both}
use Rattle.shell.proofs.take_open.Goals as goal

pub loop-init : goal.loop-init
loop-init g c = record {
  held = c.requires.held;
  reached = reached-none (state_of c.args.s c.args.line.now c.args.memory.now c.args.out.now);
}

pub returns-then-not-goes_on-clause-reached : goal.returns-then-not-goes_on-clause-reached
returns-then-not-goes_on-clause-reached g c = reached-both c.loop.invariant.reached (reached-one c.in_ok-r.ensures.took)

pub loop-preserved : goal.loop-preserved
loop-preserved g c = record {
  held = c.in_ok-r.ensures.stays_held;
  reached = reached-both c.loop.invariant.reached (reached-one c.in_ok-r.ensures.took);
}
