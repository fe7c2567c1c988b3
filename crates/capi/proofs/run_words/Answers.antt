-- `run_words` meets its contract: the first six words are the step's, and a garbled one is refused, after 9.
use Rattle.capi.proofs.CallLaws.{words-read, words-bad}
use Rattle.capi.proofs.run_words.Goals as goal

pub returns-in-Ok : goal.returns-in-Ok
returns-in-Ok c = words-read _ _ _ _
    c.requires
    c.read_step-reading.ensures _ _
    c.in-Ok.is
    c.run_step.ensures.step

pub returns-in-Err : goal.returns-in-Err
returns-in-Err c = words-bad _ _ _ _ c.requires
    c.read_step-reading.ensures _ _ c.in-Err.is
    c.unless_unfit.ensures
