-- `list_step` meets its contract: the lent parts are the step's words and its buffer, and what comes back is what the step gives (`step-lent`).
use Rattle.lists.proofs.Lent.{step-lent}
use Rattle.lists.proofs.list_step.Goals as goal

pub returns : goal.returns
returns c = let entry = c.args in
    let done = c.perform in
    let lent = step-lent entry.memory.now entry.steps.now entry.k entry.buffers.now entry.q c.requires.fit_crate
    c.read_step-reading.result done.new.memory done.result done.new.buffer
    c.read_step-reading.ensures done.ensures.done done.ensures.fit in
    record { answer = lent.0; memory = lent.1.0; buffers = lent.1.1.0; fit = lent.1.1.1 }
