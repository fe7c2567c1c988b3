-- `end_run_line` meets its contract: the buffer is the one of a run line where the step looks at it, and need not be where it does not.
use Rattle.reader.proofs.ReadingLaws.{line-done}
use Rattle.reader.specs.Reading.{state_of}
use mathlib.Core.Bool.{false≢true}
use mathlib.Core.Path.{refl, sym, ◌∙◌}
use Rattle.reader.proofs.end_run_line.Goals as goal

pub returns-then-uses_buffer-clause-out_after : goal.returns-then-uses_buffer-clause-out_after
returns-then-uses_buffer-clause-out_after c = let a = c.args in
    c.do_step.ensures.state a.line.now
    ∙ line-done (state_of a.s a.line.now a.memory.now a.out.now) _ _ _ c.requires.ready.fit c.read_line-reading.ensures.value (λ e. refl)

pub returns-clause-out_after : goal.returns-clause-out_after
returns-clause-out_after c = let a = c.args in
    c.do_step-2.ensures.state a.line.now
    ∙ line-done (state_of a.s a.line.now a.memory.now a.out.now) _ _ _ c.requires.ready.fit c.read_line-reading.ensures.value
    (λ e. absurd (false≢true (sym c.if-uses_buffer.false ∙ c.uses_buffer.ensures ∙ e)))
