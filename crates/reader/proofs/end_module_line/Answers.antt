-- `end_module_line` meets its contract: the line is read and its module put into a fit crate, so 9 does not come (`line-bad`, `line-placed`).
use Rattle.reader.proofs.ReadingLaws.{line-bad, line-placed}
use Rattle.reader.specs.Reading.{state_of}
use mathlib.Core.Path.{sym, ◌∙◌}
use Rattle.reader.proofs.end_module_line.Goals as goal

pub returns-in-Err-clause-out_after : goal.returns-in-Err-clause-out_after
returns-in-Err-clause-out_after c = let a = c.args in
    c.refuse.ensures.state a.line.now a.memory.now 0
    ∙ line-bad (state_of a.s a.line.now a.memory.now a.out.now) _ _ 0 c.requires.ready.fit (sym c.read_module.ensures.value ∙ c.in-Err.is)

pub returns-in-Err-place-clause-out_after : goal.returns-in-Err-place-clause-out_after
returns-in-Err-place-clause-out_after c = let a = c.args in
    c.refuse-in-Err-place.ensures.state a.line.now _ 0
    ∙ line-placed (state_of a.s a.line.now a.memory.now a.out.now) _ _ _ _ _ c.requires.ready.fit (sym c.read_module.ensures.value ∙ c.in-Ok.is)
    c.place.ensures.placed c.in-Err-place.is

pub returns-in-Ok-place-clause-out_after : goal.returns-in-Ok-place-clause-out_after
returns-in-Ok-place-clause-out_after c = let a = c.args in
    line-placed (state_of a.s a.line.now a.memory.now a.out.now) _ _ _ _ _ c.requires.ready.fit (sym c.read_module.ensures.value ∙ c.in-Ok.is)
    c.place.ensures.placed c.in-Ok-place.is
