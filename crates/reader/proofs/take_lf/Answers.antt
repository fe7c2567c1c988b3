-- `take_lf` meets its contract: where lines are still read, an LF ends the line; elsewhere it changes nothing.
use mathlib.Core.Path.{refl, sym, ◌∙◌}
use Rattle.lines.proofs.CuttingLaws.{step-shut, step_end}
use Rattle.reader.specs.Reading.{rehearsing}
use Rattle.reader.proofs.take_lf.Goals as goal

pub returns-then-takes_lines-clause-out_after : goal.returns-then-takes_lines-clause-out_after
returns-then-takes_lines-clause-out_after c =
    c.end_line.ensures.out_after ∙ sym (step_end rehearsing _ 10 (sym c.takes_lines.ensures ∙ c.if-takes_lines.true) refl)

pub returns-else-takes_lines-clause-out_after : goal.returns-else-takes_lines-clause-out_after
returns-else-takes_lines-clause-out_after c = sym (step-shut rehearsing _ 10 (sym c.takes_lines.ensures ∙ c.if-takes_lines.false))
