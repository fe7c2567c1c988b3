-- `end_line` meets its contract: the phase says which file a line is of.
use mathlib.Core.Path.{◌≡◌, refl, sym, ◌∙◌}
use denote.Enum.Bare.{sameb}
use Rattle.reader.specs.contracts.Phase.{the_type}
use Rattle.reader.specs.declared.Phase.{Phase}
use Rattle.reader.specs.declared.Phase.TheVariants.{CrateFile, RunFile, Ended}
use Rattle.reader.specs.Reading.{reads_run}
use Rattle.reader.proofs.ReadingLaws.{run-answered, module-answered}
use Rattle.reader.proofs.end_line.Goals as goal

of-run : (p : Phase) → sameb the_type p RunFile ≡ reads_run p
of-run CrateFile = refl
of-run RunFile = refl
of-run Ended = refl

pub returns-then-eq-clause-out_after : goal.returns-then-eq-clause-out_after
returns-then-eq-clause-out_after c =
    c.end_run_line.ensures.out_after ∙ run-answered _ (sym (of-run c.args.s.phase) ∙ sym c.eq.ensures ∙ c.if-eq.true)

pub returns-else-eq-clause-out_after : goal.returns-else-eq-clause-out_after
returns-else-eq-clause-out_after c =
    c.end_module_line.ensures.out_after ∙ module-answered _ (sym (of-run c.args.s.phase) ∙ sym c.eq.ensures ∙ c.if-eq.false)
