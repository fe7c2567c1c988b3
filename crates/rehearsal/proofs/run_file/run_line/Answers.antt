-- `run_line` meets its contract: the test of the crate comes first, then the line's reading, then the step.
use mathlib.Core.Path.{sym, ap, ◌∙◌}
use borrow.Author.Tests.{not-true, not-false}
use Rattle.rehearsal.proofs.ListLaws.{step-unfit, step_fits, step_words}
use Rattle.controller.specs.Steps.{order, done_of}
use Rattle.dataway.proofs.CrateLaws.{crate-facts}
use Rattle.rehearsal.proofs.run_file.run_line.Goals as goal
use Rattle.step.specs.Results.{Reading}

pub returns-then-not-is_fit_crate : goal.returns-then-not-is_fit_crate
returns-then-not-is_fit_crate c = let pair = step_words _ _ _ _ _ (step-unfit _ _ (sym c.is_fit_crate.ensures ∙ not-true _ c.if-not-is_fit_crate.true-raw)) in record { step = pair.0; words = pair.1 }

pub perform-requires : goal.perform-requires
perform-requires c = crate-facts _
    (sym c.is_fit_crate.ensures ∙ not-false _ c.if-not-is_fit_crate.false-raw)

pub returns : goal.returns
returns c = let b = c in
    let a = b.args in let pair = step_words _ _ _ _ _ (step_fits _ _ _ (sym b.is_fit_crate.ensures ∙ not-false _ b.if-not-is_fit_crate.false-raw)
    (ap (λ (r : Reading). done_of a.memory.now (order r a.buffer.now)) (sym b.read_line-reading.ensures.value)
    ∙ c.perform.ensures.done)) in record { step = pair.0; words = pair.1 }
