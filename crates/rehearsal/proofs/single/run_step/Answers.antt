-- `run_step` meets its contract: the test of the crate gives 9 or the facts that `perform_step` asks for.
use mathlib.Core.Path.{sym, ◌∙◌}
use borrow.Author.Tests.{not-true, not-false}
use Rattle.rehearsal.proofs.ListLaws.{step-unfit, step_fits, step_words}
use Rattle.dataway.proofs.CrateLaws.{crate-facts}
use Rattle.rehearsal.proofs.single.run_step.Goals as goal

pub returns-then-not-is_fit_crate : goal.returns-then-not-is_fit_crate
returns-then-not-is_fit_crate c = let pair = step_words _ _ _ _ _ (step-unfit _ _ (sym c.is_fit_crate.ensures ∙ not-true _ c.if-not-is_fit_crate.true-raw)) in record { step = pair.0; words = pair.1 }

pub perform_step-requires : goal.perform_step-requires
perform_step-requires c = crate-facts _
    (sym c.is_fit_crate.ensures ∙ not-false _ c.if-not-is_fit_crate.false-raw)

pub returns : goal.returns
returns c = let pair = step_words _ _ _ _ _ (step_fits _ _ _
    (sym c.is_fit_crate.ensures
    ∙ not-false _ c.if-not-is_fit_crate.false-raw)
    c.perform_step.ensures.done) in record { step = pair.0; words = pair.1 }
