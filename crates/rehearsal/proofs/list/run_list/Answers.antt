-- `run_list` meets its contract: the test of the crate comes first, then those of the lent lengths, by division, so that nothing overflows; then the steps.
use mathlib.Core.Path.{sym, ◌∙◌}
use native.Mathlib.Omega.{arith}
use borrow.Author.Tests.{not-true, not-false}
use Rattle.rehearsal.proofs.ListLaws.{list-unfit, few-steps, few-answers, few-buffers, list-runs, list-numbered}
use Rattle.dataway.proofs.CrateLaws.{crate-facts}
use Rattle.rehearsal.proofs.list.run_list.Goals as goal

pub returns-then-not-is_fit_crate : goal.returns-then-not-is_fit_crate
returns-then-not-is_fit_crate c = let unfit = sym c.is_fit_crate.ensures ∙ not-true _ c.if-not-is_fit_crate.true-raw in
    let pair = list-numbered _ _ _ _ _ _ _ _ _ (list-unfit _ _ _ _ _ unfit) in
    record { ran = pair.0; number = pair.1 }

pub returns-then-steps-count : goal.returns-then-steps-count
returns-then-steps-count c = let fit = sym c.is_fit_crate.ensures ∙ not-false _ c.if-not-is_fit_crate.false-raw in
    let pair = list-numbered _ _ _ _ _ _ _ _ _ (few-steps _ _ _ _ _ fit c.if-steps-count.true) in
    record { ran = pair.0; number = pair.1 }

pub returns-then-answers-count : goal.returns-then-answers-count
returns-then-answers-count c = let fit = sym c.is_fit_crate.ensures ∙ not-false _ c.if-not-is_fit_crate.false-raw in
    let pair = list-numbered _ _ _ _ _ _ _ _ _ (few-answers _ _ _ _ _ fit c.if-answers-count.true) in
    record { ran = pair.0; number = pair.1 }

pub returns-then-buffers-count : goal.returns-then-buffers-count
returns-then-buffers-count c = let fit = sym c.is_fit_crate.ensures ∙ not-false _ c.if-not-is_fit_crate.false-raw in
    let pair = list-numbered _ _ _ _ _ _ _ _ _ (few-buffers _ _ _ _ _ fit c.if-buffers-count.true) in
    record { ran = pair.0; number = pair.1 }

pub run_steps-requires : goal.run_steps-requires
run_steps-requires c = record {
  fit_crate = crate-facts _
      (sym c.is_fit_crate.ensures
      ∙ not-false _ c.if-not-is_fit_crate.false-raw);
  room = (
    omega (arith, c.if-steps-count.false),
    omega (arith, c.if-answers-count.false),
    omega (arith, c.if-buffers-count.false),
  );
}

pub returns : goal.returns
returns c = let fit = sym c.is_fit_crate.ensures ∙ not-false _ c.if-not-is_fit_crate.false-raw in
    let runs = list-runs _ _ _ _ _ fit c.if-steps-count.false c.if-answers-count.false c.if-buffers-count.false in
    let pair = list-numbered _ _ _ _ _ _ _ _ _ (runs ∙ c.run_steps.ensures) in
    record { ran = pair.0; number = pair.1 }
