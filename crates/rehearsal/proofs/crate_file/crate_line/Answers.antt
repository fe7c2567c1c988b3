-- `crate_line` meets its contract: the test of the crate comes first, then the line's reading, then the module.
use mathlib.Core.Path.{sym, ◌∙◌}
use borrow.Author.Tests.{not-true, not-false}
use Rattle.std.proofs.lemmas.Result.{err_from_is_err_and}
use Rattle.rehearsal.proofs.ModuleLaws.{install-unfit, install-fit, install-bad, install-numbered}
use Rattle.dataway.proofs.CrateLaws.{crate-facts}
use Rattle.rehearsal.proofs.crate_file.crate_line.Goals as goal

pub returns-then-not-is_fit_crate : goal.returns-then-not-is_fit_crate
returns-then-not-is_fit_crate c = let pair = install-numbered _ _ _ _ _ (install-unfit _ _ _ (sym c.is_fit_crate.ensures ∙ not-true _ c.if-not-is_fit_crate.true-raw)) in record { placed = pair.0; number = pair.1 }

pub place-requires : goal.place-requires
place-requires c = crate-facts _
    (sym c.is_fit_crate.ensures
    ∙ not-false _ c.if-not-is_fit_crate.false-raw)

pub returns : goal.returns
returns c = let fit = sym c.is_fit_crate.ensures ∙ not-false _ c.if-not-is_fit_crate.false-raw in
    let read = sym c.read_module.ensures.value ∙ c.in_ok-held.was in
    let pair = install-numbered _ _ _ _ _ (install-fit _ _ _ _ _ fit read c.place.ensures.placed) in record { placed = pair.0; number = pair.1 }

pub returns-in_err-held : goal.returns-in_err-held
returns-in_err-held c = let fit = sym c.is_fit_crate.ensures ∙ not-false _ c.if-not-is_fit_crate.false-raw in
    let read = sym c.read_module.ensures.value ∙ c.in_err-held.was in
    let sent = err_from_is_err_and c.from_residual.result c.from_residual.ensures.1 in
    let pair = install-numbered _ _ _ _ _ (install-bad _ _ _ _ fit read) in
    record { placed = rw (sent.1, sent.2) pair.0; number = rw (sent.1, sent.2) pair.1 }
