-- `flag_sheet` meets its contract: the test of the crate gives 9 or the facts that the call below asks for.
use mathlib.Core.Path.{sym, ◌∙◌}
use borrow.Author.Tests.{not-true, not-false}
use Rattle.dataway.proofs.CrateLaws.{crate-facts}
use Rattle.windows.proofs.SheetLaws.{refused-flagged}
use Rattle.rehearsal.proofs.WindowLaws.{sheet-unfit, sheet-fits}
use Rattle.rehearsal.proofs.window_sheet.flag_sheet.Goals as goal

pub returns-then-not-is_fit_crate : goal.returns-then-not-is_fit_crate
returns-then-not-is_fit_crate c = record { sheet = sheet-unfit _ _ _ _ _ (sym c.is_fit_crate.ensures ∙ not-true _ c.if-not-is_fit_crate.true-raw); each = λ k e. refused-flagged _ k e }

pub flag_sheet-requires : goal.flag_sheet-requires
flag_sheet-requires c = crate-facts _ (sym c.is_fit_crate.ensures ∙ not-false _ c.if-not-is_fit_crate.false-raw)

pub returns : goal.returns
returns c = let called = c.flag_sheet.ensures in record {
  sheet = sheet-fits _ _ _ _ _ _ (sym c.is_fit_crate.ensures
      ∙ not-false _ c.if-not-is_fit_crate.false-raw) called.sheet;
  each = called.each;
}
