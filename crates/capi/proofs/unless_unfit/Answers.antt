-- `unless_unfit` meets its contract: the test of the crate chooses between the refusal and 9.
use mathlib.Core.Path.{sym, ◌∙◌}
use Rattle.capi.proofs.CallLaws.{unless-fit, unless_not}
use Rattle.capi.proofs.unless_unfit.Goals as goal

pub returns-then-is_fit_crate : goal.returns-then-is_fit_crate
returns-then-is_fit_crate c = unless-fit _ _ (sym c.is_fit_crate.ensures ∙ c.if-is_fit_crate.true)

pub returns : goal.returns
returns c = unless_not _ _ (sym c.is_fit_crate.ensures ∙ c.if-is_fit_crate.false)
