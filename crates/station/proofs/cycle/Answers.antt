-- `cycle` meets its contract: outside the span nothing is done (`not_in`); else each arm's function is called below r, and ensures its case of `functions_of`.
use mathlib.Core.Path.{sym, ◌∙◌}
use Rattle.station.proofs.AcceptedLaws.{read_below, not_in}
use Rattle.station.proofs.cycle.Goals as goal

pub returns-then-not-has : goal.returns-then-not-has
returns-then-not-has c = not_in _ c.requires.fit_block _ _ c.requires.accepts_at _ _ (sym c.has.ensures ∙ c.if-not-has.true)

pub read-requires-clause-below_r : goal.read-requires-clause-below_r
read-requires-clause-below_r c =
    read_below _ c.requires.fit_block _ _ c.requires.accepts_at _ c.requires.read_function (sym c.has.ensures ∙ c.if-not-has.false)

pub read_and_clear-requires-clause-below_r : goal.read_and_clear-requires-clause-below_r
read_and_clear-requires-clause-below_r c =
    read_below _ c.requires.fit_block _ _ c.requires.accepts_at _ c.requires.read_function (sym c.has.ensures ∙ c.if-not-has.false)

pub read_complement-requires-clause-below_r : goal.read_complement-requires-clause-below_r
read_complement-requires-clause-below_r c =
    read_below _ c.requires.fit_block _ _ c.requires.accepts_at _ c.requires.read_function (sym c.has.ensures ∙ c.if-not-has.false)
