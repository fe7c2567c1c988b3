-- `touches` meets its contract: a step that does not reach the station is not seen, else its verdict decides.
use mathlib.Core.Path.{sym, ap, ◌∙◌}
use Rattle.std.specs.Prelude.{is_ok}
use Rattle.verdict.proofs.CountedLaws.{see_unreached, see_judged}
use Rattle.verdict.proofs.touches.Goals as goal

pub returns-then-reaches : goal.returns-then-reaches
returns-then-reaches c =
    c.is_ok.ensures.value ∙ ap is_ok c.judge.ensures ∙ sym (see_judged _ _ _ c.requires.1 c.requires.0 (sym c.reaches.ensures ∙ c.if-reaches.true))

pub returns-else-reaches : goal.returns-else-reaches
returns-else-reaches c = c.if-reaches.false ∙ sym (see_unreached _ _ c.requires.1 (sym c.reaches.ensures ∙ c.if-reaches.false))
