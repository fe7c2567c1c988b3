-- `refused` meets its contract: the places that are counted are those whose steps are refused.
use mathlib.Core.Path.{refl, ◌∙◌}
use Rattle.std.proofs.Common.{arith, rules, tests}
use Rattle.std.proofs.lemmas.Iterator.{YieldsList-from_range}
use Rattle.std.proofs.lemmas.Iterator.Consumers.{count_from_yields_List, YieldsList-from_filter, YieldsList-at}
use Rattle.std.specs.Prelude.{is_err}
use Rattle.verdict.specs.Counted.{step_at, count}
use Rattle.verdict.proofs.Walks.{refused_places}
use Rattle.verdict.proofs.refused.Goals as goal

pub returns : goal.returns
returns c = let ws = c.args.words.now in
    count_from_yields_List _ _ c.count.ensures.ran
    (YieldsList-from_filter _ (λ i. is_err (step_at ws i))
    (YieldsList-at c.filter.ensures.source (YieldsList-from_range 0 (count ws) (count ws) refl (omega arith)))
    c.filter.ensures.closure (λ x r q k. (search rules, search (rules, tests))))
    ∙ refused_places ws (count ws)
