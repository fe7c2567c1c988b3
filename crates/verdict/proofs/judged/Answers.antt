-- `judged` meets its contract: where `judge` refuses, the step counts as its refusal, and else as itself.
use mathlib.Core.Path.{sym, ap, ◌∙◌}
use Rattle.std.proofs.Common.{Ok}
use Rattle.std.proofs.lemmas.Result.{err_from_is_err_and}
use Rattle.verdict.specs.Counted.{counted_as}
use Rattle.verdict.proofs.CountedLaws.{counted_by}
use Rattle.verdict.proofs.judged.Goals as goal

pub returns-in_err-judge : goal.returns-in_err-judge
returns-in_err-judge c =
    let p = err_from_is_err_and c.from_residual.result c.from_residual.ensures.1 in
    rw (p.1, p.2)
    (sym (counted_by _ _ c.requires ∙ ap (λ v. counted_as v (Ok c.args.step)) (sym c.judge.ensures ∙ c.in_err-judge.was)))

pub returns : goal.returns
returns c = sym (counted_by _ _ c.requires ∙ ap (λ v. counted_as v (Ok c.args.step)) (sym c.judge.ensures ∙ c.in_ok-judge.was))
