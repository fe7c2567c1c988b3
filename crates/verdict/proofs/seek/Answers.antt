-- `seek` meets its contract: none of the steps passed over is step i of the first list.
use mathlib.Core.Path.{sym}
use Rattle.std.proofs.Common.{◌≡◌, rules, subst}
use Rattle.std.proofs.lemmas.Iterator.{first_from_Range}
use Rattle.verdict.specs.Counted.{step_at}
use Rattle.verdict.specs.Compared.{Stands}
use Rattle.verdict.proofs.Walks.{stands_found}
use Rattle.verdict.proofs.seek.Goals as goal

pub returns : goal.returns
returns c =
    let us = c.args.first.now in
    let i = c.args.i in
    let ws = c.args.second.now in
    subst (λ r. Stands us i ws c.args.from r) (sym c.unwrap_or.ensures)
    (stands_found us i ws c.args.from c.find.result c.requires.0
    (first_from_Range _ _ _ _ (λ j. step_at us i ≡ step_at ws j) (λ j. step_at us i ≡ step_at ws j → ⊥) c.find.ensures.ran
    (λ x q h. search rules) (λ x q h. (search rules, search rules))))
