-- `next` meets its contract: the steps passed over are not seen by the watch.
use mathlib.Core.Path.{sym}
use Rattle.std.proofs.Common.{◌≡◌, rules, true, false, subst}
use Rattle.std.proofs.lemmas.Iterator.{first_from_Range}
use Rattle.verdict.specs.Counted.{see, step_at}
use Rattle.verdict.specs.Compared.{Next}
use Rattle.verdict.proofs.Walks.{next_found}
use Rattle.verdict.proofs.next.Goals as goal

pub returns : goal.returns
returns c =
    let words = c.args.words.now in
    let k = c.args.k in
    subst (λ r. Next words k c.args.from r) (sym c.unwrap_or.ensures)
    (next_found words k c.args.from c.find.result c.requires.0
    (first_from_Range _ _ _ _ (λ i. see k (step_at words i) ≡ true) (λ i. see k (step_at words i) ≡ false) c.find.ensures.ran
    (λ x q h. search rules) (λ x q h. (search rules, search rules))))
