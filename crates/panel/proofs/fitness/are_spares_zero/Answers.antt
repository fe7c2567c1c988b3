-- `are_spares_zero` meets its contract: the chain tests each of the 8 spare words.
use Rattle.std.proofs.Common.{◌≡◌, rules, tests}
use Rattle.std.proofs.lemmas.Iterator.{YieldsList-from_slice, cases_from_all}
use Rattle.panel.proofs.FitnessLaws.{all_spares}
use Rattle.panel.proofs.fitness.are_spares_zero.Goals as goal

pub returns : goal.returns
returns c =
    all_spares c.args.b.now c.all.result c.requires
    (cases_from_all _ _ _ (λ x. x ≡ 0) (λ x. x ≡ 0 → ⊥) c.all.ensures.ran
    (YieldsList-from_slice _ c.iter.ensures.rest) (λ x q k. search (rules, tests)) (λ x q k. search (rules, tests)))
