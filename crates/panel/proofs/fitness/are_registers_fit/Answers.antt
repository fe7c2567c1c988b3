-- `are_registers_fit` meets its contract: for either kind of module, the chain tests each of the 16 registers.
use Rattle.std.proofs.Common.{◌≡◌, refl, true, false, rules, tests}
use Rattle.std.proofs.lemmas.Iterator.{YieldsList-from_range, cases_from_all}
use Rattle.station.specs.Block.{is_fit_register}
use Rattle.panel.proofs.FitnessLaws.{all_below}
use Rattle.panel.proofs.fitness.are_registers_fit.Goals as goal

pub returns-then-b-eq-BUFFER_MEMORY : goal.returns-then-b-eq-BUFFER_MEMORY
returns-then-b-eq-BUFFER_MEMORY c =
    all_below 16 (is_fit_register c.args.b.now) c.all.result
    (cases_from_all _ _ _ (λ i. is_fit_register c.args.b.now i ≡ true) (λ i. is_fit_register c.args.b.now i ≡ false) c.all.ensures.ran
    (YieldsList-from_range 0 16 16 refl refl) (λ x q k. search (rules, tests)) (λ x q k. search (rules, tests)))

pub returns-else-b-eq-BUFFER_MEMORY : goal.returns-else-b-eq-BUFFER_MEMORY
returns-else-b-eq-BUFFER_MEMORY c =
    all_below 16 (is_fit_register c.args.b.now) c.all-else-b-eq-BUFFER_MEMORY.result
    (cases_from_all _ _ _ (λ i. is_fit_register c.args.b.now i ≡ true) (λ i. is_fit_register c.args.b.now i ≡ false) c.all-else-b-eq-BUFFER_MEMORY.ensures.ran
    (YieldsList-from_range 0 16 16 refl refl) (λ x q k. search (rules, tests)) (λ x q k. search (rules, tests)))
