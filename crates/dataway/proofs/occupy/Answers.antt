-- `occupy` meets its contract: the module's own block and, where it is two stations wide, the next.
use native.Mathlib.Omega.{arith}
use Rattle.station.specs.Control.{module_of}
use Rattle.dataway.proofs.StationLaws.{block_lent, cover_lent}
use Rattle.dataway.proofs.ModuleLaws.{occupied-two, occupied-one}
use Rattle.dataway.proofs.occupy.Goals as goal

pub returns-then-held-eq2 : goal.returns-then-held-eq2
returns-then-held-eq2 c =
    let b = c.block.ensures in
    let next = c.block-then-held-eq2.ensures in
    let own = block_lent c.args.memory.now c.args.held.n _ _ b.start b.end (λ x. module_of c.args.held) _ c.put_module.ensures in
    occupied-two _ _ c.args.held own _ c.if-held-eq2.true
    (cover_lent _ _ _ _ next.start next.end (omega arith) (omega arith) _ (c.fill.ensures.after (λ y e. e)))

pub returns-else-held-eq2 : goal.returns-else-held-eq2
returns-else-held-eq2 c =
    let b = c.block.ensures in
    let own = block_lent c.args.memory.now c.args.held.n _ _ b.start b.end (λ x. module_of c.args.held) _ c.put_module.ensures in
    occupied-one _ _ c.args.held own c.if-held-eq2.false
