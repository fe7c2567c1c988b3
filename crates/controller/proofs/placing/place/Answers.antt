-- `place` meets its contract: a module that is judged fine may stand in the crate (`module-good`), and its station is not covered.
use Rattle.std.proofs.lemmas.Result.{err_from_is_err_and}
use Rattle.controller.proofs.PlacingLaws.{module-good, module-refused, module-placed, placed-fit}
use Rattle.controller.proofs.placing.place.Goals as goal

pub put_module-requires : goal.put_module-requires
put_module-requires c = record { fit_crate = c.requires; fit_module = module-good _ _ _ _ c.judge_module.ensures c.in_ok-judge_module.was }

pub returns-in_err-judge_module : goal.returns-in_err-judge_module
returns-in_err-judge_module c = let entry = c.args in
    let verdict = rw c.covered-covered.ensures at c.judge_module.ensures in
    let sent = err_from_is_err_and c.from_residual.result c.from_residual.ensures.1 in
    record { placed = rw (sent.1, sent.2) (module-refused entry.memory.now entry.previous entry.held _ verdict _ c.in_err-judge_module.was); fit = c.requires }

pub returns : goal.returns
returns c = let entry = c.args in
    let verdict = rw c.covered-covered.ensures at c.judge_module.ensures in
    let good = c.in_ok-judge_module.was in
    let put = c.put_module.ensures in
    record {
      placed = module-placed entry.memory.now entry.previous entry.held _ verdict _ good put;
      fit = placed-fit entry.memory.now entry.previous entry.held _ verdict _ good put c.requires;
    }
