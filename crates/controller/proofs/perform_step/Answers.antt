-- `perform_step` meets its contract: where `judge` refuses, nothing is done; else `act` does the step, and the crate stays fit by the law of all steps.
use Rattle.controller.proofs.Arms.{refused-done, acted-done}
use Rattle.controller.proofs.perform_step.Goals as goal

pub returns-in-Err : goal.returns-in-Err
returns-in-Err c = let pair = refused-done _ _ c.requires _ _ _
    c.judge.ensures c.in-Err.is in record { done = pair.0; fit = pair.1 }

pub returns-in-Ok : goal.returns-in-Ok
returns-in-Ok c = let pair = acted-done _ _
    c.requires _ _ _ _ _
    c.judge.ensures
    c.in-Ok.is c.act.ensures in record { done = pair.0; fit = pair.1 }
