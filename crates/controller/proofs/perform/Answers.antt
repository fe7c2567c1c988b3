-- `perform` meets its contract: a reading that is no step is refused as it says, and any other is its step.
use Rattle.controller.proofs.Arms.{bad-done}
use Rattle.controller.proofs.perform.Goals as goal

pub returns-in-Err : goal.returns-in-Err
returns-in-Err c = let pair = bad-done _ _ c.requires _ _ c.in-Err.is in record { done = pair.0; fit = pair.1 }
