-- `sees` meets its contract: a step that may be done is seen by its stations, and a refusal by the watch of its number alone.
-- Assumes nothing.
use Rattle.verdict.proofs.CountedLaws.{see-refused}
use Rattle.verdict.proofs.sees.Goals as goal

pub returns-in-Err : goal.returns-in-Err
returns-in-Err c = see-refused _ _ _ _ c.in-Err.is c.refusal_number.ensures
