-- `pagontxu_crate_line` meets its contract: the verdict on the line, told as a number.
use Rattle.capi.proofs.CallLaws.{crate-told}
use Rattle.capi.proofs.pagontxu_crate_line.Goals as goal

pub returns : goal.returns
returns c = crate-told _ _ _ _ _ _ c.crate_line.ensures.placed c.verdict_number.ensures
