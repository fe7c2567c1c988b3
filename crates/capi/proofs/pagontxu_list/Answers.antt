-- `pagontxu_list` meets its contract: the verdict on the run, told as a number.
use Rattle.capi.proofs.CallLaws.{list-told}
use Rattle.capi.proofs.pagontxu_list.Goals as goal

pub returns : goal.returns
returns c = list-told _ _ _ _ _ _ _ _ _ _ c.run_list.ensures.ran
    c.verdict_number.ensures
