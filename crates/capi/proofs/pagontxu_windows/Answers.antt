-- `pagontxu_windows` meets its contract: what the open call answers, told as a number and as a count.
use Rattle.capi.proofs.WindowLaws.{windows-told}
use Rattle.capi.proofs.pagontxu_windows.Goals as goal

pub returns : goal.returns
returns c = windows-told _ _ _ _ _ _ _ _ _ _ c.flag_sheet-flagging.ensures.sheet c.flagging_number.ensures
    c.flagging_count.ensures
