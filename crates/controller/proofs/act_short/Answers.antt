-- `act_short` meets its contract: a transfer that is fine at the trigger processor's entry has the fields that the general entry's call asks for.
use Rattle.controller.proofs.Arms.{short-scan-good, short-repeat-good, short-stop-good}
use Rattle.controller.proofs.act_short.Goals as goal

pub scan-requires : goal.scan-requires
scan-requires c = record { fit_crate = c.requires.fit_crate; fields = short-scan-good _ _ c.requires.judged _ _ _ _ _ c.in-ShortScan.is }

pub repeat-requires : goal.repeat-requires
repeat-requires c = record { fit_crate = c.requires.fit_crate; fields = short-repeat-good _ _ c.requires.judged _ _ _ _ _ c.in-ShortRepeat.is }

pub stop-requires : goal.stop-requires
stop-requires c = record { fit_crate = c.requires.fit_crate; fields = short-stop-good _ _ c.requires.judged _ _ _ _ c.in-ShortStop.is }
