-- `run_scan` meets its contract: it is `run_step` of a scan, and what that answers tells where the scan has been.
use Rattle.rehearsal.proofs.ToldLaws.{scan-told}
use Rattle.rehearsal.proofs.scan.run_scan.Goals as goal

pub returns : goal.returns
returns c = let did = c.run_step.ensures in record { step = did.step; words = did.words; been = scan-told _ _ _ _ _ _ _ _ _ _ did.step }
