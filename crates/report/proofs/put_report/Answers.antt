-- `put_report` meets its contract: the lists part nowhere (`report-same`), or at a first watch (`report-parted`).
use Rattle.report.proofs.ReportLaws.{report-same, report-parted}
use Rattle.report.proofs.put_report.Goals as goal

pub returns-in-None : goal.returns-in-None
returns-in-None c = report-same c.in-None.is c.compare.ensures c.put_bytes.ensures

pub returns-in-Some : goal.returns-in-Some
returns-in-Some c = report-parted _ c.in-Some.is c.compare.ensures c.put_lines-at.ensures c.put_bytes-in-Some.ensures
