-- `put_lines` meets its contract: no station parts (`lines-refusals`), or the lines of the refusal numbers follow those of the stations (`lines-both`).
use native.Mathlib.Omega.{arith}
use Rattle.report.proofs.ReportLaws.{lines-refusals, lines-both}
use Rattle.report.proofs.put_lines.Goals as goal

pub returns-then-from-gt-LAST_STATION : goal.returns-then-from-gt-LAST_STATION
returns-then-from-gt-LAST_STATION c = let none = c.requires.watch.1 in
    lines-refusals (omega (arith, c.if-from-gt-LAST_STATION.true)) none c.put_refusals.ensures

pub returns : goal.returns
returns c = lines-both c.put_runs-at.ensures c.put_refusals-2.ensures
