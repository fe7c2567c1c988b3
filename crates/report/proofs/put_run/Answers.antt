-- `put_run` meets its contract: stations that part nowhere have no line; of others the names and the three lines are put one after the other.
use native.Mathlib.Omega.{arith}
use Rattle.text.proofs.Paste.{put_then}
use Rattle.sheet.proofs.Room.{put-end, put-nothing}
use Rattle.report.specs.Report.{names_text}
use Rattle.report.proofs.LineLaws.{line_as, names-short}
use Rattle.report.proofs.put_run.Goals as goal

pub put_numbers-requires : goal.put_numbers-requires
put_numbers-requires c = let a = c.args in
    omega (arith, put-end 26 c.put_names-next.ensures (names-short a.low a.high))

pub returns-in-None : goal.returns-in-None
returns-in-None c = let a = c.args in line_as (names_text a.low a.high) c.in-None.is (put-nothing a.out.now a.at)

pub returns-in-Some : goal.returns-in-Some
returns-in-Some c = let a = c.args in
    let parts = c.in-Some.is in
    let names = c.put_names-next.ensures in
    line_as (names_text a.low a.high) parts (put_then names c.put_numbers.ensures (omega arith))
