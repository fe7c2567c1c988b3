-- `put_refusal` meets its contract: a refusal number that parts nowhere has no line; of another the name and the three lines are put one after the other.
use native.Mathlib.Omega.{arith}
use Rattle.text.specs.Text.{bytes, field}
use Rattle.text.proofs.Decimal.{length-ten}
use Rattle.text.proofs.Paste.{put_then, after-field}
use Rattle.sheet.proofs.Room.{put-nothing}
use Rattle.report.proofs.LineLaws.{line_as}
use Rattle.report.proofs.put_refusal.Goals as goal

pub put_field-next-requires : goal.put_field-next-requires
put_field-next-requires c = omega (arith, length-ten c.args.q)

pub put_numbers-requires : goal.put_numbers-requires
put_numbers-requires c = let a = c.args in
    omega (arith, after-field (bytes "refused=") a.q c.put_field-next.ensures)

pub returns-in-None : goal.returns-in-None
returns-in-None c = let a = c.args in line_as (field "refused=" a.q) c.in-None.is (put-nothing a.out.now a.at)

pub returns-in-Some : goal.returns-in-Some
returns-in-Some c = let a = c.args in
    let parts = c.in-Some.is in
    let name = c.put_field-next.ensures in
    line_as (field "refused=" a.q) parts (put_then name c.put_numbers.ensures (omega arith))
