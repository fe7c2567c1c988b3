-- `put_three` meets its contract: three fields put one after the other were put as one text.
use native.Mathlib.Omega.{arith}
use Rattle.text.proofs.Paste.{put_then, after-field}
use Rattle.text.proofs.Decimal.{length-ten}
use Rattle.sheet.proofs.put_three.Goals as goal

pub put_field-after_first-requires : goal.put_field-after_first-requires
put_field-after_first-requires c = omega (arith, length-ten c.args.first.1)

pub put_field-after_second-requires : goal.put_field-after_second-requires
put_field-after_second-requires c =
    let a = c.args in
    omega (arith, length-ten a.second.1, after-field a.first.0.now a.first.1 c.put_field-after_first.ensures)

pub put_field-requires : goal.put_field-requires
put_field-requires c =
    let a = c.args in
    let first = after-field a.first.0.now a.first.1 c.put_field-after_first.ensures in
    omega (arith, length-ten a.third.1, first, after-field a.second.0.now a.second.1 c.put_field-after_second.ensures)

pub returns : goal.returns
returns c =
    let first = c.put_field-after_first.ensures in
    let second = c.put_field-after_second.ensures in
    put_then (put_then first second (omega arith)) c.put_field.ensures (omega arith)
