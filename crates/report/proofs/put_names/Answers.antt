-- `put_names` meets its contract: one station (`names-one`), or more (`names-two`).
use native.Mathlib.Omega.{arith}
use Rattle.text.specs.Text.{bytes}
use Rattle.text.proofs.Decimal.{length-ten}
use Rattle.text.proofs.Paste.{put_then, after-field}
use Rattle.sheet.proofs.Room.{of-text}
use Rattle.report.proofs.LineLaws.{names-one, names-two}
use Rattle.report.proofs.put_names.Goals as goal

pub put_field-next-requires : goal.put_field-next-requires
put_field-next-requires c = omega (arith, length-ten c.args.low)

pub returns-then-low-high : goal.returns-then-low-high
returns-then-low-high c = let a = c.args in
    of-text (names-one a.low a.high c.if-low-high.true) c.put_field-next.ensures

pub put_field-requires : goal.put_field-requires
put_field-requires c = let a = c.args in
    omega (arith, after-field (bytes "n=") a.low c.put_field-next.ensures, length-ten a.high)

pub returns : goal.returns
returns c = let a = c.args in
    let other = c.if-low-high.false in
    let low = c.put_field-next.ensures in
    of-text (names-two a.low a.high other) (put_then low c.put_field.ensures (omega arith))
