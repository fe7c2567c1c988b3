-- `put_numbers` meets its contract: three fields and LF, put one after the other.
use native.Mathlib.Omega.{arith}
use Rattle.text.specs.Text.{bytes}
use Rattle.text.proofs.Decimal.{length-ten}
use Rattle.text.proofs.Paste.{put_then, after-field}
use Rattle.report.specs.Report.{numbers_text}
use Rattle.report.proofs.put_numbers.Goals as goal

pub put_field-there-requires : goal.put_field-there-requires
put_field-there-requires c = omega (arith, length-ten c.args.parting.first)

pub put_field-instead-requires : goal.put_field-instead-requires
put_field-instead-requires c = let a = c.args in
    omega (arith, after-field (bytes " first=") a.parting.first c.put_field-there.ensures, length-ten a.parting.second)

pub put_field-end-requires : goal.put_field-end-requires
put_field-end-requires c = let a = c.args in
    let first = after-field (bytes " first=") a.parting.first c.put_field-there.ensures in
    omega (arith, first, after-field (bytes " second=") a.parting.second c.put_field-instead.ensures, length-ten a.parting.stands)

pub put_bytes-requires : goal.put_bytes-requires
put_bytes-requires c = let a = c.args in
    let put = c.put_field-there.ensures in
    let first = after-field (bytes " first=") a.parting.first put in
    let second = after-field (bytes " second=") a.parting.second c.put_field-instead.ensures in
    omega (arith, first, second, after-field (bytes " stands=") a.parting.stands c.put_field-end.ensures)

pub returns : goal.returns
unfolding numbers_text
returns c = let first = c.put_field-there.ensures in
    let second = put_then first c.put_field-instead.ensures (omega arith) in
    let stands = put_then second c.put_field-end.ensures (omega arith) in
    put_then stands c.put_bytes.ensures (omega arith)
