-- A key of at most 20 bytes and a number of at most ten digits fit the buffer.
use mathlib.Core.Path.{sym}
use native.Mathlib.Omega.{arith}
use lib.ListN.{length-append}
use lib.Seq.{length-take-le}
use Rattle.text.specs.Text.{decimal}
use Rattle.text.proofs.Decimal.{length-ten}
use Rattle.read_check.proofs.show_field.Goals as goal

pub put_field-next-requires : goal.put_field-next-requires
put_field-next-requires g c = omega (arith, length-ten c.args.n)

pub slice_bounds-out-end : goal.slice_bounds-out-end
slice_bounds-out-end g c = omega (arith, c.put_field-next.ensures.place, length-append c.args.key.now (decimal c.args.n), length-ten c.args.n)

pub slice_bounds-show-end : goal.slice_bounds-show-end
slice_bounds-show-end g c =
    let put = c.put_field-next in
    sym (length-take-le put.result put.new.out (omega (arith, put.ensures.place, length-append c.args.key.now (decimal c.args.n), length-ten c.args.n)))
