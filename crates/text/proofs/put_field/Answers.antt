-- `text::put_field` meets its contract: what its two calls put, one after the other, was put as one text; a single digit is one byte.
use mathlib.Core.Path.{ap}
use native.Mathlib.Omega.{arith}
use lib.ListN.{length}
use Rattle.text.proofs.Decimal.{decimal-one}
use Rattle.text.proofs.Paste.{put-digit, put_then}
use Rattle.text.proofs.put_field.Goals as goal

pub bounds-out-next : goal.bounds-out-next
bounds-out-next c = let n = c.args.n in
    omega (arith, ap length (decimal-one n c.if-n-lt10.true))

pub returns-then-n-lt10 : goal.returns-then-n-lt10
returns-then-n-lt10 c = let n = c.args.n in
    let small = c.if-n-lt10.true in
    put_then c.put_bytes-next.ensures (put-digit _ _ n small (omega (arith, ap length (decimal-one n small)))) (omega arith)

pub returns : goal.returns
returns c = put_then
    c.put_bytes-next.ensures
    c.put_decimal.ensures
    (omega arith)
