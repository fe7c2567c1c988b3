-- A number of at most ten digits fits the buffer from place 4 on.
use native.Mathlib.Omega.{arith}
use Rattle.text.proofs.Decimal.{length-ten}
use Rattle.text_check.proofs.show_decimal.Goals as goal

pub put_decimal-next-requires : goal.put_decimal-next-requires
put_decimal-next-requires g c = omega (arith, length-ten c.args.n)
