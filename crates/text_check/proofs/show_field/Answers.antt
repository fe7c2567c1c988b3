-- A number of at most ten digits fits the buffer behind its key.
use native.Mathlib.Omega.{arith}
use Rattle.text.proofs.Decimal.{length-ten}
use Rattle.text_check.proofs.show_field.Goals as goal

pub put_field-next-requires : goal.put_field-next-requires
put_field-next-requires g c = omega (arith, length-ten c.args.n)
