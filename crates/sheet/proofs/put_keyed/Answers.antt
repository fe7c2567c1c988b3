-- `put_keyed` meets its contract: the key, put over the gap, and the number behind it stand one after the other.
use mathlib.Core.Path.{refl}
use native.Mathlib.Omega.{arith}
use Rattle.text.proofs.Paste.{behind-key}
use Rattle.text.proofs.Decimal.{length-ten}
use Rattle.sheet.proofs.put_keyed.Goals as goal

pub put_behind-next-requires : goal.put_behind-next-requires
put_behind-next-requires c = omega (arith, length-ten c.args.n)

pub returns : goal.returns
returns c = behind-key c.put_behind-next.ensures c.put_bytes.ensures refl (omega arith)
