-- `put_crate_refusal` meets its contract: two fields and LF, put one after the other.
use Prim.Native.Nat.{ℕ}
use mathlib.Core.List.{◌++◌}
use mathlib.Core.Path.{ap}
use native.Mathlib.Omega.{arith}
use Rattle.sheet.proofs.Room.{of-text}
use Rattle.sheet.specs.Answers.{crate_text}
use Rattle.text.proofs.Paste.{put_then, after-field}
use Rattle.text.proofs.Decimal.{length-ten}
use Rattle.text.specs.Text.{bytes, field}
use Rattle.sheet.proofs.put_crate_refusal.Goals as goal

pub put_field-next-requires : goal.put_field-next-requires
put_field-next-requires c = omega (arith, length-ten c.args.k)

pub put_field-last-requires : goal.put_field-last-requires
put_field-last-requires c = omega (
  arith,
  after-field (bytes "crate=") c.args.k
      c.put_field-next.ensures,
  length-ten c.refusal_number.result,
)

pub put_bytes-requires : goal.put_bytes-requires
put_bytes-requires c = omega (
  arith,
  after-field (bytes "crate=")
      c.args.k
      c.put_field-next.ensures,
  after-field (bytes " refused=") c.refusal_number.result
      c.put_field-last.ensures,
)

pub returns : goal.returns
unfolding crate_text
returns c = let entry = c.args in
    let first = c.put_field-next in
    let number = c.refusal_number in
    let second = c.put_field-last in
    of-text (ap (λ (n : ℕ). field "crate=" entry.k ++ field " refused=" n ++ bytes "\n") number.ensures)
    (put_then (put_then first.ensures second.ensures (omega arith)) c.put_bytes.ensures (omega arith))
