-- `text::put_behind` meets its contract: eight digits end with the number's text, and the digits before that lie in the gap.
use Prim.Native.Nat.{◌+◌, ◌-◌}
use mathlib.Core.Path.{◌∙◌, ap}
use native.Mathlib.Omega.{arith}
use Rattle.text.specs.Paste.{pasted}
use Rattle.text.proofs.Decimal.{length-eight}
use Rattle.text.proofs.Paste.{digits-behind}
use Rattle.text.proofs.put_behind.Goals as goal

pub returns-then-gap-k-ge8 : goal.returns-then-gap-k-ge8
returns-then-gap-k-ge8 c = let a = c.args in
    let k = c.places-k in
    let start = a.at + a.gap + k.result - 8 in
    let text = c.put_eight.ensures ∙ ap (pasted a.out.now start) c.eight_digits.ensures.digits in
    let short = length-eight a.n c.if-n-lt100000000.true in
    digits-behind 8 start text (omega arith) short (omega arith) (omega arith) (omega arith) (omega arith)

pub returns : goal.returns
returns c = let a = c.args in
    let k = c.places-k in
    digits-behind k.result (a.at + a.gap) c.spell.ensures (omega arith) (omega arith) (omega arith) (omega arith) (omega arith) (omega arith)
