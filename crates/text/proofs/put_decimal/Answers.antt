-- `text::put_decimal` meets its contract: the digits that are spelled, as many as the decimal text is long, are that text.
use Prim.Native.Nat.{ℕ, ◌+◌}
use mathlib.Core.Path.{sym, ap, ◌∙◌}
use native.Mathlib.Omega.{arith}
use Rattle.text.specs.Digits.{digits}
use Rattle.text.specs.Paste.{pasted}
use Rattle.text.proofs.Decimal.{decimal-digits}
use Rattle.text.proofs.put_decimal.Goals as goal

pub returns : goal.returns
returns c = let a = c.args in
    let k = c.places-k.ensures in
    record {
      buffer = c.spell.ensures
          ∙ ap (pasted a.out.now a.at) (ap (λ (k : ℕ). digits k a.n) k ∙ sym (decimal-digits a.n (omega arith)));
      place = ap (λ (k : ℕ). a.at + k) k;
    }
