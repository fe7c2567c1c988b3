-- `text::spell` meets its contract: at each turn, pasting the digits that are still to come over the buffer gives the same
-- as pasting all of them over the buffer that was lent.
use Prim.Native.Nat.{ℕ, zero, suc, ◌+◌, ◌-◌, ◌/◌, ◌%◌, ◌≤◌, ◌<◌}
use mathlib.Core.Path.{◌≡◌, sym, ◌∙◌}
use mathlib.Core.List.{List}
use native.Mathlib.Nat.{not-suc-le-zero}
use native.Mathlib.Numerals.{sub-one}
use native.Mathlib.Omega.{arith}
use lib.ListN.{length, set}
use Rattle.text.specs.Digits.{digits}
use Rattle.text.specs.Paste.{pasted}
use Rattle.text.proofs.Decimal.{length_digits}
use Rattle.text.proofs.Paste.{paste-nothing, paste-before}
use Rattle.text.proofs.spell.Goals as goal

-- a turn stores the last of the digits that are still to come
stored : (out : List ℕ) (at i rest : ℕ) → 0 < i → at + i ≤ length out
    → pasted (set out (at + (i - 1)) (48 + rest % 10)) at (digits (i - 1) (rest / 10)) ≡ pasted out at (digits i rest)
stored out at zero rest some room = absurd (not-suc-le-zero some)
stored out at (suc j) rest some room =
    let e : length (digits j (rest / 10)) ≡ j = length_digits j (rest / 10) in
    rw (sub-one (suc j)) (rw e at (paste-before out at (digits j (rest / 10)) (48 + rest % 10) (omega arith)))

-- nothing is left to come
done : (out : List ℕ) (at i rest : ℕ) → i ≡ 0 → out ≡ pasted out at (digits i rest)
done out at i rest e = rw e (sym (paste-nothing out at))

pub loop-i-preserved : goal.loop-i-preserved
loop-i-preserved c =
    let l = c.loop-i in
    stored l.out c.args.at l.i l.rest (omega arith) (omega arith) ∙ l.invariant

pub returns : goal.returns
returns c =
    let l = c.loop-i in
    done l.out c.args.at l.i l.rest (omega arith) ∙ l.invariant
