-- `text::spell` meets its contract: at each turn, pasting the digits that are still to come over the buffer gives the same
-- as pasting all of them over the buffer that was lent.
use mathlib.Core.Path.{◌≡◌}
use Rattle.text.specs.Digits.{digits}
use Rattle.text.specs.Paste.{pasted}
use Rattle.text.proofs.spell.Given as goal

abbrev pub invariant-loop-i : goal.invariant-loop-i
invariant-loop-i l = pasted l.out l.at (digits l.i l.rest) ≡ pasted l.initial.out l.at (digits l.k l.n)
