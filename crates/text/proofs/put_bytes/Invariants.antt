-- `text::put_bytes` meets its contract: after i turns the buffer is the lent one with the first i bytes pasted.
use mathlib.Core.Path.{◌≡◌}
use lib.ListN.{take}
use Rattle.text.specs.Paste.{pasted}
use Rattle.text.proofs.put_bytes.Given as goal

abbrev pub invariant-loop-i : goal.invariant-loop-i
invariant-loop-i l = l.out ≡ pasted l.initial.out l.at (take l.i l.bytes)
