-- `has_lf` meets its contract: an LF is found exactly where the bytes before the present one have one.
use lib.ListN.{take}
use mathlib.Core.Path.{◌≡◌}
use Rattle.lines.specs.Lines.{has_lf}
use Rattle.lines.proofs.has_lf.Given as goal

abbrev pub invariant-loop-byte : goal.invariant-loop-byte
invariant-loop-byte l = l.found ≡ has_lf (take l.byte-index l.bytes)
