-- `keep` meets its contract: of a line as many bytes are kept as the line buffer takes.
use native.Mathlib.Omega.{arith}
use Prim.Native.Nat.{ℕ, ◌-◌, min}
use mathlib.Core.Path.{◌≡◌, sym, ap, ◌∙◌}
use lib.ListN.{length, take}
use lib.Seq.{length-take-le}
use Rattle.lines.proofs.Parts.{put_front, filled}
use Rattle.lines.proofs.keep.Goals as goal

pub returns-clause-line : goal.returns-clause-line
returns-clause-line c = let a = c.args in
    let n = c.min-n.result in
    let p = take a.fill a.line.now in
    let len : length p ≡ a.fill = length-take-le a.fill a.line.now (omega arith) in
    let cap : n ≡ min (length a.span.now) (81 - length p) = c.min-n.ensures ∙ ap (λ (k : ℕ). min (length a.span.now) (81 - k)) (sym len) in
    put_front c.put_bytes.ensures (omega arith) ∙ filled p a.span.now n (omega arith) cap
