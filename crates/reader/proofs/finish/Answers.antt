-- `finish` meets its contract: a reader that is shut or holds no byte stays as it is, and of any other the line ends (`closed-end`).
use native.Mathlib.Omega.{arith}
use Prim.Native.Nat.{◌<◌}
use mathlib.Core.Path.{◌≡◌, sym, ◌∙◌}
use lib.ListN.{length, take}
use lib.Seq.{length-take-le}
use Rattle.lines.proofs.CuttingLaws.{closed-shut, closed_none, closed-end}
use Rattle.reader.specs.Reading.{rehearsing}
use Rattle.reader.proofs.finish.Goals as goal
use Rattle.reader.proofs.finish.Goals.{else-takes_lines-via-then-takes_lines+else-s-gt0, else-takes_lines-via-else-takes_lines}

pub returns-then-s-gt0-clause-out_after : goal.returns-then-s-gt0-clause-out_after
returns-then-s-gt0-clause-out_after c = let a = c.args in
    let n : 0 < length (take a.s.fill a.line.now) = rw (length-take-le a.s.fill a.line.now (omega arith)) c.if-s-gt0.true in
    c.end_line.ensures.out_after ∙ sym (closed-end rehearsing _ (sym c.takes_lines.ensures ∙ c.if-takes_lines.true) n)

pub returns-else-takes_lines-clause-out_after : goal.returns-else-takes_lines-clause-out_after
returns-else-takes_lines-clause-out_after c = let a = c.args in
    elim c.else-takes_lines.branch [
      | else-takes_lines-via-then-takes_lines+else-s-gt0 w ↦
          let n : length (take a.s.fill a.line.now) ≡ 0 = rw (length-take-le a.s.fill a.line.now (omega arith)) (omega arith) in
          sym (closed_none rehearsing _ (sym c.takes_lines.ensures ∙ w.if-takes_lines.true) n)
      | else-takes_lines-via-else-takes_lines w ↦ sym (closed-shut rehearsing _ (sym c.takes_lines.ensures ∙ w.if-takes_lines.false))
    ]
