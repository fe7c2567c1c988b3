-- `finish` meets its contract: only a line that has bytes is ended.
use Rattle.lines.proofs.CuttingLaws.{closed-shut, closed_none, closed-end}
use Rattle.listfile.proofs.ListingLaws.{taken, past}
use Rattle.listfile.specs.Listing.{storing, state_of}
use lib.Seq.{length-take-le}
use lib.ListN.{length, take}
use mathlib.Core.Path.{◌≡◌, sym, ◌∙◌}
use Prim.Native.Nat.{◌<◌}
use native.Mathlib.Omega.{arith}
use Rattle.listfile.proofs.finish.Goals as goal
use Rattle.listfile.proofs.finish.Goals.{then-s-ge-LINES-via-then-s-ge-LINES, then-s-ge-LINES-via-else-s-ge-LINES+then-s-eq0}

pub returns-then-s-ge-LINES-clause-words_after : goal.returns-then-s-ge-LINES-clause-words_after
returns-then-s-ge-LINES-clause-words_after c = let a = c.args in
    let s = state_of a.s a.line.now a.words.now in
    elim c.then-s-ge-LINES.branch [
      | then-s-ge-LINES-via-then-s-ge-LINES w ↦ sym (closed-shut storing s (past s w.if-s-ge-LINES.true))
      | then-s-ge-LINES-via-else-s-ge-LINES+then-s-eq0 w ↦
          let n : length (take a.s.fill a.line.now) ≡ 0 = rw (length-take-le a.s.fill a.line.now (omega arith)) w.if-s-eq0.true in
          sym (closed_none storing s (taken s w.if-s-ge-LINES.false) n)
    ]

pub returns-clause-words_after : goal.returns-clause-words_after
returns-clause-words_after c = let a = c.args in
    let s = state_of a.s a.line.now a.words.now in
    let n : 0 < length (take a.s.fill a.line.now) = rw (length-take-le a.s.fill a.line.now (omega arith)) (omega arith) in
    c.end_line.ensures.words_after ∙ sym (closed-end storing s (taken s (omega arith)) n)
