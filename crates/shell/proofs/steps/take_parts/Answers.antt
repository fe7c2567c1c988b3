-- All of what was read is taken, and none of it is past the last line.
use mathlib.Core.Path.{sym, ◌∙◌}
use native.Mathlib.Omega.{arith}
use lib.ListN.{take}
use lib.Seq.{length-take-le}
use Rattle.shell.proofs.ListedLaws.{listed_more}
use Rattle.shell.proofs.steps.take_parts.Goals as goal

pub loop-preserved : goal.loop-preserved
loop-preserved g c =
    let n = c.in_ok-n.n in
    let text = c.read_some.new.text in
    record {
      held = c.take_text-r.ensures.held;
      listed = listed_more (take n text) c.loop.invariant.listed (omega (arith, length-take-le n text c.in_ok-n.ensures))
          (sym c.has_past.ensures ∙ c.if-has_past.false) c.take_text-r.ensures.words_after;
    }
