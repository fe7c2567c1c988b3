-- `more_lines` meets its contract. The loop's invariant: so many lines lie before index i as were counted.
use Rattle.lines.proofs.Counting.{lines_from, line-from, last-from, more-from}
use borrow.Author.Tests.{le-ltb}
use mathlib.Core.Path.{sym}
use native.Mathlib.Omega.{arith}
use Rattle.lines.proofs.more_lines.Goals as goal

pub returns-then-e-text : goal.returns-then-e-text
returns-then-e-text c =
    let text = c.args.text.now in
    let last = last-from text c.loop.i c.find_lf-e.result c.find_lf-e.ensures c.if-e-text.true in
    sym (le-ltb c.args.many (lines_from text 0) (omega (arith, last, c.loop.invariant.counted)))

pub loop-preserved : goal.loop-preserved
loop-preserved c =
    let text = c.args.text.now in
    let next = c.find_lf-e.ensures in
    let one = line-from text c.loop.i c.find_lf-e.result next (omega (arith, next.within, c.if-e-text.false)) in
    record { within = omega (arith, next.within, c.if-e-text.false); counted = omega (arith, one, c.loop.invariant.counted) }

pub returns : goal.returns
returns c = more-from c.args.text.now c.loop.i c.args.many (omega (arith, c.loop.invariant.counted))
