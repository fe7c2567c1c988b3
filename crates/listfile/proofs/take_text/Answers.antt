-- `take_text` meets its contract. The loop's invariant: reader, line and words are those of the first i bytes.
use Rattle.lines.proofs.CuttingLaws.{fed-span, fed-end, fed-all, fed-over}
use Rattle.listfile.proofs.ListingLaws.{taken, past}
use Rattle.listfile.specs.Listing.{storing, state_of}
use mathlib.Core.Path.{◌∙◌}
use native.Mathlib.Omega.{arith}
use Rattle.listfile.proofs.take_text.Goals as goal

pub returns-else-r-lt-LINES-clause-words_after : goal.returns-else-r-lt-LINES-clause-words_after
returns-else-r-lt-LINES-clause-words_after c = let a = c.args in
    let l = c.loop-i in
    fed-over storing (state_of a.s a.line.now a.words.now) a.text.now (state_of l.r l.line l.words) l.i l.invariant.fed
    (past (state_of l.r l.line l.words) (omega arith))

pub returns-then-e-text-clause-words_after : goal.returns-then-e-text-clause-words_after
returns-then-e-text-clause-words_after c = let a = c.args in
    let l = c.loop-i in
    let e = c.find_lf-e.result in
    let span = c.take_span-r in
    let s₀ = state_of a.s a.line.now a.words.now in
    let y = state_of span.result span.new.line l.words in
    fed-all storing s₀ a.text.now y e (fed-span storing s₀ a.text.now (state_of l.r l.line l.words) l.i l.invariant.fed e y (omega arith)
    (span.ensures.state l.words)) (omega arith)

pub loop-i-preserved : goal.loop-i-preserved
loop-i-preserved c = let a = c.args in
    let l = c.loop-i in
    let found = c.find_lf-e in
    let span = c.take_span-r in
    let e = found.result in
    let s₀ = state_of a.s a.line.now a.words.now in
    let y = state_of span.result span.new.line l.words in
    let more = fed-span storing s₀ a.text.now (state_of l.r l.line l.words) l.i l.invariant.fed e y (omega arith) (span.ensures.state l.words) in
    record {
      reached = omega arith;
      line_len = omega arith;
      words_len = omega arith;
      filled = omega arith;
      within = omega arith;
      fed = c.end_line-r.ensures.words_after
          ∙ fed-end storing s₀ a.text.now y e more (omega arith) (found.ensures.there (omega arith)) (taken y (omega arith));
    }
