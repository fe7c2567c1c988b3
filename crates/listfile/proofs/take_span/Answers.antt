-- `take_span` meets its contract: bytes with no LF among them only lengthen the line.
use Rattle.lines.proofs.CuttingLaws.{states, feed-span}
use Rattle.listfile.proofs.ListingLaws.{taken}
use Rattle.listfile.specs.Listing.{storing, state_of}
use lib.Seq.{length-take-le, take_all}
use lib.ListN.{length, take}
use mathlib.Core.Path.{◌≡◌, refl, sym, ◌∙◌}
use native.Mathlib.Omega.{arith}
use Rattle.listfile.proofs.take_span.Goals as goal

pub returns-clause-state : goal.returns-clause-state
returns-clause-state c = let a = c.args in
    let p = take a.s.fill a.line.now in
    let len : length p ≡ a.s.fill = length-take-le a.s.fill a.line.now (omega arith) in
    λ w.
    let s = state_of a.s a.line.now w in
    states c.keep-fill.ensures.line refl refl
    ∙ sym (feed-span storing a.span.now s (taken s (omega arith)) (sym (take_all 81 p (omega arith))) c.requires.no_lf)
