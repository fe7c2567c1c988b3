-- `take_span` meets its contract: of a line as many bytes are kept as the line buffer takes.
use native.Mathlib.Omega.{arith}
use mathlib.Core.Path.{◌≡◌, refl, sym, ◌∙◌}
use lib.ListN.{length, take}
use lib.Seq.{length-take-le, take_all}
use Rattle.reader.specs.Reading.{rehearsing, state_of}
use Rattle.reader.proofs.ReadingLaws.{states}
use Rattle.lines.proofs.CuttingLaws.{feed-shut, feed-span}
use Rattle.reader.proofs.take_span.Goals as goal

pub returns-then-not-takes_lines-clause-state : goal.returns-then-not-takes_lines-clause-state
returns-then-not-takes_lines-clause-state c =
    λ m o. sym (feed-shut rehearsing (state_of c.args.s c.args.line.now m o) c.args.span.now (sym c.takes_lines.ensures ∙ c.if-not-takes_lines.true))

pub returns-clause-state : goal.returns-clause-state
returns-clause-state c = let a = c.args in
    let p = take a.s.fill a.line.now in
    let len : length p ≡ a.s.fill = length-take-le a.s.fill a.line.now (omega arith) in
    λ m o.
    states c.keep-fill.ensures.line refl refl refl refl refl
    ∙ sym (feed-span rehearsing a.span.now (state_of a.s a.line.now m o) (sym c.takes_lines.ensures ∙ c.if-not-takes_lines.false) (sym (take_all 81 p (omega arith)))
    c.requires.no_lf)
