-- `take_in_place` meets its contract: the first 81 bytes of text stand for the line buffer.
use Rattle.lines.specs.Cutting.{opened, feed, step}
use Rattle.lines.proofs.CuttingLaws.{feed-shut, step-shut}
use Rattle.reader.proofs.InPlace.{none-held, anywhere, in_place}
use Rattle.lines.proofs.Parts.{window-part}
use mathlib.Core.Bool.{false}
use Rattle.reader.specs.Reading.{State, rehearsing, state_of}
use lib.Seq.{length-take-le}
use lib.ListN.{take}
use native.Mathlib.Omega.{arith}
use mathlib.Core.List.{List}
use Prim.Native.Nat.{ℕ}
use mathlib.Core.Path.{◌≡◌, sym, ap, ◌∙◌}
use Rattle.reader.proofs.take_in_place.Goals as goal

-- a state that takes no more lines
shut-line : (s : State) (t : List ℕ) → opened rehearsing s ≡ false → step rehearsing (feed rehearsing s t) 10 ≡ s
shut-line s t e = ap (λ (x : State). step rehearsing x 10) (feed-shut rehearsing s t e) ∙ step-shut rehearsing s 10 e

pub returns-then-not-takes_lines-clause-state : goal.returns-then-not-takes_lines-clause-state
returns-then-not-takes_lines-clause-state c = let a = c.args in
    λ l. sym (shut-line (state_of a.s l a.memory.now a.out.now) (take a.n a.text.now) (sym c.takes_lines.ensures ∙ c.if-not-takes_lines.true))

pub returns : goal.returns
returns c = let pre = c.requires in
    let a = c.args in
    let ended = c.end_line in
    let window = take 81 a.text.now in
    let d = ended.ensures in
    let fill = none-held ended.result window _ _ _ (omega (arith, length-take-le 81 a.text.now (omega arith))) d.out_after in record {
      state = λ l. anywhere ended.result l window _ _ fill ∙ d.out_after
          ∙ in_place (state_of a.s l a.memory.now a.out.now) _ (take a.n a.text.now) (ap (λ (k : ℕ). take k l) pre.bounds.0)
          (sym c.takes_lines.ensures ∙ c.if-not-takes_lines.false) pre.no_lf (window-part a.text.now a.n _ (omega arith) c.min.ensures);
      counts = (fill, d.held.within);
      fit = d.held.fit;
    }
