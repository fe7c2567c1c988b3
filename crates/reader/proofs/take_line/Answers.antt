-- `take_line` meets its contract: where the line stands or by way of the line buffer, its bytes are taken and then its LF.
use Rattle.lines.proofs.Parts.{no-lf-front}
use Rattle.lines.specs.Cutting.{feed, step}
use Rattle.lines.proofs.CuttingLaws.{fed-more}
use Rattle.reader.specs.Reading.{State, rehearsing, state_of}
use lib.ListN.{take}
use Prim.Native.Nat.{ℕ}
use mathlib.Core.Path.{refl, sym, ap, ◌∙◌}
use Rattle.reader.proofs.take_line.Goals as goal

pub returns-then-text-ge-LINE_BYTES-clause-out_after : goal.returns-then-text-ge-LINE_BYTES-clause-out_after
returns-then-text-ge-LINE_BYTES-clause-out_after c = let a = c.args in
    let pre = c.requires in
    let s = state_of a.s a.line.now a.memory.now a.out.now in
    c.take_in_place.ensures.state a.line.now
    ∙ ap (λ (b : ℕ). step rehearsing (feed rehearsing s (take a.n a.text.now)) b) (sym (pre.next_lf.there pre.n_bound))
    ∙ fed-more rehearsing s a.text.now _ a.n refl pre.n_bound

pub take_span-r-requires-clause-no_lf : goal.take_span-r-requires-clause-no_lf
take_span-r-requires-clause-no_lf c = no-lf-front c.args.text.now c.args.n c.requires.next_lf

pub returns-clause-out_after : goal.returns-clause-out_after
returns-clause-out_after c = let a = c.args in
    let pre = c.requires in
    let s = state_of a.s a.line.now a.memory.now a.out.now in
    c.take_lf.ensures.out_after
    ∙ ap (λ (x : State). step rehearsing x 10) (c.take_span-r.ensures.state a.memory.now a.out.now)
    ∙ ap (λ (b : ℕ). step rehearsing (feed rehearsing s (take a.n a.text.now)) b) (sym (pre.next_lf.there pre.n_bound))
    ∙ fed-more rehearsing s a.text.now _ a.n refl pre.n_bound
