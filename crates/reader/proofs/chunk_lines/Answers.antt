-- `chunk_lines` meets its contract: each turn takes the bytes up to the next LF and the LF itself.
use Rattle.reader.proofs.InPlace.{fed-line}
use Rattle.lines.proofs.Parts.{next-in-rest, length_rest}
use Rattle.lines.specs.Cutting.{feed}
use Rattle.lines.proofs.CuttingLaws.{fed-span}
use Rattle.reader.specs.Reading.{State, rehearsing, state_of}
use lib.ListN.{length, take, drop}
use mathlib.Core.Path.{sym, ap, ◌∙◌}
use Prim.Native.Nat.{◌+◌, ◌-◌}
use native.Mathlib.Omega.{arith}
use Rattle.reader.proofs.chunk_lines.Goals as goal

pub returns-then-e-text-clause-out_after : goal.returns-then-e-text-clause-out_after
returns-then-e-text-clause-out_after c = let a = c.args in
    let l = c.loop-i in
    fed-span rehearsing (state_of a.s a.line.now a.memory.now a.out.now) a.text.now _ l.i l.invariant.fed c.find_lf-e.result _ (omega arith)
    (c.take_span-r.ensures.state l.memory l.out)

pub take_line-r-requires-clause-next_lf : goal.take_line-r-requires-clause-next_lf
take_line-r-requires-clause-next_lf c = next-in-rest c.args.text.now c.loop-i.i c.find_lf-e.result c.find_lf-e.ensures

pub take_line-r-requires-clause-n_bound : goal.take_line-r-requires-clause-n_bound
take_line-r-requires-clause-n_bound c = omega (arith, length_rest c.args.text.now c.loop-i.i)

pub loop-i-preserved : goal.loop-i-preserved
loop-i-preserved c = let a = c.args in
    let pre = c.requires in
    let l = c.loop-i in
    let e = c.find_lf-e.result in
    let d = c.take_line-r.ensures in
    let rest = take (length a.text.now - l.i) (drop l.i a.text.now) in
    let s₀ = state_of a.s a.line.now a.memory.now a.out.now in
    record {
      reached = omega arith;
      line_len = d.held.lined ∙ sym pre.lined;
      memory_len = d.held.fit.size ∙ sym pre.fit.size;
      out_len = c.take_line-r.auto.out ∙ l.invariant.out_len;
      filled = d.held.filled;
      within = d.held.within;
      fit = d.held.fit;
      unprinted = λ h. omega arith;
      fed = d.out_after
          ∙ ap (λ (s : State). feed rehearsing s (take (e - l.i + 1) rest)) l.invariant.fed
          ∙ sym (fed-line s₀ a.text.now l.i e (omega arith) (omega arith));
    }
