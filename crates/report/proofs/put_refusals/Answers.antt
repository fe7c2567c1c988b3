-- `put_refusals` meets its contract: after each turn the lines of the refusal numbers before watch k are put (`refusals-next`).
use native.Mathlib.Omega.{arith}
use mathlib.Core.Path.{refl}
use Rattle.report.proofs.ReportLaws.{refusals-start, refusals-next}
use Rattle.report.proofs.put_refusals.Goals as goal

pub loop-k-init : goal.loop-k-init
loop-k-init c = let a = c.args in
    let p = c.requires.none_before in
    (refl, refusals-start a.out.now a.at a.from p.0 p.2)

pub loop-k-preserved : goal.loop-k-preserved
loop-k-preserved c = let i = c.loop-k.invariant in
    let p = c.requires.fit_lists in
    let more = refusals-next i.1 c.parting_of.ensures (omega (arith, p.2, p.3)) c.put_refusal-next.ensures in
    (omega (arith, i.0), more)
