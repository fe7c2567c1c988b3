-- `put_runs` meets its contract: after each turn the stations before k were taken (`heard-next`), and with the line of the last run all lines are put (`heard_all`).
use native.Mathlib.Omega.{arith}
use mathlib.Core.Path.{refl}
use Rattle.report.proofs.HeardLaws.{heard-start, heard-next, heard_all}
use Rattle.report.proofs.put_runs.Goals as goal

pub loop-k-init : goal.loop-k-init
loop-k-init c = let p = c.requires.none_before in
    (refl, heard-start c.args.out.now p.0 p.2 refl)

pub loop-k-preserved : goal.loop-k-preserved
loop-k-preserved c = let i = c.loop-k.invariant in
    let more = heard-next i.1 c.parting_of.ensures c.take_station-last.ensures in
    (omega (arith, i.0), more)

pub returns : goal.returns
returns c = let i = c.loop-k.invariant in
    heard_all (omega arith) i.1 c.put_run.ensures
