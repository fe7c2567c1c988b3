-- `take_station` meets its contract: the station goes into the last run (`taken-same`), or begins the next (`taken-other`).
use mathlib.Core.Path.{◌∙◌}
use Rattle.report.proofs.LineLaws.{eq_alike}
use Rattle.report.proofs.HeardLaws.{taken-same, taken-other}
use Rattle.report.proofs.take_station.Goals as goal

pub returns-then-eq : goal.returns-then-eq
returns-then-eq c = let a = c.args in
    taken-same a.out.now a.k a.x a.last (c.eq.ensures ∙ eq_alike a.last.parting a.x) c.if-eq.true

pub returns : goal.returns
returns c = let a = c.args in
    taken-other a.k a.x a.last (c.eq.ensures ∙ eq_alike a.last.parting a.x) c.if-eq.false c.put_run-at.ensures
