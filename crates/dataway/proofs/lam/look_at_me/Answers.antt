-- `look_at_me` meets its contract: the count of ones and the trailing zeros of the pattern are the count and the lowest of the requesting stations.
use Rattle.dataway.proofs.LamLaws.{reading-none, reading-some}
use Rattle.dataway.proofs.lam.look_at_me.Goals.{then-l-eq0, else-l-eq0}
use Rattle.dataway.proofs.lam.look_at_me.Goals as goal

pub returns : goal.returns
returns c =
    let pattern = c.l_pattern-l.ensures in
    elim c.if-l-eq0.branch [
      | then-l-eq0 w ↦ reading-none c.args.memory.now _ pattern c.if-l-eq0.first w.if-l-eq0.true w.first-is
      | else-l-eq0 w ↦ reading-some c.args.memory.now _ pattern c.if-l-eq0.first w.if-l-eq0.false w.first-is
    ]
