-- `l_pattern` meets its contract: the next station's bit is put above those of the stations before it.
use mathlib.Core.Path.{◌≡◌, sym, ap, ◌∙◌}
use borrow.Author.Rules.{rules}
use Rattle.word24.specs.Word.{as_bit}
use Rattle.dataway.proofs.LamLaws.{pattern-zero, pattern-or}
use Rattle.dataway.proofs.lam.l_pattern.Goals as goal

pub loop-n-init : goal.loop-n-init
loop-n-init c = sym (pattern-zero c.args.memory.now)

pub loop-n-preserved : goal.loop-n-preserved
loop-n-preserved c =
    let bit : c.from.result ≡ as_bit c.is_requesting.result = search rules in
    pattern-or c.args.memory.now c.loop-n.n _ _ c.loop-n-test.true c.loop-n.invariant (bit ∙ ap as_bit c.is_requesting.ensures)
