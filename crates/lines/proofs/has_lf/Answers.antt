-- `has_lf` meets its contract: an LF is found exactly where the bytes before the present one have one.
use lib.Dec.{eqb}
use lib.ListN.{get_or}
use mathlib.Core.Path.{sym, ap, ◌∙◌}
use mathlib.Core.Bool.{Bool, ◌||◌}
use Rattle.lines.proofs.LfLaws.{has_more}
use Rattle.lines.proofs.has_lf.Goals as goal

pub loop-byte-preserved : goal.loop-byte-preserved
loop-byte-preserved c =
    let l = c.args.bytes.now in
    let k = c.loop-byte.byte-index in
    ap (λ (b : Bool). b || eqb (get_or l k 0) 10) c.loop-byte.invariant ∙ sym (has_more l k c.loop-byte-test.true)
