-- `zero_module` meets its contract: words 2 to 5 are stored, and the part from word 16 on comes back all zero.
use mathlib.Core.Path.{◌∙◌}
use lib.ListN.{length-set}
use Rattle.station.proofs.BlockLaws.{tail-zeroed, header-zeroed}
use Rattle.station.specs.Block.{with_status, with_mask, with_head, with_fill}
use Rattle.station.proofs.block.zero_module.Goals as goal

pub returns : goal.returns
returns c = let entry = c.args in
    let b = entry.b.now in
    tail-zeroed (with_fill (with_head (with_mask (with_status b entry.status) entry.mask) 0) 0) c.fill.new.self
    (simp length-set c.requires) (c.fill.ensures.after (λ y e. e))
    ∙ header-zeroed b entry.status entry.mask c.requires
