-- `is_requesting` meets its contract: the lent part of the memory is the station's block.
use Rattle.blocks.proofs.Blocks.{part-block}
use Rattle.dataway.specs.Lam.{is_requesting}
use Rattle.dataway.proofs.lam.is_requesting.Goals as goal

pub returns : goal.returns
unfolding is_requesting
returns c = rw (part-block c.args.memory.now c.args.n _ _ c.block.ensures.start c.block.ensures.end)
