-- `is_fit_station` meets its contract: the lent part of the memory is the station's block.
use Prim.Native.Nat.{◌+◌}
use mathlib.Core.Path.{ap, ◌∙◌}
use Rattle.station.specs.Block.{is_fit_block}
use Rattle.blocks.proofs.Blocks.{part-block}
use Rattle.dataway.specs.Crate.{is_fit_station}
use Rattle.dataway.proofs.fitness.is_fit_station.Goals as goal

pub returns : goal.returns
unfolding is_fit_station
returns c = c.is_fit_block.ensures ∙ ap is_fit_block (part-block c.args.memory.now (1 + c.args.i) _ _ c.block.ensures.start c.block.ensures.end)
