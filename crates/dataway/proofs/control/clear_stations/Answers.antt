-- `clear_stations` meets its contract: each station's block is lent in turn.
use Prim.Native.Nat.{◌-◌}
use mathlib.Core.Path.{◌≡◌}
use native.Mathlib.Omega.{arith}
use Rattle.dataway.proofs.StationLaws.{fit_lent, block_lent}
use Rattle.dataway.proofs.ControlLaws.{each_so_far, each_more, each_none}
use Rattle.dataway.specs.Controls.{after_c}
use Rattle.station.specs.Control.{cleared_of}
use Rattle.station.proofs.ControlLaws.{cleared-kept}
use Rattle.dataway.proofs.control.clear_stations.Goals as goal

pub loop-n-init : goal.loop-n-init
loop-n-init c = each_none (λ n. cleared_of) _

pub clear-requires : goal.clear-requires
clear-requires c =
    let fit = each_so_far (λ n. cleared_of) (λ n. cleared-kept) _ c.requires c.loop-n.n _ (omega arith) c.loop-n.invariant in
    fit_lent _ _ _ _ c.block.ensures.start c.block.ensures.end fit (omega arith) (omega arith)

pub loop-n-preserved : goal.loop-n-preserved
loop-n-preserved c =
    each_more (λ n. cleared_of) (λ n. cleared-kept) _ c.requires c.loop-n.n _ _ (omega arith) (omega arith) c.loop-n.invariant
    (block_lent _ _ _ _ c.block.ensures.start c.block.ensures.end cleared_of _ c.clear.ensures)

pub returns : goal.returns
unfolding after_c
returns c = let all : c.loop-n.n - 1 ≡ 23 = omega arith in rw all at c.loop-n.invariant
