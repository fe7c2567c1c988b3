-- `initialize` meets its contract: each station's block is lent in turn.
use Prim.Native.Nat.{ℕ, ◌-◌}
use mathlib.Core.List.{List}
use mathlib.Core.Path.{◌≡◌, ap}
use native.Mathlib.Omega.{arith}
use lib.ListN.{set}
use Rattle.dataway.proofs.StationLaws.{fit_lent, block_lent}
use Rattle.dataway.proofs.ControlLaws.{each_so_far, each_more, each_none}
use Rattle.dataway.specs.Controls.{after_z}
use Rattle.station.specs.Control.{initialized_of}
use Rattle.station.proofs.ControlLaws.{initialized-kept}
use Rattle.dataway.proofs.control.initialize.Goals as goal

pub loop-n-init : goal.loop-n-init
loop-n-init c = each_none (λ n. initialized_of) _

pub initialize-requires : goal.initialize-requires
initialize-requires c =
    let fit = each_so_far (λ n. initialized_of) (λ n. initialized-kept) _ c.requires c.loop-n.n _ (omega arith) c.loop-n.invariant in
    fit_lent _ _ _ _ c.block.ensures.start c.block.ensures.end fit (omega arith) (omega arith)

pub loop-n-preserved : goal.loop-n-preserved
loop-n-preserved c =
    each_more (λ n. initialized_of) (λ n. initialized-kept) _ c.requires c.loop-n.n _ _ (omega arith) (omega arith) c.loop-n.invariant
    (block_lent _ _ _ _ c.block.ensures.start c.block.ensures.end initialized_of _ c.initialize.ensures)

pub returns : goal.returns
unfolding after_z
returns c = let all : c.loop-n.n - 1 ≡ 23 = omega arith in ap (λ (l : List ℕ). set (set l 0 1) 1 0) (rw all at c.loop-n.invariant)
