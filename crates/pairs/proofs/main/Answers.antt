-- The arrays are as long as `compare_all` asks.
use mathlib.Core.Path.{sym}
use native.Mathlib.Omega.{arith}
use Prim.Native.Nat.{ℕ}
use lib.ListN.{length-replicate}
use Rattle.pairs.proofs.main.Goals as goal

pub slice_bounds-compare_all-end-3 : goal.slice_bounds-compare_all-end-3
slice_bounds-compare_all-end-3 c = sym (length-replicate {A = ℕ} 599994 0)

pub slice_bounds-compare_all-end-4 : goal.slice_bounds-compare_all-end-4
slice_bounds-compare_all-end-4 c = sym (length-replicate {A = ℕ} 599994 0)

pub compare_all-requires : goal.compare_all-requires
compare_all-requires c =
    (length-replicate {A = ℕ} 81 0, length-replicate {A = ℕ} 599994 0, length-replicate {A = ℕ} 599994 0, omega (arith, length-replicate {A = ℕ} 4096 0))
