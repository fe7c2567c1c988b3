-- The arrays are as long as `compare_files` asks.
use mathlib.Core.Path.{sym}
use native.Mathlib.Omega.{arith}
use Prim.Native.Nat.{ℕ}
use lib.ListN.{length-replicate}
use Rattle.regrouped.proofs.main.Goals as goal

pub slice_bounds-compare_files-end-5 : goal.slice_bounds-compare_files-end-5
slice_bounds-compare_files-end-5 c = sym (length-replicate {A = ℕ} 599994 0)

pub slice_bounds-compare_files-end-6 : goal.slice_bounds-compare_files-end-6
slice_bounds-compare_files-end-6 c = sym (length-replicate {A = ℕ} 599994 0)

pub compare_files-requires : goal.compare_files-requires
compare_files-requires c =
    (length-replicate {A = ℕ} 81 0, length-replicate {A = ℕ} 599994 0, length-replicate {A = ℕ} 599994 0, omega (arith, length-replicate {A = ℕ} 4096 0))
