-- What is done to each station is done to its own block, once; and so Z, C and I leave a fit crate fit.
-- Assumes nothing.
use Prim.Native.Nat.{ℕ, zero, suc, ◌+◌, ◌-◌, ◌≤◌, ◌<◌}
use mathlib.Core.Path.{◌≡◌, refl, sym, ap, subst, ◌∙◌}
use mathlib.Core.List.{List}
use mathlib.Core.Logic.{⊎_elim}
use native.Mathlib.Omega.{arith}
use lib.ListN.{length}
use Rattle.blocks.specs.Blocks.{block_of, with_block}
use Rattle.blocks.proofs.Blocks.{length-with, block_same, block-other}
use Rattle.station.specs.Block.{FitBlock}
use Rattle.station.specs.Control.{initialized_of, cleared_of}
use Rattle.station.specs.Kept.{Kept}
use Rattle.kinds.proofs.TestLaws.{alike}
use Rattle.station.proofs.ControlLaws.{initialized-kept, cleared-kept}
use Rattle.dataway.specs.Crate.{FitCrate}
use Rattle.dataway.specs.Controls.{each_station, after_z, after_c, after_i}
use Rattle.dataway.proofs.CrateLaws.{fit-with, fit-inhibit, fit-snr}

-- from a fit memory m, with g that leaves each fit block a fit one of the same module
module _ (g : ℕ → List ℕ → List ℕ) (keep : (n : ℕ) (b : List ℕ) → FitBlock b → Kept b (g n b)) (m : List ℕ) (f : FitCrate m) where
  new-block : (k : ℕ) → suc k ≤ 23 → Kept (block_of m (suc k)) (g (suc k) (block_of m (suc k)))
  new-block k l = keep (suc k) _ (f.station (suc k) (omega arith) l)

  pub each-size : (k : ℕ) → k ≤ 23 → length (each_station g k m) ≡ 768
  unfolding each_station
  each-size zero l = f.size
  each-size (suc k) l =
      length-with (each_station g k m) (suc k) (g (suc k) (block_of m (suc k))) (each-size k (omega arith)) (omega arith) (new-block k l).fit.long

  -- a block that is none of 1 to k stays
  each-other : (k n : ℕ) → k ≤ 23 → ((j : ℕ) → 1 ≤ j → j ≤ k → n ≡ j → ⊥) → block_of (each_station g k m) n ≡ block_of m n
  unfolding each_station
  each-other zero n l d = refl
  each-other (suc k) n l d =
      block-other (each_station g k m) (suc k) (g (suc k) (block_of m (suc k))) (each-size k (omega arith)) (omega arith)
      (new-block k l).fit.long n (d (suc k) (omega arith) (omega arith))
      ∙ each-other k n (omega arith) (λ j lo hi. d j lo (omega arith))

  -- those of the stations above k
  pub each-later : (k n : ℕ) → k < n → n ≤ 23 → block_of (each_station g k m) n ≡ block_of m n
  each-later k n h l = each-other k n (omega arith) (λ j lo hi e. omega arith)

  -- and block 0
  pub each-front : (k : ℕ) → k ≤ 23 → block_of (each_station g k m) 0 ≡ block_of m 0
  each-front k l = each-other k 0 l (λ j lo hi e. omega arith)

  -- the memory stays fit: each block is replaced by one of the same module
  pub each-fit : (k : ℕ) → k ≤ 23 → FitCrate (each_station g k m)
  unfolding each_station
  each-fit zero l = f
  each-fit (suc k) l =
      fit-with (each_station g k m) (suc k) (g (suc k) (block_of m (suc k))) (each-fit k (omega arith)) (omega arith) l
      (subst (λ (b : List ℕ). Kept b (g (suc k) (block_of m (suc k)))) (sym (each-later k (suc k) (omega arith) l)) (new-block k l))

  -- those from 1 to k have g of theirs
  pub each-block : (k n : ℕ) → 1 ≤ n → n ≤ k → k ≤ 23 → block_of (each_station g k m) n ≡ g n (block_of m n)
  unfolding each_station
  each-block zero n lo h l = absurd (omega arith)
  each-block (suc k) n lo h l =
      let size = each-size k (omega arith) in
      let long = (new-block k l).fit.long in
      ⊎_elim
      (λ (e : n ≡ suc k). rw e (block_same (each_station g k m) (suc k) (g (suc k) (block_of m (suc k))) size (omega arith) long))
      (λ (d : n ≡ suc k → ⊥).
      block-other (each_station g k m) (suc k) (g (suc k) (block_of m (suc k))) size (omega arith) long n d
      ∙ each-block k n lo (omega arith) (omega arith))
      (alike n (suc k))

  -- station n too, as a loop over the stations does it
  pub each_more : (n : ℕ) (x y : List ℕ) → 1 ≤ n → n ≤ 23 → x ≡ each_station g (n - 1) m → y ≡ with_block x n (g n (block_of x n))
      → y ≡ each_station g (n + 1 - 1) m
  unfolding each_station
  each_more zero x y lo hi e s = absurd (omega arith)
  each_more (suc k) x y lo hi e s =
      let up : suc k + 1 - 1 ≡ suc k = omega arith in
      let down : suc k - 1 ≡ k = omega arith in
      s
      ∙ ap (λ (z : List ℕ). with_block z (suc k) (g (suc k) (block_of z (suc k)))) (rw down at e)
      ∙ rw up (ap (λ (b : List ℕ). with_block (each_station g k m) (suc k) (g (suc k) b)) (each-later k (suc k) (omega arith) hi))

  -- where it has come to station n, the memory is fit
  pub each_so_far : (n : ℕ) (x : List ℕ) → n ≤ 24 → x ≡ each_station g (n - 1) m → FitCrate x
  each_so_far n x h e = rw e (each-fit (n - 1) (omega arith))

-- no station yet
pub each_none : (g : ℕ → List ℕ → List ℕ) (m : List ℕ) → m ≡ each_station g (1 - 1) m
unfolding each_station
each_none g m = refl

-- ---- the controls
pub i-fit : (m : List ℕ) (v : ℕ) → FitCrate m → v ≤ 1 → FitCrate (after_i m v)
i-fit m v h l = fit-inhibit m v h l

pub z-fit : (m : List ℕ) → FitCrate m → FitCrate (after_z m)
unfolding after_z
z-fit m h =
    fit-snr (after_i (each_station (λ n. initialized_of) 23 m) 1) 0
    (i-fit (each_station (λ n. initialized_of) 23 m) 1 (each-fit (λ n. initialized_of) (λ n. initialized-kept) m h 23 (omega arith)) (omega arith)) (omega arith)

pub c-fit : (m : List ℕ) → FitCrate m → FitCrate (after_c m)
unfolding after_c
c-fit m h = each-fit (λ n. cleared_of) (λ n. cleared-kept) m h 23 (omega arith)
