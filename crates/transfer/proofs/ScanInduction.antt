-- Induction over the cycles of a scan, with no bound in sight: what holds where a scan ends, and holds of a scan under way if it holds of what is
-- left after one cycle, holds of every scan. The laws of all scans are proved by it.
-- Assumes nothing.
use mathlib.Core.Path.{◌≡◌}
use mathlib.Core.List.{List}
use Prim.Native.Nat.{ℕ, zero, suc, ◌+◌, ◌≤◌, ◌<◌}
use native.Mathlib.Omega.{arith}
use lib.ListN.{length}
use Rattle.transfer.specs.Cycle.{Ended, ended, CycleAt, store}
use Rattle.transfer.specs.Scan.{Rest, scan_cycle, scan_from, scan_bound, scanning}
use Rattle.transfer.proofs.ScanLaws.{Way, way, Enough, cycle-full, cycle-past, cycle-miss, cycle-more, cycle-last}
use Rattle.transfer.proofs.ScanLaws.Way.{full, past, miss, more, last}

-- P m n a ws c e: a scan at n, a of the memory m, with the words ws stored and c cycles made, comes to e. A field for each way to go on.
pub record Steps (cycle : CycleAt) (to limit : ℕ) (P : List ℕ → ℕ → ℕ → List ℕ → ℕ → Ended → Type 0) : Type 0 where
  pub full : {m : List ℕ} {n a : ℕ} {ws : List ℕ} {c : ℕ} → a ≤ 15 → limit ≤ length ws → P m n a ws c (ended 1 m ws c)
  pub past : {m : List ℕ} {n a : ℕ} {ws : List ℕ} {c : ℕ} → a ≤ 15 → length ws < limit → to < n → P m n a ws c (ended 2 m ws c)
  pub miss : {m : List ℕ} {n a : ℕ} {ws : List ℕ} {c : ℕ} {e : Ended} → a ≤ 15 → length ws < limit → n ≤ to
      → ((cycle m n a (length ws)).reply.q ≡ 1 → ⊥)
      → P (cycle m n a (length ws)).memory (n + 1) 0 ws (c + 1) e
      → P m n a ws c e
  pub more : {m : List ℕ} {n a : ℕ} {ws : List ℕ} {c : ℕ} {e : Ended} → a < 15 → length ws < limit → n ≤ to
      → (cycle m n a (length ws)).reply.q ≡ 1
      → P (cycle m n a (length ws)).memory n (a + 1) (store (cycle m n a (length ws)).reply ws) (c + 1) e
      → P m n a ws c e
  pub last : {m : List ℕ} {n a : ℕ} {ws : List ℕ} {c : ℕ} {e : Ended} → a ≡ 15 → length ws < limit → n ≤ to
      → (cycle m n a (length ws)).reply.q ≡ 1
      → P (cycle m n a (length ws)).memory (n + 1) 0 (store (cycle m n a (length ws)).reply ws) (c + 1) e
      → P m n a ws c e

module _ {cycle : CycleAt} {to limit : ℕ} {P : List ℕ → ℕ → ℕ → List ℕ → ℕ → Ended → Type 0} (s : Steps cycle to limit P) where
  -- under a bound that is enough
  bounded : (k : ℕ) (m : List ℕ) (n a : ℕ) (ws : List ℕ) (c : ℕ) → Enough cycle to limit n a k → P m n a ws c (scan_from k cycle to limit m n a ws c)
  unfolding scan_from
  bounded zero m n a ws c b = absurd (omega arith)
  bounded (suc k) m n a ws c b =
      go (way cycle to limit m n a ws)
      (λ l m' ws' c'. bounded k m' (n + 1) 0 ws' c' (omega arith)) (λ l r m' ws' c'. bounded k m' n (a + 1) ws' c' (omega arith))
    where
      g : Rest
      g = scan_from k cycle to limit

      go : Way cycle to limit m n a ws
          → (n ≤ to → (m' ws' : List ℕ) (c' : ℕ) → P m' (n + 1) 0 ws' c' (g m' (n + 1) 0 ws' c'))
          → (n ≤ to → a < 15 → (m' ws' : List ℕ) (c' : ℕ) → P m' n (a + 1) ws' c' (g m' n (a + 1) ws' c'))
          → P m n a ws c (scan_cycle cycle to limit g m n a ws c)
      go (full p) next up = rw (cycle-full cycle to limit g m n a ws c p) (s.full b.0 p)
      go (past p l) next up = rw (cycle-past cycle to limit g m n a ws c p l) (s.past b.0 p l)
      go (miss p l q) next up = rw (cycle-miss cycle to limit g m n a ws c p l q) (s.miss b.0 p l q (next l _ _ _))
      go (more p l q r) next up = rw (cycle-more cycle to limit g m n a ws c p l q r) (s.more r p l q (up l r _ _ _))
      go (last p l q r) next up = rw (cycle-last cycle to limit g m n a ws c p l q r) (s.last (omega (arith, b.0)) p l q (next l _ _ _))

  pub scan-induction : (m : List ℕ) (n a : ℕ) (ws : List ℕ) (c : ℕ) → a ≤ 15 → P m n a ws c (scanning cycle to limit m n a ws c)
  unfolding scanning
  scan-induction m n a ws c h = bounded (scan_bound to n) m n a ws c (omega arith)
