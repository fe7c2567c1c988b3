-- Stop, sentence by sentence, for any cycle: no command is looked into.
-- Assumes nothing.
use mathlib.Core.Path.{◌≡◌, refl}
use mathlib.Core.List.{List}
use Prim.Native.Nat.{ℕ, suc, ◌+◌}
use lib.ListN.{length}
use borrow.Author.Tests.{eq-eqb, ne_eqb}
use Rattle.transfer.specs.Cycle.{ended, CycleAt, store}
use Rattle.transfer.specs.Stop.{stop_next, stop_from}

module _ (cycle : CycleAt) (n a : ℕ) (m ws : List ℕ) (c : ℕ) where
  -- End 1: no word is left to store
  pub stop-full : stop_from 0 cycle n a m ws c ≡ ended 1 m ws c
  unfolding stop_from
  stop-full = refl

  -- End 3: X = 0, that cycle counted
  pub stop-fault : (k : ℕ) → ((cycle m n a (length ws)).reply.x ≡ 1 → ⊥)
      → stop_from (suc k) cycle n a m ws c ≡ ended 3 (cycle m n a (length ws)).memory ws (c + 1)
  unfolding stop_from stop_next
  stop-fault k x = simp (stop_from, stop_next, ne_eqb _ _ x)

  -- End 2: X = 1 and Q = 0, that cycle counted
  pub stop-miss : (k : ℕ) → (cycle m n a (length ws)).reply.x ≡ 1 → ((cycle m n a (length ws)).reply.q ≡ 1 → ⊥)
      → stop_from (suc k) cycle n a m ws c ≡ ended 2 (cycle m n a (length ws)).memory ws (c + 1)
  unfolding stop_from stop_next
  stop-miss k x q = simp (stop_from, stop_next, eq-eqb _ _ x, ne_eqb _ _ q)

  -- X = 1 and Q = 1: a word stored
  pub stop-more : (k : ℕ) → (cycle m n a (length ws)).reply.x ≡ 1 → (cycle m n a (length ws)).reply.q ≡ 1
      → stop_from (suc k) cycle n a m ws c
      ≡ stop_from k cycle n a (cycle m n a (length ws)).memory (store (cycle m n a (length ws)).reply ws) (c + 1)
  unfolding stop_from stop_next
  stop-more k x q = simp (stop_from, stop_next, eq-eqb _ _ x, eq-eqb _ _ q)
