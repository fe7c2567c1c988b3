-- Repeat, sentence by sentence, for any cycle: no command is looked into.
-- Assumes nothing.
use mathlib.Core.Path.{◌≡◌, ap}
use mathlib.Core.List.{List, [], ◌∷◌}
use Prim.Native.Nat.{ℕ, zero, suc, ◌+◌, ◌≤◌, ◌<◌}
use native.Mathlib.Omega.{arith}
use native.Mathlib.Decide.{ℕ_discrete}
use lib.ListN.{length, length-append}
use borrow.Author.Tests.{lt-ltb, le-ltb, eq-eqb, ne_eqb}
use Rattle.station.specs.declared.Reply.{Reply}
use Rattle.transfer.specs.Cycle.{ended, CycleAt, store, keep}
use Rattle.transfer.specs.Repeat.{repeat_next, repeat_from}

-- the word of a reply is stored when Q = 1, and only then
module _ (r : Reply) (ws : List ℕ) where
  pub keep-hit : r.q ≡ 1 → keep r ws ≡ store r ws
  unfolding keep
  keep-hit q = simp (keep, eq-eqb _ _ q)

  pub keep-miss : (r.q ≡ 1 → ⊥) → keep r ws ≡ ws
  unfolding keep
  keep-miss q = simp (keep, ne_eqb _ _ q)

  -- so there is one word more at most
  pub keep-length : length (keep r ws) ≤ length ws + 1
  keep-length =
      elim (ℕ_discrete r.q 1) [
        | yes q ↦ omega (arith, ap length (keep-hit q), length-append ws (r.r ∷ []))
        | no q ↦ omega (arith, ap length (keep-miss q))
      ]

module _ (cycle : CycleAt) (n a limit : ℕ) (m ws : List ℕ) (c : ℕ) where
  -- End 1: limit reached (first)
  pub repeat-full : (k : ℕ) → limit ≤ length ws → repeat_from k cycle n a limit m ws c ≡ ended 1 m ws c
  unfolding repeat_from
  repeat-full zero p = simp (repeat_from, le-ltb _ _ p)
  repeat-full (suc k) p = simp (repeat_from, le-ltb _ _ p)

  -- End 2: no try is left
  pub repeat-over : length ws < limit → repeat_from 0 cycle n a limit m ws c ≡ ended 2 m ws c
  unfolding repeat_from
  repeat-over p = simp (repeat_from, lt-ltb _ _ p)

  -- End 3: X = 0, that cycle counted
  pub repeat-fault : (k : ℕ) → length ws < limit → ((cycle m n a (length ws)).reply.x ≡ 1 → ⊥)
      → repeat_from (suc k) cycle n a limit m ws c ≡ ended 3 (cycle m n a (length ws)).memory ws (c + 1)
  unfolding repeat_from repeat_next
  repeat-fault k p x = simp (repeat_from, repeat_next, lt-ltb _ _ p, ne_eqb _ _ x)

  -- X = 1: a cycle, and one try less
  pub repeat-more : (k : ℕ) → length ws < limit → (cycle m n a (length ws)).reply.x ≡ 1
      → repeat_from (suc k) cycle n a limit m ws c
      ≡ repeat_from k cycle n a limit (cycle m n a (length ws)).memory (keep (cycle m n a (length ws)).reply ws) (c + 1)
  unfolding repeat_from repeat_next
  repeat-more k p x = simp (repeat_from, repeat_next, lt-ltb _ _ p, eq-eqb _ _ x)
