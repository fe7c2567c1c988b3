-- The way of a scan, for any cycle and over plain values; nothing here knows of a buffer. A scan that is to come to e comes to e from where it stands
-- now, and each way to go on keeps that so.
-- Assumes nothing.
use mathlib.Core.Path.{◌≡◌, sym, ◌∙◌}
use mathlib.Core.List.{List, [], ◌∷◌}
use Prim.Native.Nat.{ℕ, ◌+◌, ◌*◌, ◌≤◌, ◌<◌}
use native.Mathlib.Omega.{arith}
use native.Mathlib.Decide.{dec_lt}
use lib.ListN.{length, length-append}
use Rattle.transfer.specs.Cycle.{Ended, ended, CycleAt, store}
use Rattle.transfer.specs.Scan.{scanning}
use Rattle.transfer.proofs.ScanLaws.{scan-full, scan-past, scan-miss, scan-more, scan-last}

-- from n, a with the words ws stored and c cycles made; past A15 it goes on at A0 of the next station. `pace` keeps the count of cycles in its word
pub record Path (cycle : CycleAt) (to limit : ℕ) (e : Ended) (m : List ℕ) (n a : ℕ) (ws : List ℕ) (c : ℕ) : Type 0 where
  pub from : 1 ≤ n
  pub low : a ≤ 16
  pub room : length ws < limit
  pub pace : c ≤ 16 * n + a
  pub here : a ≤ 15 → scanning cycle to limit m n a ws c ≡ e
  pub over : 15 < a → scanning cycle to limit m (n + 1) 0 ws c ≡ e

module _ {cycle : CycleAt} {to limit : ℕ} {e : Ended} {m : List ℕ} {n a : ℕ} {ws : List ℕ} {c : ℕ} where
  pub path-here : 1 ≤ n → a ≤ 15 → length ws < limit → c ≤ 16 * n + a → scanning cycle to limit m n a ws c ≡ e
      → Path cycle to limit e m n a ws c
  path-here o p q r s = record { from = o; low = omega arith; room = q; pace = r; here = λ l. s; over = λ l. absurd (omega arith) }

module _ {cycle : CycleAt} {to limit : ℕ} {e : Ended} {m : List ℕ} {n a : ℕ} {ws : List ℕ} {c : ℕ} (g : Path cycle to limit e m n a ws c) where
  -- past A15
  pub path-over : 15 < a → Path cycle to limit e m (n + 1) 0 ws c
  path-over l = path-here (omega (arith, g.from)) (omega arith) g.room (omega (arith, g.pace, g.low)) (g.over l)

  module _ (low : a ≤ 15) where
    pub path-past : to < n → e ≡ ended 2 m ws c
    path-past l = sym (g.here low) ∙ scan-past cycle to limit m n a ws c low g.room l

    module _ (onto : n ≤ to) where
      pub path-miss : ((cycle m n a (length ws)).reply.q ≡ 1 → ⊥)
          → Path cycle to limit e (cycle m n a (length ws)).memory (n + 1) 0 ws (c + 1)
      path-miss q =
          path-here (omega (arith, g.from)) (omega arith) g.room (omega (arith, g.pace, low))
          (sym (scan-miss cycle to limit m n a ws c low g.room onto q) ∙ g.here low)

      module _ (q : (cycle m n a (length ws)).reply.q ≡ 1) where
        longer : length (store (cycle m n a (length ws)).reply ws) ≡ length ws + 1
        longer = length-append ws ((cycle m n a (length ws)).reply.r ∷ [])

        pub path-more : (length ws + 1 ≡ limit → ⊥)
            → Path cycle to limit e (cycle m n a (length ws)).memory n (a + 1) (store (cycle m n a (length ws)).reply ws) (c + 1)
        path-more l = record {
          from = g.from;
          low = omega (arith, low);
          room = omega (arith, g.room, longer);
          pace = omega (arith, g.pace);
          here = λ r. sym (scan-more cycle to limit m n a ws c low g.room onto q (omega arith)) ∙ g.here low;
          over = λ r. sym (scan-last cycle to limit m n a ws c low g.room onto q (omega arith)) ∙ g.here low;
        }

        -- the limit is reached, at A15 or below it
        pub path-full : length ws + 1 ≡ limit
            → e ≡ ended 1 (cycle m n a (length ws)).memory (store (cycle m n a (length ws)).reply ws) (c + 1)
        path-full l =
            elim (dec_lt a 15) [
              | yes r ↦ sym (g.here low) ∙ scan-more cycle to limit m n a ws c low g.room onto q r
                  ∙ scan-full cycle to limit _ n (a + 1) _ _ (omega arith) (omega (arith, longer))
              | no r ↦ sym (g.here low) ∙ scan-last cycle to limit m n a ws c low g.room onto q (omega arith)
                  ∙ scan-full cycle to limit _ (n + 1) 0 _ _ (omega arith) (omega (arith, longer))
            ]
