-- How many cycles a transfer makes. At least one, since the limit is at least 1 and the first test finds no word stored. A scan makes at most one
-- cycle for each word stored and one for each station, since the first Q = 0 leaves the station.
-- Assumes nothing.
use mathlib.Core.List.{List, [], ◌∷◌}
use Prim.Native.Nat.{ℕ, zero, suc, ◌+◌, ◌-◌, ◌≤◌, ◌<◌}
use native.Mathlib.Omega.{arith}
use native.Mathlib.Decide.{dec_lt, ℕ_discrete}
use lib.ListN.{length, length-append}
use Rattle.transfer.specs.Cycle.{Ended, CycleAt}
use Rattle.transfer.specs.Scan.{scanning}
use Rattle.transfer.specs.Repeat.{repeat_from}
use Rattle.transfer.specs.Stop.{stop_from}
use Rattle.transfer.proofs.ScanInduction.{Steps, scan-induction}
use Rattle.transfer.proofs.RepeatLaws.{repeat-full, repeat-over, repeat-fault, repeat-more}
use Rattle.transfer.proofs.StopLaws.{stop-full, stop-fault, stop-miss, stop-more}

at_most : {c k : ℕ} → c + 1 ≤ k → c ≤ k
at_most l = omega arith

module _ (cycle : CycleAt) where
  -- ---- Scan
  module _ (to limit : ℕ) where
    -- with c cycles made, each one more stores a word or leaves a station
    abbrev Paced : List ℕ → ℕ → ℕ → List ℕ → ℕ → Ended → Type 0
    Paced m n a ws c e = e.cycles + length ws ≤ c + length e.words + (to + 1 - n)

    paced : Steps cycle to limit Paced
    paced = record {
      full = λ h p. omega arith;
      past = λ h p l. omega arith;
      miss = λ h p l q i. omega arith;
      more = λ {m} {n} {a} {ws} h p l q i. omega (arith, length-append ws ((cycle m n a (length ws)).reply.r ∷ []));
      last = λ {m} {n} {a} {ws} h p l q i. omega (arith, length-append ws ((cycle m n a (length ws)).reply.r ∷ []));
    }

    -- no cycle is taken back, and where there is room and a station left one is made
    abbrev Begun : List ℕ → ℕ → ℕ → List ℕ → ℕ → Ended → Type 0
    Begun m n a ws c e = (c ≤ e.cycles) × (length ws < limit → n ≤ to → c + 1 ≤ e.cycles)

    begun : Steps cycle to limit Begun
    begun = record {
      full = λ h p. (omega arith, λ r s. omega arith);
      past = λ h p l. (omega arith, λ r s. omega arith);
      miss = λ h p l q i. (omega arith, λ r s. i.0);
      more = λ h p l q i. (omega arith, λ r s. i.0);
      last = λ h p l q i. (omega arith, λ r s. i.0);
    }

    module _ (m : List ℕ) (n a : ℕ) (h : a ≤ 15) (l : n ≤ to) where
      -- at most one for each word and one for each station
      pub scan-cycles : (scanning cycle to limit m n a [] 0).cycles ≤ length (scanning cycle to limit m n a [] 0).words + (to - n + 1)
      scan-cycles = omega (arith, scan-induction paced m n a [] 0 h)

      -- at least one
      pub scan-made : 1 ≤ limit → 1 ≤ (scanning cycle to limit m n a [] 0).cycles
      scan-made r = (scan-induction begun m n a [] 0 h).1 (omega arith) l

  -- ---- Repeat
  module _ (n a limit : ℕ) where
    -- no cycle is taken back
    repeat-counts : (k : ℕ) (m ws : List ℕ) (c : ℕ) → c ≤ (repeat_from k cycle n a limit m ws c).cycles
    repeat-counts zero m ws c =
        elim (dec_lt (length ws) limit) [
          | yes p ↦ rw (repeat-over cycle n a limit m ws c p) (omega arith)
          | no p ↦ rw (repeat-full cycle n a limit m ws c 0 (omega arith)) (omega arith)
        ]
    repeat-counts (suc k) m ws c =
        elim (dec_lt (length ws) limit) [
          | yes p ↦ elim (ℕ_discrete (cycle m n a (length ws)).reply.x 1) [
            | yes x ↦ rw (repeat-more cycle n a limit m ws c k p x) (at_most (repeat-counts k _ _ (c + 1)))
            | no x ↦ rw (repeat-fault cycle n a limit m ws c k p x) (omega arith)
          ]
          | no p ↦ rw (repeat-full cycle n a limit m ws c (suc k) (omega arith)) (omega arith)
        ]

    -- at least one
    pub repeat-made : (tries : ℕ) (m : List ℕ) → 1 ≤ limit → 1 ≤ tries → 1 ≤ (repeat_from tries cycle n a limit m [] 0).cycles
    repeat-made zero m r s = absurd (omega arith)
    repeat-made (suc k) m r s =
        elim (ℕ_discrete (cycle m n a 0).reply.x 1) [
          | yes x ↦ rw (repeat-more cycle n a limit m [] 0 k (omega arith) x) (repeat-counts k _ _ 1)
          | no x ↦ rw (repeat-fault cycle n a limit m [] 0 k (omega arith) x) (omega arith)
        ]

  -- ---- Stop
  module _ (n a : ℕ) where
    -- no cycle is taken back
    stop-counts : (k : ℕ) (m ws : List ℕ) (c : ℕ) → c ≤ (stop_from k cycle n a m ws c).cycles
    stop-counts zero m ws c = rw (stop-full cycle n a m ws c) (omega arith)
    stop-counts (suc k) m ws c =
        elim (ℕ_discrete (cycle m n a (length ws)).reply.x 1) [
          | yes x ↦ elim (ℕ_discrete (cycle m n a (length ws)).reply.q 1) [
            | yes q ↦ rw (stop-more cycle n a m ws c k x q) (at_most (stop-counts k _ _ (c + 1)))
            | no q ↦ rw (stop-miss cycle n a m ws c k x q) (omega arith)
          ]
          | no x ↦ rw (stop-fault cycle n a m ws c k x) (omega arith)
        ]

    -- at least one
    pub stop-made : (limit : ℕ) (m : List ℕ) → 1 ≤ limit → 1 ≤ (stop_from limit cycle n a m [] 0).cycles
    stop-made zero m r = absurd (omega arith)
    stop-made (suc k) m r =
        elim (ℕ_discrete (cycle m n a 0).reply.x 1) [
          | yes x ↦ elim (ℕ_discrete (cycle m n a 0).reply.q 1) [
            | yes q ↦ rw (stop-more cycle n a m [] 0 k x q) (stop-counts k _ _ 1)
            | no q ↦ rw (stop-miss cycle n a m [] 0 k x q) (omega arith)
          ]
          | no x ↦ rw (stop-fault cycle n a m [] 0 k x) (omega arith)
        ]
