-- What the end tells: end 1 where exactly `limit` words are stored, end 2, and of a Repeat or a Stop also end 3, where fewer are. So a transfer never
-- stores more than `limit` words. The limit is tested before anything else, and a cycle stores one word at most.
-- Assumes nothing.
use mathlib.Core.Path.{◌≡◌, refl}
use mathlib.Core.List.{List, [], ◌∷◌}
use Prim.Native.Nat.{ℕ, zero, suc, ◌+◌, ◌≤◌, ◌<◌}
use native.Mathlib.Omega.{arith}
use native.Mathlib.Decide.{dec_lt, ℕ_discrete}
use lib.ListN.{length, length-append}
use Rattle.transfer.specs.Cycle.{Ended, CycleAt}
use Rattle.transfer.specs.Scan.{scanning}
use Rattle.transfer.specs.Repeat.{repeat_from}
use Rattle.transfer.specs.Stop.{stop_from}
use Rattle.transfer.proofs.ScanInduction.{Steps, scan-induction}
use Rattle.transfer.proofs.RepeatLaws.{keep-length, repeat-full, repeat-over, repeat-fault, repeat-more}
use Rattle.transfer.proofs.StopLaws.{stop-full, stop-fault, stop-miss, stop-more}

-- end 1 with `limit` words, or end 2 with fewer
pub data Ends (limit : ℕ) (e : Ended) : Type 0 where
  reached : e.end ≡ 1 → length e.words ≡ limit → Ends limit e
  short : e.end ≡ 2 → length e.words < limit → Ends limit e

-- either way no more than `limit` words
words_of : {limit : ℕ} {e : Ended} → Ends limit e → length e.words ≤ limit
words_of (reached p q) = omega arith
words_of (short p q) = omega arith

-- of a Repeat or a Stop: the same, or end 3 with fewer
pub data EndsHere (limit : ℕ) (e : Ended) : Type 0 where
  ends : Ends limit e → EndsHere limit e
  fault : e.end ≡ 3 → length e.words < limit → EndsHere limit e

words-here : {limit : ℕ} {e : Ended} → EndsHere limit e → length e.words ≤ limit
words-here (ends p) = words_of p
words-here (fault p q) = omega arith

module _ (cycle : CycleAt) where
  -- ---- Scan
  module _ (to limit : ℕ) where
    -- from where no more are stored
    abbrev ScanEnds : List ℕ → ℕ → ℕ → List ℕ → ℕ → Ended → Type 0
    ScanEnds m n a ws c e = length ws ≤ limit → Ends limit e

    scan-end : Steps cycle to limit ScanEnds
    scan-end = record {
      full = λ h p b. reached refl (omega arith);
      past = λ h p l b. short refl p;
      miss = λ h p l q i b. i b;
      more = λ {m} {n} {a} {ws} h p l q i b. i (omega (arith, length-append ws ((cycle m n a (length ws)).reply.r ∷ [])));
      last = λ {m} {n} {a} {ws} h p l q i b. i (omega (arith, length-append ws ((cycle m n a (length ws)).reply.r ∷ [])));
    }

    module _ (m : List ℕ) (n a : ℕ) (h : a ≤ 15) where
      pub scan-ends : Ends limit (scanning cycle to limit m n a [] 0)
      scan-ends = scan-induction scan-end m n a [] 0 h (omega arith)

      pub scan-words : length (scanning cycle to limit m n a [] 0).words ≤ limit
      scan-words = words_of scan-ends

  -- ---- Repeat
  module _ (n a limit : ℕ) where
    -- from where no more are stored
    repeat-end : (k : ℕ) (m ws : List ℕ) (c : ℕ) → length ws ≤ limit → EndsHere limit (repeat_from k cycle n a limit m ws c)
    repeat-end zero m ws c b =
        elim (dec_lt (length ws) limit) [
          | yes p ↦ rw (repeat-over cycle n a limit m ws c p) (ends (short refl p))
          | no p ↦ rw (repeat-full cycle n a limit m ws c 0 (omega arith)) (ends (reached refl (omega arith)))
        ]
    repeat-end (suc k) m ws c b =
        elim (dec_lt (length ws) limit) [
          | yes p ↦ elim (ℕ_discrete (cycle m n a (length ws)).reply.x 1) [
            | yes x ↦ rw (repeat-more cycle n a limit m ws c k p x)
                (repeat-end k _ _ (c + 1) (omega (arith, keep-length (cycle m n a (length ws)).reply ws)))
            | no x ↦ rw (repeat-fault cycle n a limit m ws c k p x) (fault refl p)
          ]
          | no p ↦ rw (repeat-full cycle n a limit m ws c (suc k) (omega arith)) (ends (reached refl (omega arith)))
        ]

    module _ (tries : ℕ) (m : List ℕ) where
      pub repeat-ends : EndsHere limit (repeat_from tries cycle n a limit m [] 0)
      repeat-ends = repeat-end tries m [] 0 (omega arith)

      pub repeat-words : length (repeat_from tries cycle n a limit m [] 0).words ≤ limit
      repeat-words = words-here repeat-ends

  -- ---- Stop
  module _ (n a : ℕ) where
    -- from where k more are to be stored
    stop-end : (limit k : ℕ) (m ws : List ℕ) (c : ℕ) → length ws + k ≡ limit → EndsHere limit (stop_from k cycle n a m ws c)
    stop-end limit zero m ws c b = rw (stop-full cycle n a m ws c) (ends (reached refl (omega arith)))
    stop-end limit (suc k) m ws c b =
        elim (ℕ_discrete (cycle m n a (length ws)).reply.x 1) [
          | yes x ↦ elim (ℕ_discrete (cycle m n a (length ws)).reply.q 1) [
            | yes q ↦ rw (stop-more cycle n a m ws c k x q)
                (stop-end limit k _ _ (c + 1) (omega (arith, length-append ws ((cycle m n a (length ws)).reply.r ∷ []))))
            | no q ↦ rw (stop-miss cycle n a m ws c k x q) (ends (short refl (omega arith)))
          ]
          | no x ↦ rw (stop-fault cycle n a m ws c k x) (fault refl (omega arith))
        ]

    module _ (limit : ℕ) (m : List ℕ) where
      pub stop-ends : EndsHere limit (stop_from limit cycle n a m [] 0)
      stop-ends = stop-end limit limit m [] 0 (omega arith)

      pub stop-words : length (stop_from limit cycle n a m [] 0).words ≤ limit
      stop-words = words-here stop-ends
