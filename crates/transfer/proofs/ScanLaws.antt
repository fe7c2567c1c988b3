-- The scan, sentence by sentence, with no bound in sight: a scan under way is one cycle and then a scan under way (`scan-again`), because the bound
-- in its definition counts a cycle for each place up to `to` and is never used up. All this holds for any cycle: no command is looked into.
-- Assumes nothing.
use mathlib.Core.Path.{◌≡◌, refl, sym, ◌∙◌}
use mathlib.Core.List.{List}
use Prim.Native.Nat.{ℕ, zero, suc, ◌+◌, ◌*◌, ◌≤◌, ◌<◌}
use native.Mathlib.Omega.{arith}
use native.Mathlib.Decide.{dec_le, dec_lt, ℕ_discrete}
use lib.ListN.{length}
use borrow.Author.Tests.{lt-ltb, le-ltb, le-leb, lt-leb, eq-eqb, ne_eqb}
use Rattle.transfer.specs.Cycle.{ended, CycleAt, store}
use Rattle.transfer.specs.Scan.{Rest, scan_next, scan_cycle, scan_from, scan_bound, scanning}

-- the five ways that a scan can go on, from its tests in their order
pub data Way (cycle : CycleAt) (to limit : ℕ) (m : List ℕ) (n a : ℕ) (ws : List ℕ) : Type 0 where
  full : limit ≤ length ws → Way cycle to limit m n a ws
  past : length ws < limit → to < n → Way cycle to limit m n a ws
  miss : length ws < limit → n ≤ to → ((cycle m n a (length ws)).reply.q ≡ 1 → ⊥) → Way cycle to limit m n a ws
  more : length ws < limit → n ≤ to → (cycle m n a (length ws)).reply.q ≡ 1 → a < 15 → Way cycle to limit m n a ws
  last : length ws < limit → n ≤ to → (cycle m n a (length ws)).reply.q ≡ 1 → 15 ≤ a → Way cycle to limit m n a ws

module _ (cycle : CycleAt) (to limit : ℕ) where
  -- it goes one of them
  pub way : (m : List ℕ) (n a : ℕ) (ws : List ℕ) → Way cycle to limit m n a ws
  way m n a ws =
      elim (dec_le limit (length ws)) [
        | yes p ↦ full p
        | no p ↦ elim (dec_le n to) [
          | no l ↦ past (omega arith) (omega arith)
          | yes l ↦ elim (ℕ_discrete (cycle m n a (length ws)).reply.q 1) [
            | no q ↦ miss (omega arith) l q
            | yes q ↦ elim (dec_lt a 15) [
              | yes r ↦ more (omega arith) l q r
              | no r ↦ last (omega arith) l q (omega arith)
            ]
          ]
        ]
      ]

  -- what each way comes to
  module _ (rest : Rest) (m : List ℕ) (n a : ℕ) (ws : List ℕ) (c : ℕ) where
    pub cycle-full : limit ≤ length ws → scan_cycle cycle to limit rest m n a ws c ≡ ended 1 m ws c
    unfolding scan_cycle
    cycle-full p = simp (scan_cycle, le-ltb _ _ p)

    pub cycle-past : length ws < limit → to < n → scan_cycle cycle to limit rest m n a ws c ≡ ended 2 m ws c
    unfolding scan_cycle
    cycle-past p l = simp (scan_cycle, lt-ltb _ _ p, lt-leb _ _ l)

    pub cycle-miss : length ws < limit → n ≤ to → ((cycle m n a (length ws)).reply.q ≡ 1 → ⊥)
        → scan_cycle cycle to limit rest m n a ws c ≡ rest (cycle m n a (length ws)).memory (n + 1) 0 ws (c + 1)
    unfolding scan_cycle scan_next
    cycle-miss p l q = simp (scan_cycle, scan_next, lt-ltb _ _ p, le-leb _ _ l, ne_eqb _ _ q)

    pub cycle-more : length ws < limit → n ≤ to → (cycle m n a (length ws)).reply.q ≡ 1 → a < 15
        → scan_cycle cycle to limit rest m n a ws c
        ≡ rest (cycle m n a (length ws)).memory n (a + 1) (store (cycle m n a (length ws)).reply ws) (c + 1)
    unfolding scan_cycle scan_next
    cycle-more p l q r = simp (scan_cycle, scan_next, lt-ltb _ _ p, le-leb _ _ l, eq-eqb _ _ q, lt-ltb _ _ r)

    pub cycle-last : length ws < limit → n ≤ to → (cycle m n a (length ws)).reply.q ≡ 1 → 15 ≤ a
        → scan_cycle cycle to limit rest m n a ws c
        ≡ rest (cycle m n a (length ws)).memory (n + 1) 0 (store (cycle m n a (length ws)).reply ws) (c + 1)
    unfolding scan_cycle scan_next
    cycle-last p l q r = simp (scan_cycle, scan_next, lt-ltb _ _ p, le-leb _ _ l, eq-eqb _ _ q, le-ltb _ _ r)

  -- two rests that agree where a cycle may go on make the same cycle
  cycle-same : (g h : Rest) (m : List ℕ) (n a : ℕ) (ws : List ℕ) (c : ℕ)
      → (n ≤ to → (m' ws' : List ℕ) (c' : ℕ) → g m' (n + 1) 0 ws' c' ≡ h m' (n + 1) 0 ws' c')
      → (n ≤ to → a < 15 → (m' ws' : List ℕ) (c' : ℕ) → g m' n (a + 1) ws' c' ≡ h m' n (a + 1) ws' c')
      → scan_cycle cycle to limit g m n a ws c ≡ scan_cycle cycle to limit h m n a ws c
  cycle-same g h m n a ws c next up = go (way m n a ws)
    where
      go : Way cycle to limit m n a ws → scan_cycle cycle to limit g m n a ws c ≡ scan_cycle cycle to limit h m n a ws c
      go (full p) = cycle-full g m n a ws c p ∙ sym (cycle-full h m n a ws c p)
      go (past p l) = cycle-past g m n a ws c p l ∙ sym (cycle-past h m n a ws c p l)
      go (miss p l q) = cycle-miss g m n a ws c p l q ∙ next l _ _ _ ∙ sym (cycle-miss h m n a ws c p l q)
      go (more p l q r) = cycle-more g m n a ws c p l q r ∙ up l r _ _ _ ∙ sym (cycle-more h m n a ws c p l q r)
      go (last p l q r) = cycle-last g m n a ws c p l q r ∙ next l _ _ _ ∙ sym (cycle-last h m n a ws c p l q r)

  -- the bound k is enough for what is left from n, a on: a cycle for each place up to `to`, and the last test
  abbrev pub Enough : (n a k : ℕ) → Type 0
  Enough n a k = (a ≤ 15) × (1 ≤ k) × (16 * (to + 1) < 16 * n + a + k)

  -- a bound that is enough says nothing
  scan-bound : (k l : ℕ) (m : List ℕ) (n a : ℕ) (ws : List ℕ) (c : ℕ) → Enough n a k → Enough n a l
      → scan_from k cycle to limit m n a ws c ≡ scan_from l cycle to limit m n a ws c
  unfolding scan_from
  scan-bound zero l m n a ws c p q = absurd (omega arith)
  scan-bound (suc k) zero m n a ws c p q = absurd (omega arith)
  scan-bound (suc k) (suc l) m n a ws c p q =
      cycle-same (scan_from k cycle to limit) (scan_from l cycle to limit) m n a ws c
      (λ b m' ws' c'. scan-bound k l m' (n + 1) 0 ws' c' (omega arith) (omega arith))
      (λ b r m' ws' c'. scan-bound k l m' n (a + 1) ws' c' (omega arith) (omega arith))

  -- the bound is never used up, so a reader can forget it
  pub scan-again : (m : List ℕ) (n a : ℕ) (ws : List ℕ) (c : ℕ) → a ≤ 15
      → scanning cycle to limit m n a ws c ≡ scan_cycle cycle to limit (scanning cycle to limit) m n a ws c
  unfolding scanning scan_from
  scan-again m n a ws c h =
      scan-bound (scan_bound to n) (suc (scan_bound to n)) m n a ws c (omega arith) (omega arith)
      ∙ cycle-same (scan_from (scan_bound to n) cycle to limit) (scanning cycle to limit) m n a ws c
      (λ b m' ws' c'. scan-bound (scan_bound to n) (scan_bound to (n + 1)) m' (n + 1) 0 ws' c' (omega arith) (omega arith))
      (λ b r m' ws' c'. refl)

  -- the paper's sentences, a law for each way
  module _ (m : List ℕ) (n a : ℕ) (ws : List ℕ) (c : ℕ) (h : a ≤ 15) where
    -- End 1: limit reached (tested first)
    pub scan-full : limit ≤ length ws → scanning cycle to limit m n a ws c ≡ ended 1 m ws c
    scan-full p = scan-again m n a ws c h ∙ cycle-full _ m n a ws c p

    -- End 2: past `to`
    pub scan-past : length ws < limit → to < n → scanning cycle to limit m n a ws c ≡ ended 2 m ws c
    scan-past p l = scan-again m n a ws c h ∙ cycle-past _ m n a ws c p l

    -- after Q = 0, A0 of N + 1
    pub scan-miss : length ws < limit → n ≤ to → ((cycle m n a (length ws)).reply.q ≡ 1 → ⊥)
        → scanning cycle to limit m n a ws c ≡ scanning cycle to limit (cycle m n a (length ws)).memory (n + 1) 0 ws (c + 1)
    scan-miss p l q = scan-again m n a ws c h ∙ cycle-miss _ m n a ws c p l q

    -- after Q = 1, A + 1
    pub scan-more : length ws < limit → n ≤ to → (cycle m n a (length ws)).reply.q ≡ 1 → a < 15
        → scanning cycle to limit m n a ws c
        ≡ scanning cycle to limit (cycle m n a (length ws)).memory n (a + 1) (store (cycle m n a (length ws)).reply ws) (c + 1)
    scan-more p l q r = scan-again m n a ws c h ∙ cycle-more _ m n a ws c p l q r

    -- after Q = 1 at 15, A0 of N + 1
    pub scan-last : length ws < limit → n ≤ to → (cycle m n a (length ws)).reply.q ≡ 1 → 15 ≤ a
        → scanning cycle to limit m n a ws c
        ≡ scanning cycle to limit (cycle m n a (length ws)).memory (n + 1) 0 (store (cycle m n a (length ws)).reply ws) (c + 1)
    scan-last p l q r = scan-again m n a ws c h ∙ cycle-last _ m n a ws c p l q r
