-- A transfer keeps to the stations that its cycles keep to: it is one cycle after another, and which comes next hangs on what the cycles gave back
-- and on nothing else of the memory. For any cycle, and any meaning of fit.
-- Assumes nothing.
use mathlib.Core.Path.{◌≡◌, refl}
use mathlib.Core.Bool.{Bool, true, false}
use mathlib.Core.List.{List}
use Prim.Native.Nat.{ℕ, zero, suc, ◌+◌, ◌≤◌}
use native.Mathlib.Omega.{arith}
use borrow.Author.Tests.{leb-true, ltb-true}
use lib.Dec.{eqb, ltb, leb}
use lib.ListN.{length}
use Rattle.station.specs.declared.Reply.{Reply}
use Rattle.regroup.specs.Local.{Local}
use Rattle.regroup.proofs.Local.{local-none, local-then}
use Rattle.transfer.specs.Cycle.{Ended, ended, CycleAt, told, store, keep, RestHere}
use Rattle.transfer.specs.Scan.{Rest, scan_next, scan_cycle, scan_from}
use Rattle.transfer.specs.Repeat.{repeat_next, repeat_from}
use Rattle.transfer.specs.Stop.{stop_next, stop_from}

module _ (fit : List ℕ → Type 0) (size : (m : List ℕ) → fit m → length m ≡ 768) (cycle : CycleAt) (on : ℕ → Bool)
    (one : (n a k : ℕ) → 1 ≤ n → n ≤ 23 → a ≤ 15 → on n ≡ true
    → Local fit on (λ (m : List ℕ). (cycle m n a k).memory) (λ (m : List ℕ). (cycle m n a k).reply)) where
  -- what comes to e of the memory keeps to the set: in the memory it leaves, and in what it tells
  abbrev Keeps : (List ℕ → Ended) → Type 0
  Keeps e = Local fit on (λ (m : List ℕ). (e m).memory) (λ (m : List ℕ). told (e m))

  -- ended where it stands
  keeps-ended : (k : ℕ) (ws : List ℕ) (c : ℕ) → Keeps (λ (m : List ℕ). ended k m ws c)
  keeps-ended k ws c = local-none fit size on (record { end = k; words = ws; cycles = c })

  -- a cycle, and then what hangs on its reply
  keeps-cycle : (n a k : ℕ) → 1 ≤ n → n ≤ 23 → a ≤ 15 → on n ≡ true → (rest : Reply → List ℕ → Ended)
      → ((r : Reply) → Keeps (rest r)) → Keeps (λ (m : List ℕ). rest (cycle m n a k).reply (cycle m n a k).memory)
  keeps-cycle n a k lo hi low here rest h =
      local-then fit size on (λ (m : List ℕ). (cycle m n a k).memory) (λ (m : List ℕ). (cycle m n a k).reply)
      (λ (r : Reply) (m : List ℕ). (rest r m).memory) (λ (r : Reply) (m : List ℕ). told (rest r m)) (one n a k lo hi low here) h

  -- ---- Scan, with any bound on its cycles
  module _ (to limit : ℕ) (top : to ≤ 23) where
    keeps-next : (rest : Rest) (n a : ℕ) (ws : List ℕ) (c : ℕ) → a ≤ 15
        → ((n' a' : ℕ) (ws' : List ℕ) (c' : ℕ) → n ≤ n' → a' ≤ 15 → Keeps (λ (m : List ℕ). rest m n' a' ws' c'))
        → (r : Reply) → Keeps (scan_next rest n a ws c r)
    unfolding scan_next
    keeps-next rest n a ws c low h r = go (eqb r.q 1) (ltb a 15) refl
      where
        go : (t u : Bool) → ltb a 15 ≡ u
            → Keeps (λ (m : List ℕ). elim t [
              | true ↦ elim u [ true ↦ rest m n (a + 1) (store r ws) (c + 1) | false ↦ rest m (n + 1) 0 (store r ws) (c + 1) ]
              | false ↦ rest m (n + 1) 0 ws (c + 1)
            ])
        go true true e = h n (a + 1) (store r ws) (c + 1) (omega arith) (omega (arith, ltb-true a 15 e))
        go true false e = h (n + 1) 0 (store r ws) (c + 1) (omega arith) (omega arith)
        go false u e = h (n + 1) 0 ws (c + 1) (omega arith) (omega arith)

    pub keeps-scan : (k n a : ℕ) (ws : List ℕ) (c : ℕ) → 1 ≤ n → a ≤ 15 → ((i : ℕ) → n ≤ i → i ≤ to → on i ≡ true)
        → Keeps (λ (m : List ℕ). scan_from k cycle to limit m n a ws c)
    unfolding scan_from scan_cycle
    keeps-scan zero n a ws c lo low here = keeps-ended 2 ws c
    keeps-scan (suc k) n a ws c lo low here =
        go (λ n' a' ws' c' p q. keeps-scan k n' a' ws' c' (omega arith) q (λ i x y. here i (omega arith) y)) (ltb (length ws) limit) (leb n to) refl
      where
        go : ((n' a' : ℕ) (ws' : List ℕ) (c' : ℕ) → n ≤ n' → a' ≤ 15 → Keeps (λ (m : List ℕ). scan_from k cycle to limit m n' a' ws' c'))
            → (t u : Bool) → leb n to ≡ u
            → Keeps (λ (m : List ℕ). elim t [
              | false ↦ ended 1 m ws c
              | true ↦ elim u [
                | false ↦ ended 2 m ws c
                | true ↦ scan_next (scan_from k cycle to limit) n a ws c (cycle m n a (length ws)).reply (cycle m n a (length ws)).memory
              ]
            ])
        go ih false u e = keeps-ended 1 ws c
        go ih true false e = keeps-ended 2 ws c
        go ih true true e =
            keeps-cycle n a (length ws) lo (omega (arith, leb-true n to e)) low (here n (omega arith) (leb-true n to e))
            (scan_next (scan_from k cycle to limit) n a ws c)
            (keeps-next (scan_from k cycle to limit) n a ws c low ih)

  -- ---- Repeat and Stop, at n, a
  module _ (n a : ℕ) (lo : 1 ≤ n) (hi : n ≤ 23) (low : a ≤ 15) (here : on n ≡ true) where
    keeps-repeat-next : (rest : RestHere) (ws : List ℕ) (c : ℕ)
        → ((ws' : List ℕ) (c' : ℕ) → Keeps (λ (m : List ℕ). rest m ws' c')) → (r : Reply) → Keeps (repeat_next rest ws c r)
    unfolding repeat_next
    keeps-repeat-next rest ws c h r = go (eqb r.x 1)
      where
        go : (t : Bool) → Keeps (λ (m : List ℕ). elim t [ false ↦ ended 3 m ws (c + 1) | true ↦ rest m (keep r ws) (c + 1) ])
        go false = keeps-ended 3 ws (c + 1)
        go true = h (keep r ws) (c + 1)

    pub keeps-repeat : (k limit : ℕ) (ws : List ℕ) (c : ℕ) → Keeps (λ (m : List ℕ). repeat_from k cycle n a limit m ws c)
    unfolding repeat_from
    keeps-repeat zero limit ws c = go (ltb (length ws) limit)
      where
        go : (t : Bool) → Keeps (λ (m : List ℕ). elim t [ false ↦ ended 1 m ws c | true ↦ ended 2 m ws c ])
        go true = keeps-ended 2 ws c
        go false = keeps-ended 1 ws c
    keeps-repeat (suc k) limit ws c = go (λ ws' c'. keeps-repeat k limit ws' c') (ltb (length ws) limit)
      where
        go : ((ws' : List ℕ) (c' : ℕ) → Keeps (λ (m : List ℕ). repeat_from k cycle n a limit m ws' c')) → (t : Bool) → Keeps (λ (m : List ℕ). elim t [
          | false ↦ ended 1 m ws c
          | true ↦ repeat_next (repeat_from k cycle n a limit) ws c (cycle m n a (length ws)).reply (cycle m n a (length ws)).memory
        ])
        go ih false = keeps-ended 1 ws c
        go ih true =
            keeps-cycle n a (length ws) lo hi low here (repeat_next (repeat_from k cycle n a limit) ws c)
            (keeps-repeat-next (repeat_from k cycle n a limit) ws c ih)

    keeps-stop-next : (rest : RestHere) (ws : List ℕ) (c : ℕ)
        → ((ws' : List ℕ) (c' : ℕ) → Keeps (λ (m : List ℕ). rest m ws' c')) → (r : Reply) → Keeps (stop_next rest ws c r)
    unfolding stop_next
    keeps-stop-next rest ws c h r = go (eqb r.x 1) (eqb r.q 1)
      where
        go : (t u : Bool) → Keeps (λ (m : List ℕ). elim t [
          | false ↦ ended 3 m ws (c + 1)
          | true ↦ elim u [ false ↦ ended 2 m ws (c + 1) | true ↦ rest m (store r ws) (c + 1) ]
        ])
        go false u = keeps-ended 3 ws (c + 1)
        go true false = keeps-ended 2 ws (c + 1)
        go true true = h (store r ws) (c + 1)

    pub keeps-stop : (k : ℕ) (ws : List ℕ) (c : ℕ) → Keeps (λ (m : List ℕ). stop_from k cycle n a m ws c)
    unfolding stop_from
    keeps-stop zero ws c = keeps-ended 1 ws c
    keeps-stop (suc k) ws c =
        keeps-cycle n a (length ws) lo hi low here (stop_next (stop_from k cycle n a) ws c) (keeps-stop-next (stop_from k cycle n a) ws c (keeps-stop k))
