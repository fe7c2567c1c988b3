-- The test of the stations that a step touches is exact: one case a kind of step, each by the test's own bounds.
-- Assumes nothing.
use mathlib.Core.Path.{◌≡◌, refl, ap, ◌∙◌, subst}
use mathlib.Core.Bool.{Bool, true, false, false≢true, ◌&&◌, and-eq-true_iff}
use mathlib.Core.List.{List}
use Prim.Native.Nat.{ℕ, ◌≤◌, ◌<◌}
use native.Mathlib.Omega.{arith}
use borrow.Author.Tests.{eqb-true, eq-eqb, leb-true, leb-false, le-leb, lt-leb}
use lib.Dec.{leb}
use lib.ListN.{length}
use Rattle.step.specs.declared.Step.{Step}
use Rattle.step.specs.declared.Step.TheVariants.{Command, Front, Z, C, Inhibit, LookAtMe, Scan, Repeat, Stop, Put, PutLent, Processor, Within}
use Rattle.step.specs.declared.Short.{Short}
use Rattle.step.specs.declared.Short.TheVariants.{ShortScan, ShortRepeat, ShortStop}
use Rattle.step.specs.Verdict.{is_fine, step_verdict, verdict_of}
use Rattle.step.specs.Touches.{reach, reach_of, touches_of}
use Rattle.step.specs.Entries.{general_of}
use Rattle.step.specs.Reached.{Reached, TouchesExact}
use Rattle.step.specs.Reached.Reached.{by-command, by_front, by-repeat, by-stop, by-many, by-scan, by-put, by-put-lent, by-processor, by-within, by-z, by-c, by-i, by-look}
use Rattle.step.proofs.Fine.{within-bounds, command-fine, front-fine, scan-fields, repeat-fine, stop-fine, put-fields, put-lent-fields, within-fields}
use Rattle.step.proofs.Entries.{short-fine}
use Rattle.std.specs.Prelude.{Ok, Err}
use Rattle.step.specs.Results.{Reading, Verdict}

-- what the test finds is reached
pub reach-only : (s : Step) (k : ℕ) → 1 ≤ k → k ≤ 23 → reach s k ≡ true → Reached s k
reach-only (Command n a f w) k lo hi e = go (leb n 23) refl
  where
    go : (t : Bool) → leb n 23 ≡ t → Reached (Command n a f w) k
    go true h = subst (Reached (Command n a f w)) (eqb-true n k (rw h at e)) (by-command (leb-true n 23 h))
    go false h = by-many (leb-false n 23 h) lo hi
reach-only (Front n a v) k lo hi e = subst (Reached (Front n a v)) (eqb-true n k e) by_front
reach-only Z k lo hi e = by-z lo hi
reach-only C k lo hi e = by-c lo hi
reach-only (Inhibit v) k lo hi e = by-i lo hi
reach-only LookAtMe k lo hi e = by-look lo hi
reach-only (Scan n a f to limit) k lo hi e = let h = within-bounds n k to e in by-scan h.0 h.1
reach-only (Repeat n a f limit tries) k lo hi e = subst (Reached (Repeat n a f limit tries)) (eqb-true n k e) by-repeat
reach-only (Stop n a f limit) k lo hi e = subst (Reached (Stop n a f limit)) (eqb-true n k e) by-stop
reach-only (Put n a to limit w) k lo hi e = let h = within-bounds n k to e in by-put h.0 h.1
reach-only (PutLent n a to limit) k lo hi e = let h = within-bounds n k to e in by-put-lent h.0 h.1
reach-only (Processor (ShortScan n a f to limit)) k lo hi e = let h = within-bounds n k to e in by-processor {t = ShortScan n a f to limit} (by-scan h.0 h.1)
reach-only (Processor (ShortRepeat n a f limit tries)) k lo hi e =
    by-processor {t = ShortRepeat n a f limit tries} (subst (Reached (Repeat n a f limit tries)) (eqb-true n k e) by-repeat)
reach-only (Processor (ShortStop n a f limit)) k lo hi e =
    by-processor {t = ShortStop n a f limit} (subst (Reached (Stop n a f limit)) (eqb-true n k e) by-stop)
reach-only (Within n to x y) k lo hi e = let h = within-bounds n k to e in by-within h.0 h.1

-- and what is reached is found
pub reach-all : {s : Step} {k : ℕ} → Reached s k → reach s k ≡ true
reach-all (by-command {n = n} hi) = rw (le-leb n 23 hi) (eq-eqb n n refl)
reach-all (by_front {n = n}) = eq-eqb n n refl
reach-all (by-repeat {n = n}) = eq-eqb n n refl
reach-all (by-stop {n = n}) = eq-eqb n n refl
reach-all (by-many {n = n} above lo hi) = rw (lt-leb n 23 above)
reach-all (by-scan {n = n} {to = to} {k = k} lo hi) = rw (le-leb n k lo, le-leb k to hi)
reach-all (by-put {n = n} {to = to} {k = k} lo hi) = rw (le-leb n k lo, le-leb k to hi)
reach-all (by-put-lent {n = n} {to = to} {k = k} lo hi) = rw (le-leb n k lo, le-leb k to hi)
reach-all (by-processor {t = ShortScan n a f to limit} h) = reach-all h
reach-all (by-processor {t = ShortRepeat n a f limit tries} h) = reach-all h
reach-all (by-processor {t = ShortStop n a f limit} h) = reach-all h
reach-all (by-within {n = n} {to = to} {k = k} lo hi) = rw (le-leb n k lo, le-leb k to hi)
reach-all (by-z lo hi) = refl
reach-all (by-c lo hi) = refl
reach-all (by-i lo hi) = refl
reach-all (by-look lo hi) = refl

-- a step that is not refused touches one of the 23 stations
pub reaches-one : (s : Step) (b : List ℕ) → is_fine (step_verdict s b) ≡ true → (n : ℕ) × (1 ≤ n) × (n ≤ 23) × Reached s n
reaches-one (Command n a f w) b e = go (leb n 23) (leb-true n 23) (leb-false n 23)
  where
    go : (t : Bool) → (t ≡ true → n ≤ 23) → (t ≡ false → 23 < n) → (k : ℕ) × (1 ≤ k) × (k ≤ 23) × Reached (Command n a f w) k
    go true below above = (n, (command-fine n a f w e).0, below refl, by-command (below refl))
    go false below above = (1, omega arith, omega arith, by-many {k = 1} (above refl) (omega arith) (omega arith))
reaches-one (Front n a v) b e = let h = front-fine n a v e in (n, h.0, h.1, by_front)
reaches-one Z b e = (1, omega arith, omega arith, by-z {k = 1} (omega arith) (omega arith))
reaches-one C b e = (1, omega arith, omega arith, by-c {k = 1} (omega arith) (omega arith))
reaches-one (Inhibit v) b e = (1, omega arith, omega arith, by-i {k = 1} (omega arith) (omega arith))
reaches-one LookAtMe b e = (1, omega arith, omega arith, by-look {k = 1} (omega arith) (omega arith))
reaches-one (Scan n a f to limit) b e = let h = scan-fields n a f to limit (length b) e in (n, h.0, h.1, by-scan {n = n} {k = n} (omega arith) h.4)
reaches-one (Repeat n a f limit tries) b e = let h = repeat-fine n a f limit tries (length b) e in (n, h.0, h.1, by-repeat)
reaches-one (Stop n a f limit) b e = let h = stop-fine n a f limit (length b) e in (n, h.0, h.1, by-stop)
reaches-one (Put n a to limit w) b e = let h = put-fields n a to limit w e in (n, h.0, h.1, by-put {n = n} {k = n} (omega arith) h.3)
reaches-one (PutLent n a to limit) b e = let h = put-lent-fields n a to limit b e in (n, h.0, h.1, by-put-lent {n = n} {k = n} (omega arith) h.3)
reaches-one (Processor t) b e = go t (short-fine t b e)
  where
    go : (t : Short) → is_fine (step_verdict (general_of t) b) ≡ true → (n : ℕ) × (1 ≤ n) × (n ≤ 23) × Reached (Processor t) n
    go (ShortScan n a f to limit) h =
        let h = scan-fields n a f to limit (length b) h in
        (n, h.0, h.1, by-processor {t = ShortScan n a f to limit} (by-scan {n = n} {k = n} (omega arith) h.4))
    go (ShortRepeat n a f limit tries) h =
        let h = repeat-fine n a f limit tries (length b) h in
        (n, h.0, h.1, by-processor {t = ShortRepeat n a f limit tries} by-repeat)
    go (ShortStop n a f limit) h = let h = stop-fine n a f limit (length b) h in (n, h.0, h.1, by-processor {t = ShortStop n a f limit} by-stop)
reaches-one (Within n to lo hi) b e = let h = within-fields n to lo hi (length b) e in (n, h.0, h.1, by-within {n = n} {k = n} (omega arith) h.2)

is-fine : (v : Verdict) → is_fine v ≡ true → v ≡ Ok tt
is-fine (Ok _) e = refl
is-fine (Err q) e = absurd (false≢true e)

pub touches-exact : TouchesExact
touches-exact r b k lo hi = (only r, λ s e f h. all s e f (reach-all h))
  where
    only : (r : Reading) → touches_of r b k ≡ true → (s : Step) × (r ≡ Ok s) × (verdict_of r b ≡ Ok tt) × Reached s k
    only (Ok s) e =
        let h = (and-eq-true_iff (is_fine (verdict_of (Ok s) b)) (reach s k)).0 e in
        (s, refl, is-fine (verdict_of (Ok s) b) h.0, reach-only s k lo hi h.1)
    only (Err q) e = absurd (false≢true e)

    all : (s : Step) → r ≡ Ok s → verdict_of r b ≡ Ok tt → reach s k ≡ true → touches_of r b k ≡ true
    all s e f h = ap (λ (v : Verdict). is_fine v && reach_of r k) f ∙ ap (λ (t : Reading). reach_of t k) e ∙ h
