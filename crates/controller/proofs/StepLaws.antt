-- Every step obeys the one law (RULES 5.8): one case a kind of step, none a kind of module. And so lists may be regrouped.
-- Assumes nothing.
use mathlib.Core.Path.{◌≡◌, refl, ap}
use mathlib.Core.Bool.{Bool, true, false, cond, ◌&&◌}
use mathlib.Core.List.{List, ◌++◌}
use Prim.Native.Nat.{ℕ}
use borrow.Author.Tests.{eq-eqb, le-leb}
use lib.ListN.{length, take, drop, replicate}
use Rattle.regroup.specs.Local.{Local}
use Rattle.regroup.specs.Lists.{Law}
use Rattle.regroup.proofs.Local.{local-none, local-map}
use Rattle.regroup.proofs.Whole.{regroup}
use native.Mathlib.Omega.{arith}
use Rattle.station.specs.declared.Reply.{Reply}
use Rattle.dataway.specs.Crate.{FitCrate}
use Rattle.dataway.specs.Stations.{taken_of, after_front}
use Rattle.dataway.specs.Addressed.{sent_of}
use Rattle.dataway.proofs.CrateLaws.{facts-crate}
use Rattle.dataway.proofs.Locality.{crate-size, local_same, local-sent, local-front, local-z, local-c, local-i, local-lam}
use Rattle.transfer.specs.Cycle.{Told, told}
use Rattle.transfer.specs.Scan.{scan_of}
use Rattle.transfer.specs.Repeat.{repeat_of}
use Rattle.transfer.specs.Stop.{stop_of}
use Rattle.transfer.specs.Put.{put_of}
use Rattle.transfer.proofs.Locality.{local-scan, local-put, local-repeat, local-stop}
use Rattle.transfer.proofs.Putting.{same-narrow}
use Rattle.windows.specs.Within.{within_of, listed_in}
use Rattle.windows.proofs.Locality.{local-within}
use Rattle.step.specs.Verdict.{step_verdict, is_fine}
use Rattle.step.specs.Touches.{reach, touches_of}
use Rattle.step.specs.declared.Refusal.{Refusal}
use Rattle.step.proofs.Fine.{command-fine, front-fine, inhibit-fine, scan-fine, repeat-fine, stop-fine, narrow_at, put-fields, put-lent-fields, within-fields}
use Rattle.step.specs.declared.Refusal.TheVariants.{UnfitCrate}
use Rattle.step.specs.declared.Step.{Step}
use Rattle.step.specs.declared.Step.TheVariants.{Command, Front, Z, C, Inhibit, LookAtMe, Scan, Repeat, Stop, Put, PutLent, Processor, Within}
use Rattle.step.specs.declared.Short.{Short}
use Rattle.step.specs.declared.Short.TheVariants.{ShortScan, ShortRepeat, ShortStop}
use Rattle.step.specs.Entries.{general_of}
use Rattle.step.proofs.Entries.{short-fine}
use Rattle.controller.specs.declared.Answer.TheVariants.{Replied, Taken, Transferred, Wrote, Listed, Refused}
use Rattle.controller.specs.Steps.{Order, Out, Performed, refused, act_of, judged_of, reading_done, done_of, step_of, leaves, gives, touches}
use Rattle.controller.specs.Regrouping.{beyond, Regrouping}
use Rattle.std.specs.Prelude.{Ok, Err}
use Rattle.step.specs.Results.{Reading, Verdict}

-- what a transfer tells, with the buffer that it was lent
abbrev told_out : List ℕ → Told → Out
told_out b t = record {
  answer = Transferred (record { end = t.end; words = length t.words; cycles = t.cycles });
  buffer = t.words ++ drop (length t.words) b;
}

-- the same of a put: the buffer stays
abbrev wrote_out : List ℕ → Told → Out
wrote_out b t = record { answer = Wrote (record { end = t.end; words = length t.words; cycles = t.cycles }); buffer = b }

-- ---- the three transfers, which stand at two entries
general : (t : Short) (b : List ℕ) → is_fine (step_verdict (general_of t) b) ≡ true
    → Local FitCrate (reach (general_of t)) (λ (m : List ℕ). (act_of m (general_of t) b).memory) (λ (m : List ℕ). (act_of m (general_of t) b).out)
general (ShortScan n a f to limit) b e =
    let h = scan-fine n a f to limit (length b) e in
    let on = reach (Scan n a f to limit) in
    local-map FitCrate crate-size on (λ (m : List ℕ). (scan_of m n a f to limit).memory) (λ (m : List ℕ). told (scan_of m n a f to limit)) (told_out b)
    (local-scan n a h.0 h.1 on f to limit h.2 (λ i p q. rw (le-leb n i p, le-leb i to q)))
general (ShortRepeat n a f limit tries) b e =
    let h = repeat-fine n a f limit tries (length b) e in
    let on = reach (Repeat n a f limit tries) in
    local-map FitCrate crate-size on (λ (m : List ℕ). (repeat_of m n a f limit tries).memory) (λ (m : List ℕ). told (repeat_of m n a f limit tries)) (told_out b)
    (local-repeat n a h.0 h.2 on f limit tries h.1 (eq-eqb n n refl))
general (ShortStop n a f limit) b e =
    let h = stop-fine n a f limit (length b) e in
    let on = reach (Stop n a f limit) in
    local-map FitCrate crate-size on (λ (m : List ℕ). (stop_of m n a f limit).memory) (λ (m : List ℕ). told (stop_of m n a f limit)) (told_out b)
    (local-stop n a h.0 h.2 on f limit h.1 (eq-eqb n n refl))

-- ---- one case a kind of step
good : (s : Step) (b : List ℕ) → is_fine (step_verdict s b) ≡ true
    → Local FitCrate (reach s) (λ (m : List ℕ). (act_of m s b).memory) (λ (m : List ℕ). (act_of m s b).out)
good (Command n a f w) b e =
    let h = command-fine n a f w e in
    let on = reach (Command n a f w) in
    local-map FitCrate crate-size on (λ (m : List ℕ). (sent_of m n a f w).memory) (λ (m : List ℕ). (sent_of m n a f w).reply)
    (λ (r : Reply). record { answer = Replied r; buffer = b })
    (local-sent n a f w h.0 h.1 h.3 (λ x y z. let l = h.4 x y z in omega arith))
good (Front n a v) b e =
    let h = front-fine n a v e in
    let on = reach (Front n a v) in
    local-map FitCrate crate-size on (λ (m : List ℕ). after_front m n a v) (λ (m : List ℕ). taken_of m n a v)
    (λ (t : ℕ). record { answer = Taken t; buffer = b })
    (local-front on n h.0 h.1 (eq-eqb n n refl) a v h.2 h.3)
good Z b e = local-z (reach Z) (λ n p q. refl) (λ (m : List ℕ). (act_of m Z b).out)
good C b e = local-c (reach C) (λ n p q. refl) (λ (m : List ℕ). (act_of m C b).out)
good (Inhibit v) b e = local-i (reach (Inhibit v)) (λ n p q. refl) (λ (m : List ℕ). (act_of m (Inhibit v) b).out) v (inhibit-fine v e)
good LookAtMe b e = local-lam (reach LookAtMe) (λ n p q. refl) (λ (m : List ℕ). (act_of m LookAtMe b).out)
good (Scan n a f to limit) b e = general (ShortScan n a f to limit) b e
good (Repeat n a f limit tries) b e = general (ShortRepeat n a f limit tries) b e
good (Stop n a f limit) b e = general (ShortStop n a f limit) b e
good (Processor (ShortScan n a f to limit)) b e = general (ShortScan n a f to limit) b (short-fine (ShortScan n a f to limit) b e)
good (Processor (ShortRepeat n a f limit tries)) b e = general (ShortRepeat n a f limit tries) b (short-fine (ShortRepeat n a f limit tries) b e)
good (Processor (ShortStop n a f limit)) b e = general (ShortStop n a f limit) b (short-fine (ShortStop n a f limit) b e)
good (Put n a to limit w) b e =
    let h = put-fields n a to limit w e in
    let on = reach (Put n a to limit w) in
    let ws = replicate limit w in
    local-map FitCrate crate-size on (λ (m : List ℕ). (put_of m n a to limit ws).memory) (λ (m : List ℕ). told (put_of m n a to limit ws)) (wrote_out b)
    (local-put n a h.0 h.2 on to limit ws (same-narrow limit w h.7) h.4 (λ i p q. rw (le-leb n i p, le-leb i to q)))
good (PutLent n a to limit) b e =
    let h = put-lent-fields n a to limit b e in
    let on = reach (PutLent n a to limit) in
    let ws = take limit b in
    local-map FitCrate crate-size on (λ (m : List ℕ). (put_of m n a to limit ws).memory) (λ (m : List ℕ). told (put_of m n a to limit ws)) (wrote_out b)
    (local-put n a h.0 h.2 on to limit ws (narrow_at ws h.8) h.4 (λ i p q. rw (le-leb n i p, le-leb i to q)))
good (Within n to lo hi) b e =
    let h = within-fields n to lo hi (length b) e in
    let on = reach (Within n to lo hi) in
    local-map FitCrate crate-size on (λ (m : List ℕ). m) (λ (m : List ℕ). within_of m n to lo hi)
    (λ (ps : List ℕ). record { answer = Listed (length ps); buffer = listed_in ps b })
    (local-within on n to h.0 h.3 (λ i p q. rw (le-leb n i p, le-leb i to q)) lo hi)

-- ---- any step, refused or not
local-done : (o : Order) → Local FitCrate (touches o) (λ (m : List ℕ). (done_of m o).memory) (λ (m : List ℕ). (done_of m o).out)
unfolding done_of
local-done o = go o.reading o.buffer
  where
    none : (b : List ℕ) (q : Refusal) → Local FitCrate (λ (k : ℕ). false) (λ (m : List ℕ). (refused q m b).memory) (λ (m : List ℕ). (refused q m b).out)
    none b q = local-none FitCrate crate-size (λ (k : ℕ). false) (record { answer = Refused q; buffer = b })

    judged : (s : Step) (b : List ℕ) (v : Verdict) → step_verdict s b ≡ v
        → Local FitCrate (λ (k : ℕ). is_fine v && reach s k) (λ (m : List ℕ). (judged_of v m s b).memory) (λ (m : List ℕ). (judged_of v m s b).out)
    judged s b (Ok _) e = good s b (ap is_fine e)
    judged s b (Err q) e = none b q

    go : (r : Reading) (b : List ℕ) → Local FitCrate (λ (k : ℕ). touches_of r b k) (λ (m : List ℕ). (reading_done m r b).memory) (λ (m : List ℕ). (reading_done m r b).out)
    go (Ok s) b = judged s b (step_verdict s b) refl
    go (Err q) b = none b q

-- from a fit crate 9 does not come
pub step-done : (m : List ℕ) (o : Order) → FitCrate m → step_of m o ≡ done_of m o
unfolding step_of
step-done m o q = ap (λ (t : Bool). cond t (done_of m o) (refused UnfitCrate m o.buffer)) (facts-crate m q)

local-step : (o : Order) → Local FitCrate (touches o) (λ (m : List ℕ). leaves m o) (λ (m : List ℕ). gives m o)
local-step o =
    local_same (touches o) (λ (m : List ℕ). (done_of m o).memory) (λ (m : List ℕ). leaves m o)
    (λ (m : List ℕ). (done_of m o).out) (λ (m : List ℕ). gives m o)
    (λ m q. ap (λ (p : Performed). p.memory) (step-done m o q))
    (λ m q. ap (λ (p : Performed). p.out) (step-done m o q))
    (local-done o)

-- THE LAW: a step from a fit crate keeps it fit, changes only the blocks that it touches, and I, and reads only those; only one that touches all 23 changes the
-- rest of block 0, the Station Number Register, or reads it
pub law : Law leaves gives FitCrate touches
law = record { size = crate-size; local = local-step }

-- a step that is done leaves the crate fit
pub done-fit : (m : List ℕ) (o : Order) → FitCrate m → FitCrate (done_of m o).memory
done-fit m o q = (local-done o).keeps m q

-- DEMAND 3
pub crate-regroup : Regrouping
crate-regroup m q xs ys p r = regroup leaves gives FitCrate touches law beyond m q xs ys p r
