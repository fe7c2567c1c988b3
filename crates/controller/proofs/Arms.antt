-- The arms of `act` and `perform`: of a step that is not refused, what the calls below it ask for; what each arm comes to; and what judging comes to.
-- Assumes nothing.
use Prim.Native.Nat.{ℕ, ◌≤◌}
use mathlib.Core.Path.{◌≡◌, sym, ap, subst, ◌∙◌}
use mathlib.Core.Bool.{true}
use mathlib.Core.List.{List}
use native.Mathlib.Omega.{arith}
use lib.ListN.{length, get_or, take, replicate, length-replicate}
use Rattle.station.specs.Accepted.{ReadFunction}
use Rattle.station.specs.declared.Reply.{Reply}
use Rattle.dataway.specs.Crate.{FitCrate}
use Rattle.dataway.specs.Stations.{taken_of, after_front}
use Rattle.dataway.specs.Addressed.{Commanded, sent_of}
use Rattle.dataway.specs.Controls.{after_z, after_c, after_i}
use Rattle.dataway.specs.Lam.{lam_of}
use Rattle.dataway.specs.declared.lam.LamReading.{LamReading}
use Rattle.transfer.specs.Cycle.{Ended, transfer_of, buffer_after}
use Rattle.transfer.specs.Scan.{scan_of}
use Rattle.transfer.specs.Repeat.{repeat_of}
use Rattle.transfer.specs.Stop.{stop_of}
use Rattle.transfer.specs.Put.{put_of}
use Rattle.transfer.specs.declared.Transfer.{Transfer}
use Rattle.windows.specs.Within.{within_of, listed_in}
use Rattle.step.specs.Verdict.{step_verdict, short_verdict, is_fine, places_of}
use Rattle.step.proofs.Fine.{transfer-one-of, command-fine, front-fine, inhibit-fine, scan-fields, repeat-fields, stop-fields, narrow_at, put-fields, put-lent-fields, within-fields}
use Rattle.step.specs.declared.Refusal.{Refusal}
use Rattle.step.specs.declared.Step.{Step}
use Rattle.step.specs.declared.Step.TheVariants.{Command, Front, Z, C, Inhibit, LookAtMe, Scan, Repeat, Stop, Put, PutLent, Processor, Within}
use Rattle.step.specs.declared.Short.{Short}
use Rattle.step.specs.declared.Short.TheVariants.{ShortScan, ShortRepeat, ShortStop}
use Rattle.step.specs.Entries.{general_of}
use Rattle.step.proofs.Entries.{short-fine}
use Rattle.controller.specs.declared.Answer.{Answer}
use Rattle.controller.specs.declared.Answer.TheVariants.{Replied, Taken, Done, Looked, Transferred, Wrote, Listed, Refused}
use Rattle.controller.specs.Steps.{order, Performed, performed, short_of, act_of, judged_of, done_of}
use Rattle.controller.proofs.StepLaws.{done-fit}
use Rattle.std.specs.Prelude.{Ok, Err}
use Rattle.step.specs.Results.{Reading, Verdict}

-- ---- what the calls ask for
module _ (s : Step) (b : List ℕ) (good : is_fine (step_verdict s b) ≡ true) where
  pub command-good : (n a f w : ℕ) → s ≡ Command n a f w → (1 ≤ n) × (a ≤ 15) × (f ≤ 31) × (w ≤ 16777215)
  command-good n a f w e = let h = command-fine n a f w (rw e at good) in (h.0, h.1, h.2, h.3)

  pub front-good : (n a v : ℕ) → s ≡ Front n a v → (1 ≤ n) × (n ≤ 23) × (a ≤ 15) × (v ≤ 16777215)
  front-good n a v e = front-fine n a v (rw e at good)

  pub inhibit-good : (v : ℕ) → s ≡ Inhibit v → v ≤ 1
  inhibit-good v e = inhibit-fine v (rw e at good)

  pub scan_good : (n a f to limit : ℕ) → s ≡ Scan n a f to limit
      → (1 ≤ n) × (n ≤ to) × (to ≤ 23) × (a ≤ 15) × ReadFunction f × (1 ≤ limit) × (limit ≤ 512) × (limit ≤ length b)
  scan_good n a f to limit e =
      let h = scan-fields n a f to limit (length b) (rw e at good) in
      (h.0, h.4, h.5, h.2, transfer-one-of f h.3, h.6, h.7, h.8)

  pub repeat-good : (n a f limit tries : ℕ) → s ≡ Repeat n a f limit tries
      → (1 ≤ n) × (n ≤ 23) × (a ≤ 15) × ReadFunction f × (1 ≤ limit) × (limit ≤ 512) × (limit ≤ length b) × (tries ≤ 4096)
  repeat-good n a f limit tries e =
      let h = repeat-fields n a f limit tries (length b) (rw e at good) in
      (h.0, h.1, h.2, transfer-one-of f h.3, h.4, h.5, h.8, h.7)

  pub stop-good : (n a f limit : ℕ) → s ≡ Stop n a f limit
      → (1 ≤ n) × (n ≤ 23) × (a ≤ 15) × ReadFunction f × (limit ≤ 512) × (limit ≤ length b)
  stop-good n a f limit e =
      let h = stop-fields n a f limit (length b) (rw e at good) in
      (h.0, h.1, h.2, transfer-one-of f h.3, h.5, h.6)

  pub put-good : (n a to limit w : ℕ) → s ≡ Put n a to limit w
      → (1 ≤ n) × (n ≤ to) × (to ≤ 23) × (a ≤ 15) × (1 ≤ limit) × (limit ≤ 512) × (w ≤ 16777215)
  put-good n a to limit w e =
      let h = put-fields n a to limit w (rw e at good) in
      (h.0, h.3, h.4, h.2, h.5, h.6, h.7)

  pub put-lent-good : (n a to limit : ℕ) → s ≡ PutLent n a to limit
      → ((1 ≤ n) × (n ≤ to) × (to ≤ 23) × (a ≤ 15) × (1 ≤ limit) × (limit ≤ 512) × (limit ≤ length b)) × ((k : ℕ) → get_or (take limit b) k 0 ≤ 16777215)
  put-lent-good n a to limit e =
      let h = put-lent-fields n a to limit b (rw e at good) in
      ((h.0, h.3, h.4, h.2, h.5, h.6, h.7), narrow_at (take limit b) h.8)

  pub processor-good : (t : Short) → s ≡ Processor t → is_fine (short_verdict t (length b)) ≡ true
  processor-good t e = rw e at good

  pub within-good : (n to lo hi : ℕ) → s ≡ Within n to lo hi → (1 ≤ n) × (n ≤ to) × (to ≤ 23) × (places_of n to ≤ length b)
  within-good n to lo hi e =
      let h = within-fields n to lo hi (length b) (rw e at good) in
      (h.0, h.2, h.3, h.6)

-- the same of a transfer at the trigger processor's entry: what is fine there is fine at the general entry, so its call may be made
module _ (t : Short) (lent : ℕ) (good : is_fine (short_verdict t lent) ≡ true) where
  zeros : length (replicate {A = ℕ} lent 0) ≡ lent
  zeros = length-replicate {A = ℕ} lent 0

  general-good : is_fine (step_verdict (general_of t) (replicate lent 0)) ≡ true
  general-good = short-fine t (replicate lent 0) (rw zeros good)

  pub short-scan-good : (n a f to limit : ℕ) → t ≡ ShortScan n a f to limit
      → (1 ≤ n) × (n ≤ to) × (to ≤ 23) × (a ≤ 15) × ReadFunction f × (1 ≤ limit) × (limit ≤ 512) × (limit ≤ lent)
  short-scan-good n a f to limit e =
      let h = scan_good (general_of t) (replicate lent 0) general-good n a f to limit (ap general_of e) in
      (h.0, h.1, h.2, h.3, h.4, h.5, h.6, omega (arith, h.7, zeros))

  pub short-repeat-good : (n a f limit tries : ℕ) → t ≡ ShortRepeat n a f limit tries
      → (1 ≤ n) × (n ≤ 23) × (a ≤ 15) × ReadFunction f × (1 ≤ limit) × (limit ≤ 512) × (limit ≤ lent) × (tries ≤ 4096)
  short-repeat-good n a f limit tries e =
      let h = repeat-good (general_of t) (replicate lent 0) general-good n a f limit tries (ap general_of e) in
      (h.0, h.1, h.2, h.3, h.4, h.5, omega (arith, h.6, zeros), h.7)

  pub short-stop-good : (n a f limit : ℕ) → t ≡ ShortStop n a f limit
      → (1 ≤ n) × (n ≤ 23) × (a ≤ 15) × ReadFunction f × (limit ≤ 512) × (limit ≤ lent)
  short-stop-good n a f limit e =
      let h = stop-good (general_of t) (replicate lent 0) general-good n a f limit (ap general_of e) in
      (h.0, h.1, h.2, h.3, h.4, omega (arith, h.5, zeros))

-- and what its arm comes to
pub short-acts : (m m' b b' : List ℕ) (r : Transfer) (t u : Short) → t ≡ u
    → r ≡ transfer_of (short_of m u) → m' ≡ (short_of m u).memory → b' ≡ buffer_after (short_of m u) b
    → (r ≡ transfer_of (short_of m t)) × ((m' ≡ (short_of m t).memory) × (b' ≡ buffer_after (short_of m t) b))
short-acts m m' b b' r t u e p q h = rw e (p, (q, h))

-- ---- what each arm comes to, from what its call ensures
module _ (s : Step) (m m' b : List ℕ) where
  pub command-acts : (n a f w : ℕ) (r : Reply) → s ≡ Command n a f w → sent_of m n a f w ≡ record { memory = m'; reply = r }
      → act_of m s b ≡ performed m' (Replied r) b
  command-acts n a f w r e p = rw e (ap (λ (o : Commanded). performed o.memory (Replied o.reply) b) p)

  pub front-acts : (n a v : ℕ) (t : ℕ) → s ≡ Front n a v → t ≡ taken_of m n a v → m' ≡ after_front m n a v → act_of m s b ≡ performed m' (Taken t) b
  front-acts n a v t e p q = rw (e, p, q)

  pub z-acts : s ≡ Z → m' ≡ after_z m → act_of m s b ≡ performed m' Done b
  z-acts e q = rw (e, q)

  pub c-acts : s ≡ C → m' ≡ after_c m → act_of m s b ≡ performed m' Done b
  c-acts e q = rw (e, q)

  pub inhibit-acts : (v : ℕ) → s ≡ Inhibit v → m' ≡ after_i m v → act_of m s b ≡ performed m' Done b
  inhibit-acts v e q = rw (e, q)

  module _ (b' : List ℕ) (r : Transfer) where
    ended : (o : Ended) → act_of m s b ≡ performed o.memory (Transferred (transfer_of o)) (buffer_after o b)
        → r ≡ transfer_of o → m' ≡ o.memory → b' ≡ buffer_after o b → act_of m s b ≡ performed m' (Transferred r) b'
    ended o e p q t = rw (p, q, t) e

    pub scan-acts : (n a f to limit : ℕ) → s ≡ Scan n a f to limit → r ≡ transfer_of (scan_of m n a f to limit)
        → m' ≡ (scan_of m n a f to limit).memory → b' ≡ buffer_after (scan_of m n a f to limit) b → act_of m s b ≡ performed m' (Transferred r) b'
    scan-acts n a f to limit e = ended (scan_of m n a f to limit) (rw e)

    pub repeat-acts : (n a f limit tries : ℕ) → s ≡ Repeat n a f limit tries → r ≡ transfer_of (repeat_of m n a f limit tries)
        → m' ≡ (repeat_of m n a f limit tries).memory → b' ≡ buffer_after (repeat_of m n a f limit tries) b → act_of m s b ≡ performed m' (Transferred r) b'
    repeat-acts n a f limit tries e = ended (repeat_of m n a f limit tries) (rw e)

    pub stop-acts : (n a f limit : ℕ) → s ≡ Stop n a f limit → r ≡ transfer_of (stop_of m n a f limit)
        → m' ≡ (stop_of m n a f limit).memory → b' ≡ buffer_after (stop_of m n a f limit) b → act_of m s b ≡ performed m' (Transferred r) b'
    stop-acts n a f limit e = ended (stop_of m n a f limit) (rw e)

    pub processor-acts : (t : Short) → s ≡ Processor t → r ≡ transfer_of (short_of m t)
        → m' ≡ (short_of m t).memory → b' ≡ buffer_after (short_of m t) b → act_of m s b ≡ performed m' (Transferred r) b'
    processor-acts t e = ended (short_of m t) (rw e)

  pub put-acts : (n a to limit w : ℕ) (r : Transfer) → s ≡ Put n a to limit w → r ≡ transfer_of (put_of m n a to limit (replicate limit w))
      → m' ≡ (put_of m n a to limit (replicate limit w)).memory → act_of m s b ≡ performed m' (Wrote r) b
  put-acts n a to limit w r e p q = rw (e, p, q)

  pub put-lent-acts : (n a to limit : ℕ) (r : Transfer) → s ≡ PutLent n a to limit → r ≡ transfer_of (put_of m n a to limit (take limit b))
      → m' ≡ (put_of m n a to limit (take limit b)).memory → act_of m s b ≡ performed m' (Wrote r) b
  put-lent-acts n a to limit r e p q = rw (e, p, q)

-- the Look-at-Me reading changes nothing
pub lam-acts : (s : Step) (m b : List ℕ) (p : LamReading) → s ≡ LookAtMe → p ≡ lam_of m → act_of m s b ≡ performed m (Looked p) b
lam-acts s m b p e q = rw (e, q)

-- nor does a listing change the crate
pub within-acts : (s : Step) (m b b' : List ℕ) (n to lo hi : ℕ) (count : ℕ) → s ≡ Within n to lo hi → count ≡ length (within_of m n to lo hi)
    → b' ≡ listed_in (within_of m n to lo hi) b → act_of m s b ≡ performed m (Listed count) b'
within-acts s m b b' n to lo hi count e p q = rw (e, p, q)

-- ---- a step that is judged first
fine-done : (m b : List ℕ) (s : Step) → step_verdict s b ≡ Ok tt → done_of m (order (Ok s) b) ≡ act_of m s b
unfolding done_of
fine-done m b s e = ap (λ (w : Verdict). judged_of w m s b) e

module _ (m b : List ℕ) (f : FitCrate m) where
  pub refused-done : (s : Step) (v : Verdict) (q : Refusal) → v ≡ step_verdict s b → v ≡ Err q
      → (done_of m (order (Ok s) b) ≡ performed m (Refused q) b) × FitCrate m
  unfolding done_of
  refused-done s v q e h = (ap (λ (w : Verdict). judged_of w m s b) (sym e ∙ h), f)

  pub acted-done : (s : Step) (v : Verdict) (m' b' : List ℕ) (r : Answer) → v ≡ step_verdict s b → v ≡ Ok tt → act_of m s b ≡ performed m' r b'
      → (done_of m (order (Ok s) b) ≡ performed m' r b') × FitCrate m'
  acted-done s v m' b' r e h a =
      let d : done_of m (order (Ok s) b) ≡ performed m' r b' = fine-done m b s (sym e ∙ h) ∙ a in
      (d, subst FitCrate (ap (λ (p : Performed). p.memory) d) (done-fit m (order (Ok s) b) f))

  pub bad-done : (r : Reading) (q : Refusal) → r ≡ Err q → (done_of m (order r b) ≡ performed m (Refused q) b) × FitCrate m
  unfolding done_of
  bad-done r q e = (rw e, f)
