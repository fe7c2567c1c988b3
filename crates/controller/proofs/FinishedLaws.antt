-- What the answer of a step tells: a step whose answer is no refusal was done, from a fit crate and with fields within their bounds; so the laws of the
-- scan's walk and of X, Q and R speak of it.
-- Assumes nothing.
use Prim.Native.Nat.{ℕ, ◌+◌, ◌-◌, ◌≤◌, ◌<◌, ◌^◌}
use mathlib.Core.Path.{◌≡◌, refl, sym, ap, ◌∙◌}
use mathlib.Core.Bool.{Bool, true, false, true≢false, cond}
use mathlib.Core.List.{List, ◌++◌}
use native.Mathlib.Omega.{arith}
use lib.ListN.{length, drop}
use Rattle.station.specs.declared.Reply.{Reply}
use Rattle.dataway.specs.Crate.{is_fit_crate, FitCrate}
use Rattle.dataway.proofs.CrateLaws.{crate-facts}
use Rattle.dataway.proofs.ReplyLaws.{sent-proper}
use Rattle.transfer.specs.Cycle.{transfer_of}
use Rattle.transfer.specs.Scan.{scan_of}
use Rattle.transfer.specs.Walk.{Made, Walk, words_of, Everywhere}
use Rattle.transfer.specs.declared.Transfer.{Transfer}
use Rattle.transfer.proofs.WalkLaws.{scan-walks, finished-walk}
use Rattle.step.specs.Verdict.{is_fine, step_verdict}
use Rattle.step.proofs.Fine.{command-fine, scan-fields}
use Rattle.step.specs.declared.Refusal.TheVariants.{UnfitCrate}
use Rattle.step.specs.declared.Step.{Step}
use Rattle.step.specs.declared.Step.TheVariants.{Command, Front, Z, C, Inhibit, LookAtMe, Scan, Repeat, Stop, Put, PutLent, Processor, Within}
use Rattle.controller.specs.Steps.{order, Performed, refused, act_of, judged_of, done_of, step_of, leaves, gives}
use Rattle.controller.specs.Finished.{Scanned, FinishedScan, RepliesAreWords}
use Rattle.controller.proofs.Sentences.{is_refused}
use Rattle.controller.specs.declared.Answer.{Answer}
use Rattle.controller.specs.declared.Answer.TheVariants.{Replied, Taken, Done, Looked, Transferred, Wrote, Listed, Refused}
use Rattle.std.specs.Prelude.{Ok, Err}
use Rattle.step.specs.Results.{Verdict}

-- ---- a step whose answer is no refusal was done
pub record Did (m : List ℕ) (s : Step) (b : List ℕ) : Type 0 where
  pub fit : FitCrate m
  pub fine : is_fine (step_verdict s b) ≡ true
  pub did : step_of m (order (Ok s) b) ≡ act_of m s b

module _ (m : List ℕ) (s : Step) (b : List ℕ) where
  pub step-did : is_refused (gives m (order (Ok s) b)).answer ≡ false → Did m s b
  unfolding step_of done_of
  step-did h = go (is_fit_crate m) (step_verdict s b) refl refl h
    where
      go : (t : Bool) (v : Verdict) → is_fit_crate m ≡ t → step_verdict s b ≡ v
          → is_refused (cond t (judged_of v m s b) (refused UnfitCrate m b)).out.answer ≡ false → Did m s b
      go true (Ok _) f e n = record {
        fit = crate-facts m f;
        fine = ap is_fine e;
        did = ap (λ (t : Bool). cond t (judged_of (step_verdict s b) m s b) (refused UnfitCrate m b)) f ∙ ap (λ (v : Verdict). judged_of v m s b) e;
      }
      go true (Err q) f e n = absurd (true≢false n)
      go false v f e n = absurd (true≢false n)

  -- and its answer is that of what it did
  pub did-answer : Did m s b → {r : Answer} → (gives m (order (Ok s) b)).answer ≡ r → (act_of m s b).out.answer ≡ r
  did-answer d h = sym (ap (λ (p : Performed). p.out.answer) d.did) ∙ h

-- ---- end, words and cycles
-- those of an answer that has them
abbrev pub transfer_in : Answer → Transfer
transfer_in (Transferred p) = p
transfer_in (Wrote p) = p
transfer_in (Replied p) = record { end = 0; words = 0; cycles = 0 }
transfer_in (Taken v) = record { end = 0; words = 0; cycles = 0 }
transfer_in Done = record { end = 0; words = 0; cycles = 0 }
transfer_in (Looked p) = record { end = 0; words = 0; cycles = 0 }
transfer_in (Listed count) = record { end = 0; words = 0; cycles = 0 }
transfer_in (Refused q) = record { end = 0; words = 0; cycles = 0 }

-- ---- a scan
-- equal ends and memories
walk_same : {f to limit : ℕ} {m : List ℕ} {n a k : ℕ} {cs : List Made} {e d : ℕ} {m' m'' : List ℕ} → e ≡ d → m' ≡ m'' → Walk f to limit m n a k cs e m'
    → Walk f to limit m n a k cs d m''
walk_same p q w = rw (sym p, sym q) w

module _ (m : List ℕ) (n a f to limit : ℕ) (b : List ℕ) (t : Transfer) (h : (gives m (order (Ok (Scan n a f to limit)) b)).answer ≡ Transferred t) where
  pub scan-did : Did m (Scan n a f to limit) b
  scan-did = step-did m (Scan n a f to limit) b (ap is_refused h)

  pub fields : (1 ≤ n) × (a ≤ 15) × (n ≤ to) × (to ≤ 23) × (limit ≤ 512) × (limit ≤ length b)
  fields = let p = scan-fields n a f to limit (length b) scan-did.fine in (p.0, p.2, p.4, p.5, p.7, p.8)

  pub told : transfer_of (scan_of m n a f to limit) ≡ t
  told = ap transfer_in (did-answer m (Scan n a f to limit) b scan-did h)

  made_by : (cs : List Made) × Walk f to limit m n a 0 cs (scan_of m n a f to limit).end (scan_of m n a f to limit).memory
      × ((scan_of m n a f to limit).cycles ≡ length cs) × ((scan_of m n a f to limit).words ≡ words_of cs)
  made_by = scan-walks m n a f to limit fields.1

  walked : Walk f to limit m n a 0 made_by.0 t.end (leaves m (order (Ok (Scan n a f to limit)) b))
  walked = walk_same (ap (λ (p : Transfer). p.end) told) (sym (ap (λ (p : Performed). p.memory) scan-did.did)) made_by.1

  count-words : t.words ≡ length (words_of made_by.0)
  count-words = sym (ap (λ (p : Transfer). p.words) told) ∙ ap length made_by.3

  count-cycles : t.cycles ≡ length made_by.0
  count-cycles = sym (ap (λ (p : Transfer). p.cycles) told) ∙ made_by.2

  finished : t.end ≡ 2 → Everywhere n a to made_by.0 × (to - n + 1 ≤ length made_by.0)
  finished e = finished-walk f to limit m n a 0 made_by.0 (leaves m (order (Ok (Scan n a f to limit)) b)) fields.2 (walk_same e refl walked)

  scanned : Scanned m n a f to limit b t (leaves m (order (Ok (Scan n a f to limit)) b)) (gives m (order (Ok (Scan n a f to limit)) b)).buffer
  scanned = record {
    commands = made_by.0;
    walk = walked;
    cycles = count-cycles;
    words = count-words;
    buffer =
        ap (λ (p : Performed). p.out.buffer) scan-did.did
        ∙ ap (λ (l : List ℕ). l ++ drop (length (scan_of m n a f to limit).words) b) made_by.3
        ∙ ap (λ (k : ℕ). words_of made_by.0 ++ drop k b) (ap (λ (p : Transfer). p.words) told);
    everywhere = λ e. (finished e).0;
    enough = λ e. omega (arith, (finished e).1, count-cycles);
  }

-- A FINISHED SCAN HAS BEEN EVERYWHERE
pub finished-scan : FinishedScan
finished-scan m n a f to limit b t h = scanned m n a f to limit b t h

-- ---- X, Q and R
abbrev reply_in : Answer → Reply
reply_in (Replied p) = p
reply_in (Transferred p) = record { x = 0; q = 0; r = 0 }
reply_in (Taken v) = record { x = 0; q = 0; r = 0 }
reply_in Done = record { x = 0; q = 0; r = 0 }
reply_in (Looked p) = record { x = 0; q = 0; r = 0 }
reply_in (Wrote p) = record { x = 0; q = 0; r = 0 }
reply_in (Listed count) = record { x = 0; q = 0; r = 0 }
reply_in (Refused q) = record { x = 0; q = 0; r = 0 }

-- only a command answers so
abbrev Words : List ℕ → List ℕ → Reply → Type 0
Words m m' p = (p.x < 2) × (p.q < 2) × (p.r < 2 ^ 24) × (p.x ≡ 0 → (p.q ≡ 0) × (p.r ≡ 0) × (m' ≡ m))

act-words : (m : List ℕ) (s : Step) (b : List ℕ) (p : Reply) → FitCrate m → is_fine (step_verdict s b) ≡ true → (act_of m s b).out.answer ≡ Replied p → Words m (act_of m s b).memory p
act-words m (Command n a f w) b p g v e = rw (sym (ap reply_in e)) (
    let h = command-fine n a f w v in
    let k = sent-proper m g n a f w h.0 h.1 in
    (k.0.0, k.0.1, k.0.2, k.1))
act-words m (Front n a x) b p g v e = absurd (let z : ◌≡◌ {A = ℕ} 0 1 = cc in omega arith)
act-words m Z b p g v e = absurd (let z : ◌≡◌ {A = ℕ} 0 1 = cc in omega arith)
act-words m C b p g v e = absurd (let z : ◌≡◌ {A = ℕ} 0 1 = cc in omega arith)
act-words m (Inhibit x) b p g v e = absurd (let z : ◌≡◌ {A = ℕ} 0 1 = cc in omega arith)
act-words m LookAtMe b p g v e = absurd (let z : ◌≡◌ {A = ℕ} 0 1 = cc in omega arith)
act-words m (Scan n a f to limit) b p g v e = absurd (let z : ◌≡◌ {A = ℕ} 0 1 = cc in omega arith)
act-words m (Repeat n a f limit tries) b p g v e = absurd (let z : ◌≡◌ {A = ℕ} 0 1 = cc in omega arith)
act-words m (Stop n a f limit) b p g v e = absurd (let z : ◌≡◌ {A = ℕ} 0 1 = cc in omega arith)
act-words m (Put n a to limit w) b p g v e = absurd (let z : ◌≡◌ {A = ℕ} 0 1 = cc in omega arith)
act-words m (PutLent n a to limit) b p g v e = absurd (let z : ◌≡◌ {A = ℕ} 0 1 = cc in omega arith)
act-words m (Processor t) b p g v e = absurd (let z : ◌≡◌ {A = ℕ} 0 1 = cc in omega arith)
act-words m (Within n to lo hi) b p g v e = absurd (let z : ◌≡◌ {A = ℕ} 0 1 = cc in omega arith)

pub replies-words : RepliesAreWords
replies-words m s b p e =
    let d = step-did m s b (ap is_refused e) in
    rw (ap (λ (x : Performed). x.memory) d.did) (act-words m s b p d.fit d.fine (did-answer m s b d e))
