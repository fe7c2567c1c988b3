-- How long a scan or a put can take, and what a scan reads: a step that answers end, words and cycles was done, from a fit crate and with fields within their
-- bounds (`FinishedLaws`), so the laws of the walk speak of it (`scan-cycles` of any, `scan-held` of F0).
-- Assumes nothing.
use Prim.Native.Nat.{ℕ, ◌+◌, ◌-◌, ◌≤◌, ◌<◌}
use mathlib.Core.Path.{◌≡◌, sym, ap, ◌∙◌}
use mathlib.Core.List.{List, []}
use native.Mathlib.Omega.{arith}
use lib.ListN.{length, take, drop, replicate, length-take}
use lib.Seq.{take_all, take-append_seam}
use Rattle.transfer.specs.Cycle.{CycleAt, transfer_of, reads}
use Rattle.transfer.specs.Scan.{scanning, scan_of}
use Rattle.transfer.specs.Put.{writes}
use Rattle.transfer.specs.Held.{held_from}
use Rattle.transfer.specs.declared.Transfer.{Transfer}
use Rattle.transfer.proofs.Bound.{scan-cycles}
use Rattle.transfer.proofs.Ends.{Ends, reached, short, scan-ends, scan-words}
use Rattle.transfer.proofs.HeldLaws.{scan-held}
use Rattle.step.proofs.Fine.{put-fields, put-lent-fields}
use Rattle.step.specs.declared.Step.TheVariants.{Put, PutLent}
use Rattle.controller.specs.declared.Answer.TheVariants.{Transferred}
use Rattle.controller.specs.Steps.{Performed, gives}
use Rattle.controller.specs.Scans.{scan, InTime, ScanTime, PutTime, PutLentTime, ScanWithin, ScanRead, ScanReadTo}
use Rattle.controller.proofs.Sentences.{is_refused}
use Rattle.controller.proofs.FinishedLaws.{step-did, did-answer, transfer_in, scan-did, fields, told}

-- ---- how long
-- a walk of any cycle that was told as p
in-time : (cycle : CycleAt) (to limit : ℕ) (m : List ℕ) (n a : ℕ) (p : Transfer) → a ≤ 15 → n ≤ to
    → transfer_of (scanning cycle to limit m n a [] 0) ≡ p → InTime n to p
in-time cycle to limit m n a p h l t =
    omega (arith, scan-cycles cycle to limit m n a h l, ap (λ (x : Transfer). x.cycles) t, ap (λ (x : Transfer). x.words) t)

pub scan-time : ScanTime
scan-time m n a f to limit b p e =
    let h = fields m n a f to limit b p e in
    in-time (reads f) to limit m n a p h.1 h.2 (told m n a f to limit b p e)

pub put-time : PutTime
put-time m n a to limit w b p e =
    let d = step-did m (Put n a to limit w) b (ap is_refused e) in
    let h = put-fields n a to limit w d.fine in
    in-time (writes (replicate limit w)) to limit m n a p h.2 h.3 (ap transfer_in (did-answer m (Put n a to limit w) b d e))

pub put-lent-time : PutLentTime
put-lent-time m n a to limit b p e =
    let d = step-did m (PutLent n a to limit) b (ap is_refused e) in
    let h = put-lent-fields n a to limit b d.fine in
    in-time (writes (take limit b)) to limit m n a p h.2 h.3 (ap transfer_in (did-answer m (PutLent n a to limit) b d e))

-- ---- how many words
module _ (m : List ℕ) (n a f to limit : ℕ) (b : List ℕ) (p : Transfer) (e : (gives m (scan n a f to limit b)).answer ≡ Transferred p) where
  -- as many as are told
  counted : length (scan_of m n a f to limit).words ≡ p.words
  counted = ap (λ (x : Transfer). x.words) (told m n a f to limit b p e)

  -- fewer than `limit`, unless it ended 1
  fewer : (p.end ≡ 1 → ⊥) → p.words < limit
  fewer other = go (scan-ends (reads f) to limit m n a (fields m n a f to limit b p e).1)
    where
      go : Ends limit (scan_of m n a f to limit) → p.words < limit
      go (reached q l) = absurd (other (sym (ap (λ (x : Transfer). x.end) (told m n a f to limit b p e)) ∙ q))
      go (short q l) = omega (arith, l, counted)

  -- they stand first in the buffer
  stored : take p.words (gives m (scan n a f to limit b)).buffer ≡ (scan_of m n a f to limit).words
  stored =
      ap (λ (k : ℕ). take k (gives m (scan n a f to limit b)).buffer) (sym counted)
      ∙ ap (λ (x : Performed). take (length (scan_of m n a f to limit).words) x.out.buffer) (scan-did m n a f to limit b p e).did
      ∙ take-append_seam (scan_of m n a f to limit).words (drop (length (scan_of m n a f to limit).words) b)

pub scan-within : ScanWithin
scan-within m n a f to limit b p e =
    let h = fields m n a f to limit b p e in
    (h.0, h.2, h.3, omega (arith, scan-words (reads f) to limit m n a h.1, counted m n a f to limit b p e), h.4, h.5)

-- ---- what was read
pub scan-read-to : ScanReadTo
scan-read-to m n a to limit b p e =
    let d = scan-did m n a 0 to limit b p e in
    let h = fields m n a 0 to limit b p e in
    let s = scan-held m d.fit to limit h.3 n a h.0 h.1 in
    let k : to + 1 - n ≡ to - n + 1 = omega (arith, h.2) in
    (stored m n a 0 to limit b p e ∙ s.0 ∙ ap (λ (j : ℕ). take limit (held_from m j n a)) k, ap (λ (x : Performed). x.memory) d.did ∙ s.1)

-- where the first `limit` of a list are fewer, they are all of it
all_of : (k limit : ℕ) (ys xs : List ℕ) → k < limit → take k ys ≡ take limit xs → take k ys ≡ xs
all_of k limit ys xs l e = e ∙ take_all limit xs (omega (arith, l, ap length e, length-take k ys, length-take limit xs))

pub scan-read : ScanRead
scan-read m n to limit b p e two =
    let s = scan-read-to m n 0 to limit b p e in
    let l = fewer m n 0 0 to limit b p e (λ one. omega (arith, two, one)) in
    (all_of p.words limit (gives m (scan n 0 0 to limit b)).buffer (held_from m (to - n + 1) n 0) l s.0, s.1)
