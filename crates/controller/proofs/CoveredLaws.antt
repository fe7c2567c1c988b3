-- A step at a covered station: one that is not refused was done, from a fit crate and with fields within their bounds (`FinishedLaws`), and a covered station of a
-- fit crate answers as an empty one (`covered-empty`).
-- Assumes nothing.
use Prim.Native.Nat.{ℕ, ◌≤◌}
use mathlib.Core.Path.{◌≡◌, ap, ◌∙◌}
use mathlib.Core.List.{List}
use native.Mathlib.Omega.{arith}
use lib.ListN.{length}
use Rattle.blocks.specs.Blocks.{word}
use Rattle.dataway.specs.Covered.{AsEmpty}
use Rattle.dataway.proofs.AddressLaws.{sent-one}
use Rattle.dataway.proofs.CoveredLaws.{covered-empty, covered-station}
use Rattle.step.proofs.Fine.{command-fine, front-fine, repeat-fields, stop-fields}
use Rattle.step.specs.declared.Step.{Step}
use Rattle.step.specs.declared.Step.TheVariants.{Command, Front, Repeat, Stop}
use Rattle.controller.specs.Covered.{CoveredSteps}
use Rattle.controller.proofs.Sentences.{is_refused}
use Rattle.controller.proofs.FinishedLaws.{Did, step-did}
use Rattle.controller.proofs.NotAcceptedLaws.{repeat-not-accepted, stop-not-accepted}

-- the station of a step that was done
as-empty : (m : List ℕ) (n : ℕ) (s : Step) (b : List ℕ) → word m n 7 ≡ 1 → Did m s b → 1 ≤ n → n ≤ 23 → AsEmpty m n
as-empty m n s b h d lo hi = covered-empty m d.fit n lo hi h

pub covered-steps : CoveredSteps
covered-steps = record {
  command = λ m n a f w b p h g.
      let d = step-did m (Command n a f w) b (ap is_refused g) in
      let q = command-fine n a f w d.fine in
      let hi = covered-station m d.fit n h in
      let e = as-empty m n (Command n a f w) b h d q.0 hi in
      d.did ∙ rw (sent-one m n a f w hi, e.command a f w, e.reply a f w);
  front = λ m n a v b t h g.
      let d = step-did m (Front n a v) b (ap is_refused g) in
      let q = front-fine n a v d.fine in
      let e = as-empty m n (Front n a v) b h d q.0 q.1 in
      d.did ∙ rw (e.front a v, e.taken a v);
  repeat = λ m n a f limit tries b p h g.
      let d = step-did m (Repeat n a f limit tries) b (ap is_refused g) in
      let q = repeat-fields n a f limit tries (length b) d.fine in
      let e = as-empty m n (Repeat n a f limit tries) b h d q.0 q.1 in
      (repeat-not-accepted m n a f limit tries b p g).1 (omega (arith, e.registers));
  stop = λ m n a f limit b p h g.
      let d = step-did m (Stop n a f limit) b (ap is_refused g) in
      let q = stop-fields n a f limit (length b) d.fine in
      let e = as-empty m n (Stop n a f limit) b h d q.0 q.1 in
      (stop-not-accepted m n a f limit b p g).1 (omega (arith, e.registers));
}
