-- Where a Repeat and a Stop end 3: a step that answers end, words and cycles was done, from a fit crate and with fields within their bounds (`FinishedLaws`),
-- so the laws of the transfers speak of it (`repeat-ends-three`, `stop-ends-three`).
-- Assumes nothing.
use Prim.Native.Nat.{ℕ, ◌≤◌}
use mathlib.Core.Path.{◌≡◌, refl, sym, ap, ◌∙◌}
use mathlib.Core.List.{List}
use native.Mathlib.Omega.{arith}
use native.Mathlib.Decide.{dec_lt}
use lib.ListN.{length}
use Rattle.dataway.specs.Stations.{reply_of}
use Rattle.transfer.specs.Cycle.{Ended}
use Rattle.transfer.specs.Repeat.{repeat_of}
use Rattle.transfer.specs.Stop.{stop_of}
use Rattle.transfer.specs.Faults.{Aimed, registers, EndsThree}
use Rattle.transfer.specs.declared.Transfer.{Transfer}
use Rattle.transfer.proofs.FaultLaws.{accepted-below, repeat-ends-three, stop-ends-three}
use Rattle.step.proofs.Fine.{transfer-one-of, repeat-fields, stop-fields}
use Rattle.step.specs.declared.Step.{Step}
use Rattle.step.specs.declared.Step.TheVariants.{Repeat, Stop}
use Rattle.controller.specs.declared.Answer.TheVariants.{Transferred}
use Rattle.controller.specs.Steps.{order, Performed, transferred, act_of, gives}
use Rattle.controller.specs.NotAccepted.{NotAccepted, RepeatNotAccepted, StopNotAccepted}
use Rattle.controller.proofs.Sentences.{is_refused}
use Rattle.controller.proofs.FinishedLaws.{Did, step-did, did-answer, transfer_in}
use Rattle.std.specs.Prelude.{Ok}

-- the step s came to e, of which the laws of a transfer aimed at N, A speak
module _ (m : List ℕ) (n a f : ℕ) (s : Step) (b : List ℕ) (p : Transfer) (h : (gives m (order (Ok s) b)).answer ≡ Transferred p) where
  as-aimed : Did m s b → (e : Ended) → act_of m s b ≡ transferred e b → Aimed m n a f → EndsThree m n a f e → NotAccepted m n a s b p
  as-aimed d e t aim three = (
    λ x. below (three.1 (end ∙ x)),
    λ l. d.did ∙ t ∙ ap (λ (x : Ended). transferred x b) (three.0 ((accepted-below m n a f aim).1 l)),
  )
    where
      end : e.end ≡ p.end
      end = ap (λ (x : Transfer). x.end) (ap transfer_in (sym (ap (λ (x : Performed). x.out.answer) t) ∙ did-answer m s b d h))

      below : (reply_of m n a f 0).x ≡ 0 → registers m n ≤ a
      below z =
          elim (dec_lt a (registers m n)) [
            | yes l ↦ absurd (omega (arith, z, (accepted-below m n a f aim).0 l))
            | no l ↦ omega arith
          ]

pub repeat-not-accepted : RepeatNotAccepted
repeat-not-accepted m n a f limit tries b p h =
    let s = Repeat n a f limit tries in
    let d = step-did m s b (ap is_refused h) in
    let q = repeat-fields n a f limit tries (length b) d.fine in
    let aim : Aimed m n a f = record { fit = d.fit; first = q.0; last = q.1; subaddress = q.2; function = transfer-one-of f q.3 } in
    as-aimed m n a f s b p h d (repeat_of m n a f limit tries) refl aim (repeat-ends-three m n a f limit tries aim q.4 q.6)

pub stop-not-accepted : StopNotAccepted
stop-not-accepted m n a f limit b p h =
    let s = Stop n a f limit in
    let d = step-did m s b (ap is_refused h) in
    let q = stop-fields n a f limit (length b) d.fine in
    let aim : Aimed m n a f = record { fit = d.fit; first = q.0; last = q.1; subaddress = q.2; function = transfer-one-of f q.3 } in
    as-aimed m n a f s b p h d (stop_of m n a f limit) refl aim (stop-ends-three m n a f limit aim q.4)
