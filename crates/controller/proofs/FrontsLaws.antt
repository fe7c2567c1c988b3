-- What a front event answers: a step that answers a digit was done, from a fit crate and with fields within their bounds (`FinishedLaws`), so the laws of a
-- station's event speak of it (`digit-where`, `two-where-raised`).
-- Assumes nothing.
use Prim.Native.Nat.{ℕ}
use mathlib.Core.Path.{◌≡◌, sym, ap, subst, ◌∙◌}
use mathlib.Core.List.{List}
use native.Mathlib.Omega.{arith}
use Rattle.blocks.specs.Blocks.{block_of, inhibit_of}
use Rattle.blocks.proofs.Blocks.{block_same}
use Rattle.station.specs.Front.{front_of}
use Rattle.station.specs.Digit.{Sent, Raised}
use Rattle.station.proofs.FrontLaws.{front_kept, digit-where, two-where-raised}
use Rattle.dataway.specs.Stations.{taken_of, after_front}
use Rattle.step.proofs.Fine.{front-fine}
use Rattle.step.specs.declared.Step.TheVariants.{Front}
use Rattle.controller.specs.declared.Answer.{Answer}
use Rattle.controller.specs.declared.Answer.TheVariants.{Replied, Taken, Done, Looked, Transferred, Wrote, Listed, Refused}
use Rattle.controller.specs.Steps.{order, Performed, leaves}
use Rattle.controller.specs.Fronts.{Told, FrontTold}
use Rattle.controller.proofs.Sentences.{is_refused}
use Rattle.controller.proofs.FinishedLaws.{Did, step-did, did-answer}
use Rattle.std.specs.Prelude.{Ok}

-- the digit of an answer that has one
abbrev digit_in : Answer → ℕ
digit_in (Taken d) = d
digit_in (Replied p) = 0
digit_in Done = 0
digit_in (Looked p) = 0
digit_in (Transferred p) = 0
digit_in (Wrote p) = 0
digit_in (Listed count) = 0
digit_in (Refused q) = 0

module _ (m : List ℕ) (n a v : ℕ) (b : List ℕ) (d : Did m (Front n a v) b) where
  sent : Sent (inhibit_of m) (block_of m n) a v
  sent =
      let q = front-fine n a v d.fine in
      record { inhibit = omega (arith, d.fit.inhibit); fit = d.fit.station n q.0 q.1; subaddress = q.2; word = omega (arith, q.3) }

  -- the block of station N that the step leaves
  left : block_of (leaves m (order (Ok (Front n a v)) b)) n ≡ (front_of (inhibit_of m) (block_of m n) a v).block
  unfolding after_front
  left =
      let q = front-fine n a v d.fine in
      let k = front_kept (block_of m n) sent.fit v sent.word (inhibit_of m) a (omega (arith, q.2)) in
      ap (λ (x : Performed). block_of x.memory n) d.did ∙ block_same m n (front_of (inhibit_of m) (block_of m n) a v).block d.fit.size (omega arith) k.fit.long

  told : Told m (leaves m (order (Ok (Front n a v)) b)) n a (taken_of m n a v)
  unfolding taken_of
  told =
      let p = digit-where (inhibit_of m) (block_of m n) a v sent in
      let r = two-where-raised (inhibit_of m) (block_of m n) a v sent in
      let here : Raised (block_of m n) (block_of (leaves m (order (Ok (Front n a v)) b)) n) → Raised (block_of m n) (front_of (inhibit_of m) (block_of m n) a v).block =
      subst (Raised (block_of m n)) left in (
        p.0,
        p.1,
        p.2,
        (
          λ x. let y = r.0.0 x in (y.0, subst (Raised (block_of m n)) (sym left) y.1),
          λ x. r.0.1 (x.0, here x.1),
        ),
        λ l x. r.1 l (here x),
      )

pub front-told : FrontTold
front-told m n a v d b h =
    let z = step-did m (Front n a v) b (ap is_refused h) in
    subst (Told m (leaves m (order (Ok (Front n a v)) b)) n a) (ap digit_in (did-answer m (Front n a v) b z h)) (told m n a v b z)
