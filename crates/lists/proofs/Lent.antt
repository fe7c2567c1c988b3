-- One step of a lent list: the step is read from its six words, its part of the buffers is lent, and what comes back is what the step gives.
-- Assumes nothing.
use Prim.Native.Nat.{ℕ, ◌+◌, ◌-◌, ◌*◌}
use mathlib.Core.Path.{◌≡◌, refl, sym, ap, ap₂, ◌∙◌}
use mathlib.Core.List.{List, [], ◌∷◌}
use native.Mathlib.Omega.{arith}
use lib.ListN.{length, get_or, set}
use borrow.Rule.Slice.PartMut.{mid_of, put_mid}
use Rattle.kinds.proofs.TestLaws.{Rest, case-else}
use Rattle.dataway.specs.Crate.{FitCrate}
use Rattle.step.specs.declared.Refusal.TheVariants.{Garbled}
use Rattle.controller.specs.Steps.{order, Performed, performed, done_of, step_of, leaves, gives}
use Rattle.controller.specs.declared.Answer.{Answer}
use Rattle.controller.proofs.StepLaws.{step-done}
use Rattle.lists.specs.Words.{kinds_of, reading_of, with_part, order_at}
use Rattle.lists.proofs.Parts.{part-lent, part-back}
use Rattle.std.specs.Prelude.{Err}
use Rattle.step.specs.Results.{Reading}

-- a number that is no kind of step is garbled
pub reading-else : (w : List ℕ) → Rest Unit (get_or w 0 0) (kinds_of w) → Err Garbled ≡ reading_of w
unfolding reading_of
reading-else w h = sym (case-else Unit (get_or w 0 0) (kinds_of w) (Err Garbled) h).1

-- four words stored
pub four-sets : (xs : List ℕ) (t x y z : ℕ) → length xs ≡ 4 → set (set (set (set xs 0 t) 1 x) 2 y) 3 z ≡ t ∷ x ∷ y ∷ z ∷ []
four-sets [] t x y z l = absurd (omega arith)
four-sets (_ ∷ []) t x y z l = absurd (omega arith)
four-sets (_ ∷ _ ∷ []) t x y z l = absurd (omega arith)
four-sets (_ ∷ _ ∷ _ ∷ []) t x y z l = absurd (omega arith)
four-sets (_ ∷ _ ∷ _ ∷ _ ∷ []) t x y z l = refl
four-sets (_ ∷ _ ∷ _ ∷ _ ∷ _ ∷ xs) t x y z l = absurd (omega arith)

module _ (m ws : List ℕ) (k : ℕ) (bs : List ℕ) (q : ℕ) (f : FitCrate m) where
  pub step-lent : (reading : Reading) (m' : List ℕ) (r : Answer) (y : List ℕ)
      → reading ≡ reading_of (mid_of (6 * k) (6 * k + 6 - 6 * k) ws)
      → done_of m (order reading (mid_of (512 * q) (512 * q + 512 - 512 * q) bs)) ≡ performed m' r y → FitCrate m'
      → (r ≡ (gives m (order_at ws k bs q)).answer)
      × ((m' ≡ leaves m (order_at ws k bs q))
      × ((put_mid (512 * q) (512 * q + 512 - 512 * q) bs y ≡ with_part 512 bs q (gives m (order_at ws k bs q)).buffer) × FitCrate m'))
  step-lent reading m' r y er ed fit = (
    sym (ap (λ (p : Performed). p.out.answer) done),
    (
      sym (ap (λ (p : Performed). p.memory) done),
      (part-back 512 bs q y ∙ ap (λ (p : Performed). with_part 512 bs q p.out.buffer) (sym done), fit),
    ),
  )
    where
      done : step_of m (order_at ws k bs q) ≡ performed m' r y
      done =
          step-done m (order_at ws k bs q) f
          ∙ ap₂ (λ (x : Reading) (b : List ℕ). done_of m (order x b)) (sym (er ∙ ap reading_of (part-lent 6 ws k))) (sym (part-lent 512 bs q))
          ∙ ed
