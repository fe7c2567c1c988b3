-- What the one law says of the Station Number Register: it stands in block 0, which only a step that touches all 23 stations changes, or reads but for I.
-- Assumes nothing.
use Prim.Native.Nat.{ℕ, ◌+◌, ◌*◌, ◌/◌, ◌%◌, ◌≤◌, ◌<◌}
use mathlib.Core.Path.{◌≡◌, refl, sym, ap, ◌∙◌}
use mathlib.Core.Bool.{Bool, true, false, true≢false, cond}
use mathlib.Core.List.{List}
use mathlib.Core.Logic.{⊎_elim}
use native.Mathlib.Omega.{arith}
use borrow.Author.Tests.{ltb-true, ltb-false}
use lib.Dec.{ltb}
use lib.ListN.{get_or, set, get_or-eq_default}
use lib.Seq.{get_or-set_other}
use Rattle.blocks.specs.Blocks.{Agree, snr_of}
use Rattle.kinds.proofs.TestLaws.{decided}
use Rattle.regroup.specs.Local.{Local}
use Rattle.dataway.specs.Crate.{is_fit_crate, FitCrate, empty_crate}
use Rattle.dataway.proofs.CrateLaws.{crate-facts, empty-fit, fit-snr}
use Rattle.step.specs.Verdict.{front_verdict}
use Rattle.step.specs.declared.Refusal.TheVariants.{UnfitCrate}
use Rattle.controller.specs.Steps.{Order, refused, done_of, step_of, leaves, gives, touches}
use Rattle.controller.specs.Register.{Spares, ButRegister, RegisterKept, RegisterUnread}
use Rattle.controller.proofs.StepLaws.{law}
use Rattle.controller.proofs.Samples.{at3}

-- an unfit memory stays as it is
unfit-same : (m : List ℕ) (o : Order) → is_fit_crate m ≡ false → leaves m o ≡ m
unfolding step_of
unfit-same m o e = ap (λ (t : Bool). (cond t (done_of m o) (refused UnfitCrate m o.buffer)).memory) e

pub register-kept : RegisterKept
register-kept m o (n, lo, hi, off) =
    ⊎_elim
    (λ (e : is_fit_crate m ≡ true). ((law.local o).frame m (crate-facts m e) n lo hi off).1 1 (omega arith))
    (λ (e : is_fit_crate m ≡ false). ap snr_of (unfit-same m o e))
    (decided (is_fit_crate m))

module _ (m m' : List ℕ) (o : Order) (q : FitCrate m) (q' : FitCrate m') (but : ButRegister m m') (spares : Spares o) where
  local-o : Local FitCrate (touches o) (λ (x : List ℕ). leaves x o) (λ (x : List ℕ). gives x o)
  local-o = law.local o

  -- the blocks of the stations are the same
  blocks : (n : ℕ) → 1 ≤ n → Agree m m' n
  blocks n lo w h = but (32 * n + w) (λ e. omega arith)

  read : (gives m o ≡ gives m' o) × ((n : ℕ) → 1 ≤ n → n ≤ 23 → touches o n ≡ true → Agree (leaves m o) (leaves m' o) n)
  read = local-o.reads m m' q q' (
    λ n lo hi on. (blocks n lo, but 0 (λ e. omega arith)),
    λ all. absurd (true≢false (sym (all spares.0 spares.1 spares.2) ∙ spares.3)),
  )

  -- and so they are afterwards: where the step touches a station, it leaves the same there; where it does not, nothing has changed
  after : (n : ℕ) → 1 ≤ n → n ≤ 23 → Agree (leaves m o) (leaves m' o) n
  after n lo hi =
      ⊎_elim
      (λ (on : touches o n ≡ true). read.1 n lo hi on)
      (λ (off : touches o n ≡ false) w h. (local-o.frame m q n lo hi off).0 w h ∙ blocks n lo w h ∙ sym ((local-o.frame m' q' n lo hi off).0 w h))
      (decided (touches o n))

  -- block 0 has not changed
  kept : (x : List ℕ) → FitCrate x → (i : ℕ) → i < 32 → get_or (leaves x o) i 0 ≡ get_or x i 0
  kept x g i h =
      let e : 32 * 0 + i ≡ i = omega arith in
      rw e at ((local-o.frame x g spares.0 spares.1 spares.2 spares.3).1 i h)

  front : (i : ℕ) → i < 32 → (i ≡ 1 → ⊥) → get_or (leaves m o) i 0 ≡ get_or (leaves m' o) i 0
  front i h d = kept m q i h ∙ but i d ∙ sym (kept m' q' i h)

  at : (i : ℕ) → 32 * (i / 32) + i % 32 ≡ i
  at i = omega arith

  past : (x : List ℕ) (i : ℕ) → FitCrate x → 768 ≤ i → get_or (leaves x o) i 0 ≡ 0
  past x i g h = get_or-eq_default (leaves x o) 0 (omega (arith, law.size (leaves x o) (local-o.keeps x g)))

  alike-but : ButRegister (leaves m o) (leaves m' o)
  alike-but i d = go (ltb i 32) (ltb i 768) refl refl
    where
      go : (s t : Bool) → ltb i 32 ≡ s → ltb i 768 ≡ t → get_or (leaves m o) i 0 ≡ get_or (leaves m' o) i 0
      go true t e g = front i (ltb-true _ _ e) d
      go false true e g =
          let hi : i < 768 = ltb-true _ _ g in
          let lo : 32 ≤ i = ltb-false _ _ e in
          rw at at (after (i / 32) (omega arith) (omega arith) (i % 32) (omega arith))
      go false false e g = past m i q (ltb-false _ _ g) ∙ sym (past m' i q' (ltb-false _ _ g))

pub register-unread : RegisterUnread
register-unread m m' o q q' but spares = ((read m m' o q q' but spares).0, alike-but m m' o q q' but spares)

-- there are such crates and such a step: the empty crate, with the register at 0 and at 5, and an event at station 3
pub unread-sample : (gives empty_crate at3 ≡ gives (set empty_crate 1 5) at3) × ButRegister (leaves empty_crate at3) (leaves (set empty_crate 1 5) at3)
unfolding front_verdict
unread-sample =
    register-unread empty_crate (set empty_crate 1 5) at3 empty-fit (fit-snr empty_crate 5 empty-fit (omega arith))
    (λ i d. sym (get_or-set_other empty_crate 1 i 5 0 d)) (5, omega arith, omega arith, refl)
