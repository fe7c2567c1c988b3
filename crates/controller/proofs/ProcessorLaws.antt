-- The trigger processor's entry beside the general one: where the two judge alike, they do alike; and what is fine there has a limit of 32 at most.
-- Assumes nothing.
use Prim.Native.Nat.{ℕ, ◌+◌, ◌-◌, ◌≤◌}
use mathlib.Core.Path.{◌≡◌, refl, sym, ap, ◌∙◌}
use mathlib.Core.Bool.{Bool, true, false, false≢true, cond}
use mathlib.Core.Logic.{inl, inr}
use mathlib.Core.List.{List, ◌++◌}
use native.Mathlib.Omega.{arith}
use native.Mathlib.Decide.{dec_lt}
use lib.ListN.{length, drop}
use lib.Seq.{drop-drop, drop-append-add}
use Rattle.dataway.specs.Crate.{is_fit_crate, FitCrate}
use Rattle.dataway.proofs.CrateLaws.{crate-facts}
use Rattle.transfer.specs.declared.Transfer.{Transfer}
use Rattle.step.specs.Entries.{general_of, limit_of, head_of}
use Rattle.step.specs.Verdict.{is_fine, short_verdict, step_verdict}
use Rattle.step.proofs.Entries.{judged-few, judged-above, judged-head, judged-long, short-few, short-fine}
use Rattle.step.specs.declared.Refusal.TheVariants.{UnfitCrate}
use Rattle.step.specs.declared.Short.{Short}
use Rattle.step.specs.declared.Short.TheVariants.{ShortScan, ShortRepeat, ShortStop}
use Rattle.step.specs.declared.Step.TheVariants.{Processor}
use Rattle.controller.specs.declared.Answer.TheVariants.{Transferred}
use Rattle.controller.specs.Steps.{Performed, refused, short_of, act_of, judged_of, done_of, step_of}
use Rattle.controller.specs.Processor.{at_processor, at_general, ShortGeneral, ShortAbove, ShortHead, ShortLong, ShortUnfit, GeneralOrLong, ShortEither, ShortHolds}
use Rattle.controller.proofs.StepLaws.{step-done}
use Rattle.controller.proofs.Sentences.{is_refused, general-words}
use Rattle.controller.proofs.FinishedLaws.{transfer_in}
use Rattle.std.specs.Prelude.{Ok, Err}
use Rattle.step.specs.Results.{Verdict}

-- what is done is the same
act-general : (m : List ℕ) (t : Short) (b : List ℕ) → act_of m (Processor t) b ≡ act_of m (general_of t) b
act-general m (ShortScan n a f to limit) b = refl
act-general m (ShortRepeat n a f limit tries) b = refl
act-general m (ShortStop n a f limit) b = refl

-- with one verdict, one step
judged-general : (v : Verdict) (m : List ℕ) (t : Short) (b : List ℕ) → judged_of v m (Processor t) b ≡ judged_of v m (general_of t) b
judged-general (Ok _) m t b = act-general m t b
judged-general (Err q) m t b = refl

alike : (m : List ℕ) (t : Short) (b : List ℕ) → short_verdict t (length b) ≡ step_verdict (general_of t) b → step_of m (at_processor t b) ≡ step_of m (at_general t b)
unfolding step_of done_of
alike m t b e =
    ap (λ (p : Performed). cond (is_fit_crate m) p (refused UnfitCrate m b))
    (judged-general (short_verdict t (length b)) m t b ∙ ap (λ (v : Verdict). judged_of v m (general_of t) b) e)

pub short-general : ShortGeneral
short-general m t b h = alike m t b (judged-few t b h)

pub short-above : ShortAbove
short-above m t b h = alike m t b (judged-above t b h)

pub short-head : ShortHead
short-head m t b q h = let p = judged-head t b q h in alike m t b (p.0 ∙ sym p.1)

pub short-long : ShortLong
unfolding done_of
short-long m t b f lo hi h =
    step-done m (at_processor t b) f
    ∙ ap (λ (v : Verdict). judged_of v m (Processor t) b) (judged-long t (length b) (ap is_fine h) lo hi)

pub short-unfit : ShortUnfit
unfolding step_of
short-unfit m t b u = rw u

-- the crate is fit or not, a field before limit is refused or none is, and limit is up to 32, above 512 or between them
pub short-either : ShortEither
short-either m t b = by-crate (is_fit_crate m) refl
  where
    by-limit : FitCrate m → head_of t ≡ Ok tt → GeneralOrLong m t b
    by-limit f h =
        elim (dec_lt 32 (limit_of t)) [
          | yes lo ↦ elim (dec_lt 512 (limit_of t)) [
            | yes hi ↦ inl (short-above m t b hi)
            | no hi ↦ let most : limit_of t ≤ 512 = omega arith in inr (f, h, lo, most, short-long m t b f lo most h)
          ]
          | no lo ↦ inl (short-general m t b (omega arith))
        ]

    by-head : FitCrate m → (v : Verdict) → head_of t ≡ v → GeneralOrLong m t b
    by-head f (Ok _) h = by-limit f h
    by-head f (Err q) h = inl (short-head m t b q h)

    by-crate : (u : Bool) → is_fit_crate m ≡ u → GeneralOrLong m t b
    by-crate true e = by-head (crate-facts m e) (head_of t) refl
    by-crate false e = inl (short-unfit m t b e)

-- ---- what is stored: at most `limit` words, so at most 32
-- behind words that are stored a buffer is as it was
stays : (ws b : List ℕ) (k : ℕ) → length ws ≤ k → drop k (ws ++ drop (length ws) b) ≡ drop k b
stays ws b k h =
    let e : length ws + (k - length ws) ≡ k = omega (arith, h) in
    ap (λ (j : ℕ). drop j (ws ++ drop (length ws) b)) (sym e)
    ∙ drop-append-add ws (drop (length ws) b) (k - length ws)
    ∙ drop-drop (k - length ws) (length ws) b
    ∙ ap (λ (j : ℕ). drop j b) e

-- of what a step comes to: it tells of 32 words at most, and leaves the buffer behind them
abbrev Holds : List ℕ → Performed → Type 0
Holds b o = ((p : Transfer) → o.out.answer ≡ Transferred p → p.words ≤ 32) × (drop 32 o.out.buffer ≡ drop 32 b)

-- a refusal tells of no words
none_told : (b : List ℕ) (o : Performed) → is_refused o.out.answer ≡ true → drop 32 o.out.buffer ≡ drop 32 b → Holds b o
none_told b o r e = (λ p h. absurd (false≢true (sym (ap is_refused h) ∙ r)), e)

judged-holds : (v : Verdict) (m : List ℕ) (t : Short) (b : List ℕ) → short_verdict t (length b) ≡ v → Holds b (judged_of v m (Processor t) b)
judged-holds (Ok tt) m t b e =
    let fine = ap is_fine e in
    let few : length (short_of m t).words ≤ 32 = omega (arith, (general-words m t b (short-fine t b fine)).0, short-few t (length b) fine) in
    (λ p h. omega (arith, few, ap (λ (x : Transfer). x.words) (ap transfer_in h)), stays (short_of m t).words b 32 few)
judged-holds (Err q) m t b e = none_told b (refused q m b) refl refl

pub short-holds : ShortHolds
unfolding step_of done_of
short-holds m t b = go (is_fit_crate m)
  where
    go : (u : Bool) → Holds b (cond u (judged_of (short_verdict t (length b)) m (Processor t) b) (refused UnfitCrate m b))
    go true = judged-holds (short_verdict t (length b)) m t b refl
    go false = none_told b (refused UnfitCrate m b) refl refl
