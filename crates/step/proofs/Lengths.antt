-- What the verdict sees of a lent buffer: its length, and in a put of lent words whether they have 24 bits. So a buffer of zeros is judged best among
-- those of its length: what is refused with it is refused with any, with the same number, and what is fine with any is fine with it.
use mathlib.Core.Path.{◌≡◌, refl, sym, ap, ◌∙◌}
use mathlib.Core.Bool.{Bool, true, false, false≢true, and-eq-true_iff}
use mathlib.Core.List.{List, [], ◌∷◌}
use Prim.Native.Nat.{ℕ, zero, suc}
use lib.Dec.{leb}
use lib.ListN.{length, take, drop, replicate, length-replicate}
use Rattle.step.specs.declared.Refusal.{Refusal}
use Rattle.step.specs.declared.Refusal.TheVariants.{NoSuchStation, NoSuchSubaddress, CrossedRange, BadLength, ShortBuffer}
use Rattle.step.specs.declared.Step.{Step}
use Rattle.step.specs.declared.Step.TheVariants.{Command, Front, Z, C, Inhibit, LookAtMe, Scan, Repeat, Stop, Put, PutLent, Processor, Within}
use Rattle.step.specs.Verdict.{within, unless, is_fine, are_narrow, lent_then, offered_then, scan_verdict, repeat_verdict, stop_verdict, put_lent_verdict, short_verdict, within_verdict, step_verdict}
use Rattle.std.specs.Prelude.{Ok, Err}
use Rattle.step.specs.Results.{Verdict}

-- ---- a put of lent words
zeros-narrow : (limit k : ℕ) → are_narrow (take limit (replicate k 0)) ≡ true
zeros-narrow zero k = refl
zeros-narrow (suc limit) zero = refl
zeros-narrow (suc limit) (suc k) = zeros-narrow limit k

-- the verdict v refuses no more than w: where v refuses, w does so with the same number
abbrev pub Milder : Verdict → Verdict → Type 0
Milder v w = ((q : Refusal) → v ≡ Err q → w ≡ Err q) × (is_fine w ≡ true → is_fine v ≡ true)

milder-same : (v w : Verdict) → v ≡ w → Milder v w
milder-same v w e = ((λ q h. sym e ∙ h), λ h. ap is_fine e ∙ h)

milder-fine : (w : Verdict) → Milder (Ok tt) w
milder-fine w = ((λ q h. absurd (false≢true (sym (ap is_fine h)))), λ h. refl)

milder-unless : (t : Bool) (q : Refusal) (v w : Verdict) → Milder v w → Milder (unless t q v) (unless t q w)
milder-unless true q v w h = h
milder-unless false q v w h = milder-same (Err q) (Err q) refl

-- what stands behind the limit of a put of lent words: the length of its buffer, then the words
abbrev buffer_verdict : ℕ → List ℕ → Verdict
buffer_verdict limit b = lent_then limit (length b) (offered_then (take limit b) (Ok tt))

-- zeros of the same length are judged best
pub judged-zeros : (s : Step) (b : List ℕ) (k : ℕ) → length b ≡ k → Milder (step_verdict s (replicate k 0)) (step_verdict s b)
unfolding put_lent_verdict
judged-zeros (Command n a f w) b k e = milder-same _ _ refl
judged-zeros (Front n a v) b k e = milder-same _ _ refl
judged-zeros Z b k e = milder-same _ _ refl
judged-zeros C b k e = milder-same _ _ refl
judged-zeros (Inhibit v) b k e = milder-same _ _ refl
judged-zeros LookAtMe b k e = milder-same _ _ refl
judged-zeros (Scan n a f to limit) b k e = milder-same _ _ (ap (scan_verdict n a f to limit) (length-replicate {A = ℕ} k 0 ∙ sym e))
judged-zeros (Repeat n a f limit tries) b k e = milder-same _ _ (ap (repeat_verdict n a f limit tries) (length-replicate {A = ℕ} k 0 ∙ sym e))
judged-zeros (Stop n a f limit) b k e = milder-same _ _ (ap (stop_verdict n a f limit) (length-replicate {A = ℕ} k 0 ∙ sym e))
judged-zeros (Put n a to limit w) b k e = milder-same _ _ refl
judged-zeros (Processor t) b k e = milder-same _ _ (ap (short_verdict t) (length-replicate {A = ℕ} k 0 ∙ sym e))
judged-zeros (Within n to lo hi) b k e = milder-same _ _ (ap (within_verdict n to lo hi) (length-replicate {A = ℕ} k 0 ∙ sym e))
judged-zeros (PutLent n a to limit) b k e =
    milder-unless (within 1 n 23) NoSuchStation _ _
    (milder-unless (leb a 15) NoSuchSubaddress _ _ (milder-unless (within n to 23) CrossedRange _ _ (milder-unless (within 1 limit 512) BadLength _ _ last)))
  where
    last : Milder (buffer_verdict limit (replicate k 0)) (buffer_verdict limit b)
    last =
        rw (length-replicate {A = ℕ} k 0, e, zeros-narrow limit k)
        (milder-unless (leb limit k) ShortBuffer (Ok tt) (offered_then (take limit b) (Ok tt)) (milder-fine (offered_then (take limit b) (Ok tt))))

-- ---- words of 24 bits
pub narrow-take : (k : ℕ) (b : List ℕ) → are_narrow b ≡ true → are_narrow (take k b) ≡ true
narrow-take zero b h = refl
narrow-take (suc k) [] h = refl
narrow-take (suc k) (w ∷ b) h =
    let p = (and-eq-true_iff (leb w 16777215) (are_narrow b)).0 h in
    (and-eq-true_iff (leb w 16777215) (are_narrow (take k b))).1 (p.0, narrow-take k b p.1)

pub narrow-drop : (k : ℕ) (b : List ℕ) → are_narrow b ≡ true → are_narrow (drop k b) ≡ true
narrow-drop zero b h = h
narrow-drop (suc k) [] h = refl
narrow-drop (suc k) (w ∷ b) h = narrow-drop k b ((and-eq-true_iff (leb w 16777215) (are_narrow b)).0 h).1

-- are judged as zeros are
pub judged-narrow : (s : Step) (b : List ℕ) (k : ℕ) → length b ≡ k → are_narrow b ≡ true → step_verdict s b ≡ step_verdict s (replicate k 0)
unfolding put_lent_verdict
judged-narrow (Command n a f w) b k e h = refl
judged-narrow (Front n a v) b k e h = refl
judged-narrow Z b k e h = refl
judged-narrow C b k e h = refl
judged-narrow (Inhibit v) b k e h = refl
judged-narrow LookAtMe b k e h = refl
judged-narrow (Scan n a f to limit) b k e h = ap (scan_verdict n a f to limit) (e ∙ sym (length-replicate {A = ℕ} k 0))
judged-narrow (Repeat n a f limit tries) b k e h = ap (repeat_verdict n a f limit tries) (e ∙ sym (length-replicate {A = ℕ} k 0))
judged-narrow (Stop n a f limit) b k e h = ap (stop_verdict n a f limit) (e ∙ sym (length-replicate {A = ℕ} k 0))
judged-narrow (Put n a to limit w) b k e h = refl
judged-narrow (Processor t) b k e h = ap (short_verdict t) (e ∙ sym (length-replicate {A = ℕ} k 0))
judged-narrow (Within n to lo hi) b k e h = ap (within_verdict n to lo hi) (e ∙ sym (length-replicate {A = ℕ} k 0))
judged-narrow (PutLent n a to limit) b k e h = rw (length-replicate {A = ℕ} k 0, e, zeros-narrow limit k, narrow-take limit b h)
