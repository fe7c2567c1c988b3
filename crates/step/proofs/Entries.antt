-- The trigger processor's entry beside the general one: the verdicts of the two differ only where limit is 33 to 512.
-- Assumes nothing.
use mathlib.Core.Path.{◌≡◌, refl, sym, ap, ◌∙◌}
use mathlib.Core.Bool.{Bool, true, false, false≢true, ◌&&◌}
use mathlib.Core.List.{List}
use Prim.Native.Nat.{ℕ, ◌≤◌, ◌<◌}
use native.Mathlib.Omega.{arith}
use borrow.Author.Tests.{leb-true, le-leb, lt-leb}
use lib.Dec.{leb}
use lib.ListN.{length}
use Rattle.step.specs.declared.Refusal.{Refusal}
use Rattle.step.specs.declared.Refusal.TheVariants.{NoSuchStation, NoSuchSubaddress, NoSuchFunction, CrossedRange, BadLength, LongTransfer}
use Rattle.step.specs.declared.Short.{Short}
use Rattle.step.specs.declared.Short.TheVariants.{ShortScan, ShortRepeat, ShortStop}
use Rattle.step.specs.Verdict.{within, unless, is_fine, transfer, lent_then, tries_then, limit_then, long_then, scan_verdict, repeat_verdict, stop_verdict}
use Rattle.step.specs.Verdict.{short_scan_verdict, short_repeat_verdict, short_stop_verdict, short_verdict, step_verdict}
use Rattle.step.specs.Entries.{general_of, limit_of, head_of}
use Rattle.step.proofs.Fine.{unless-fine}
use Rattle.std.specs.Prelude.{Ok, Err}
use Rattle.step.specs.Results.{Verdict}

-- ---- both verdicts are rows before limit's, that row, at the processor's entry one more, and what is behind
data Rows : Type 0 where
  none : Rows
  row : Bool → Refusal → Rows → Rows

abbrev rows_then : Rows → Verdict → Verdict
rows_then none v = v
rows_then (row t q l) v = unless t q (rows_then l v)

-- the rows of N, A and F, and those behind them
abbrev addressed : ℕ → ℕ → ℕ → Rows → Rows
addressed n a f l = row (within 1 n 23) NoSuchStation (row (leb a 15) NoSuchSubaddress (row (transfer f) NoSuchFunction l))

abbrev before : Short → Rows
before (ShortScan n a f to limit) = addressed n a f (row (within n to 23) CrossedRange none)
before (ShortRepeat n a f limit tries) = addressed n a f none
before (ShortStop n a f limit) = addressed n a f none

abbrev behind : Short → ℕ → Verdict
behind (ShortScan n a f to limit) lent = lent_then limit lent (Ok tt)
behind (ShortRepeat n a f limit tries) lent = tries_then tries (lent_then limit lent (Ok tt))
behind (ShortStop n a f limit) lent = lent_then limit lent (Ok tt)

general-rows : (t : Short) (b : List ℕ) → step_verdict (general_of t) b ≡ rows_then (before t) (limit_then (limit_of t) (behind t (length b)))
unfolding scan_verdict repeat_verdict stop_verdict
general-rows (ShortScan n a f to limit) b = refl
general-rows (ShortRepeat n a f limit tries) b = refl
general-rows (ShortStop n a f limit) b = refl

short-rows : (t : Short) (lent : ℕ) → short_verdict t lent ≡ rows_then (before t) (limit_then (limit_of t) (long_then (limit_of t) (behind t lent)))
unfolding short_scan_verdict short_repeat_verdict short_stop_verdict
short-rows (ShortScan n a f to limit) lent = refl
short-rows (ShortRepeat n a f limit tries) lent = refl
short-rows (ShortStop n a f limit) lent = refl

head_rows : (t : Short) → head_of t ≡ rows_then (before t) (Ok tt)
head_rows (ShortScan n a f to limit) = refl
head_rows (ShortRepeat n a f limit tries) = refl
head_rows (ShortStop n a f limit) = refl

-- rows that are passed, rows that are not, and what is behind rows that are fine
passed : (l : Rows) (v : Verdict) → is_fine (rows_then l (Ok tt)) ≡ true → rows_then l v ≡ v
passed none v e = refl
passed (row true q l) v e = passed l v e
passed (row false q l) v e = absurd (false≢true e)

stopped : (l : Rows) (v : Verdict) (q : Refusal) → rows_then l (Ok tt) ≡ Err q → rows_then l v ≡ Err q
stopped none v q e = absurd (false≢true (sym (ap is_fine e)))
stopped (row true p l) v q e = stopped l v q e
stopped (row false p l) v q e = e

fine-behind : (l : Rows) (v : Verdict) → is_fine (rows_then l v) ≡ true → is_fine v ≡ true
fine-behind none v e = e
fine-behind (row true q l) v e = fine-behind l v e
fine-behind (row false q l) v e = absurd (false≢true e)

-- ---- limit's row and the one behind it
long-none : (limit : ℕ) (v : Verdict) → limit ≤ 32 → limit_then limit (long_then limit v) ≡ limit_then limit v
long-none limit v h = rw (le-leb limit 32 h)

long-above : (limit : ℕ) (v : Verdict) → 512 < limit → limit_then limit (long_then limit v) ≡ limit_then limit v
long-above limit v h = rw (go (leb 1 limit) (lt-leb limit 512 h))
  where
    go : (s : Bool) {t : Bool} → t ≡ false → (s && t) ≡ false
    go true e = e
    go false e = refl

long-between : (limit : ℕ) (v : Verdict) → 32 < limit → limit ≤ 512 → limit_then limit (long_then limit v) ≡ Err LongTransfer
long-between limit v lo hi = rw (le-leb 1 limit (omega (arith, lo)), le-leb limit 512 hi, lt-leb limit 32 lo)

-- ---- up to 32 the two entries judge alike, and so they do above 512
module _ (t : Short) (b : List ℕ) where
  from-limit : limit_then (limit_of t) (long_then (limit_of t) (behind t (length b))) ≡ limit_then (limit_of t) (behind t (length b))
      → short_verdict t (length b) ≡ step_verdict (general_of t) b
  from-limit e = short-rows t (length b) ∙ ap (rows_then (before t)) e ∙ sym (general-rows t b)

  pub judged-few : limit_of t ≤ 32 → short_verdict t (length b) ≡ step_verdict (general_of t) b
  judged-few h = from-limit (long-none (limit_of t) (behind t (length b)) h)

  pub judged-above : 512 < limit_of t → short_verdict t (length b) ≡ step_verdict (general_of t) b
  judged-above h = from-limit (long-above (limit_of t) (behind t (length b)) h)

  -- a field before limit that is refused is refused at both, with the same number
  pub judged-head : (q : Refusal) → head_of t ≡ Err q → (short_verdict t (length b) ≡ Err q) × (step_verdict (general_of t) b ≡ Err q)
  judged-head q e =
      let h = sym (head_rows t) ∙ e in
      (short-rows t (length b) ∙ stopped (before t) _ q h, general-rows t b ∙ stopped (before t) _ q h)

-- ---- between them 13, where no field before limit is refused
pub judged-long : (t : Short) (lent : ℕ) → is_fine (head_of t) ≡ true → 32 < limit_of t → limit_of t ≤ 512 → short_verdict t lent ≡ Err LongTransfer
judged-long t lent e lo hi =
    short-rows t lent
    ∙ passed (before t) _ (ap is_fine (sym (head_rows t)) ∙ e)
    ∙ long-between (limit_of t) (behind t lent) lo hi

-- ---- what is fine at the processor's entry has a limit of 32 at most, and so is fine at the general entry
pub short-few : (t : Short) (lent : ℕ) → is_fine (short_verdict t lent) ≡ true → limit_of t ≤ 32
short-few t lent e =
    let v = behind t lent in
    let p = fine-behind (before t) (limit_then (limit_of t) (long_then (limit_of t) v)) (ap is_fine (sym (short-rows t lent)) ∙ e) in
    let q = (unless-fine (within 1 (limit_of t) 512) BadLength (long_then (limit_of t) v) p).1 in
    leb-true (limit_of t) 32 (unless-fine (leb (limit_of t) 32) LongTransfer v q).0

pub short-fine : (t : Short) (b : List ℕ) → is_fine (short_verdict t (length b)) ≡ true → is_fine (step_verdict (general_of t) b) ≡ true
short-fine t b e = sym (ap is_fine (judged-few t b (short-few t (length b) e))) ∙ e
