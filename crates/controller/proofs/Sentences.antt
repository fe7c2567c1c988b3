-- Sentences about a step (RULES 5.6, 5.7, 6.12): every step leaves the crate fit, a refusal changes nothing, from a fit crate only fields and buffer decide whether a step is
-- refused; and the words of an answer tell the answer.
-- Assumes nothing.
use mathlib.Core.Path.{◌≡◌, refl, sym, ap, ◌∙◌}
use mathlib.Core.Bool.{Bool, true, false, false≢true, cond}
use mathlib.Core.List.{List}
use Prim.Native.Nat.{ℕ, ◌≤◌}
use native.Mathlib.Omega.{arith}
use lib.Dec.{eqb}
use lib.ListN.{length, get_or, drop, length-append, length-drop}
use Rattle.transfer.specs.Cycle.{Ended, buffer_after, reads}
use Rattle.transfer.proofs.Ends.{scan-words, repeat-words, stop-words}
use Rattle.dataway.specs.Crate.{is_fit_crate, FitCrate}
use Rattle.step.specs.Verdict.{verdict_of, step_verdict, is_fine}
use Rattle.step.proofs.Fine.{scan-fields, repeat-fields, stop-fields, within-fields}
use Rattle.windows.proofs.WithinLaws.{within-long}
use Rattle.step.proofs.Numbers.{row, row_number}
use Rattle.controller.specs.Steps.{Order, Performed, refused, short_of, act_of, judged_of, reading_done, done_of, step_of, leaves, gives}
use Rattle.controller.specs.Answers.{answer_words}
use Rattle.controller.proofs.StepLaws.{law, step-done}
use Rattle.step.specs.declared.Refusal.{Refusal}
use Rattle.step.specs.declared.Refusal.TheVariants.{UnfitCrate}
use Rattle.step.specs.declared.Step.{Step}
use Rattle.step.specs.declared.Step.TheVariants.{Command, Front, Z, C, Inhibit, LookAtMe, Scan, Repeat, Stop, Put, PutLent, Processor, Within}
use Rattle.step.specs.declared.Short.{Short}
use Rattle.step.specs.declared.Short.TheVariants.{ShortScan, ShortRepeat, ShortStop}
use Rattle.step.specs.Entries.{general_of, limit_of}
use Rattle.step.proofs.Entries.{short-fine}
use Rattle.controller.specs.declared.Answer.{Answer}
use Rattle.controller.specs.declared.Answer.TheVariants.{Replied, Taken, Done, Looked, Transferred, Wrote, Listed, Refused}
use Rattle.std.specs.Prelude.{Ok, Err}
use Rattle.step.specs.Results.{Reading, Verdict}

-- every step leaves the crate fit
pub step-fit : (m : List ℕ) (o : Order) → FitCrate m → FitCrate (leaves m o)
step-fit m o f = (law.local o).keeps m f

abbrev pub is_refused : Answer → Bool
is_refused (Replied p) = false
is_refused (Taken v) = false
is_refused Done = false
is_refused (Looked p) = false
is_refused (Transferred p) = false
is_refused (Wrote p) = false
is_refused (Listed count) = false
is_refused (Refused q) = true

-- a step that is done does not answer a refusal
act-answers : (m : List ℕ) (s : Step) (b : List ℕ) → is_refused (act_of m s b).out.answer ≡ false
act-answers m (Command n a f w) b = refl
act-answers m (Front n a v) b = refl
act-answers m Z b = refl
act-answers m C b = refl
act-answers m (Inhibit v) b = refl
act-answers m LookAtMe b = refl
act-answers m (Scan n a f to limit) b = refl
act-answers m (Repeat n a f limit tries) b = refl
act-answers m (Stop n a f limit) b = refl
act-answers m (Put n a to limit w) b = refl
act-answers m (PutLent n a to limit) b = refl
act-answers m (Processor t) b = refl
act-answers m (Within n to lo hi) b = refl

judged-same : (v : Verdict) (m : List ℕ) (s : Step) (b : List ℕ) → is_refused (judged_of v m s b).out.answer ≡ true
    → ((judged_of v m s b).memory ≡ m) × ((judged_of v m s b).out.buffer ≡ b)
judged-same (Ok _) m s b e = absurd (false≢true (sym (act-answers m s b) ∙ e))
judged-same (Err q) m s b e = (refl, refl)

done-same : (m : List ℕ) (r : Reading) (b : List ℕ) → is_refused (reading_done m r b).out.answer ≡ true
    → ((reading_done m r b).memory ≡ m) × ((reading_done m r b).out.buffer ≡ b)
done-same m (Ok s) b e = judged-same (step_verdict s b) m s b e
done-same m (Err q) b e = (refl, refl)

judged-by : (v : Verdict) (m m' : List ℕ) (s : Step) (b : List ℕ) → is_refused (judged_of v m s b).out.answer ≡ true
    → (judged_of v m' s b).out ≡ (judged_of v m s b).out
judged-by (Ok _) m m' s b e = absurd (false≢true (sym (act-answers m s b) ∙ e))
judged-by (Err q) m m' s b e = refl

done-by : (m m' : List ℕ) (r : Reading) (b : List ℕ) → is_refused (reading_done m r b).out.answer ≡ true
    → (reading_done m' r b).out ≡ (reading_done m r b).out
done-by m m' (Ok s) b e = judged-by (step_verdict s b) m m' s b e
done-by m m' (Err q) b e = refl

-- a reading whose verdict is a refusal is refused so
pub refused-reading : (m : List ℕ) (r : Reading) (b : List ℕ) (q : Refusal) → verdict_of r b ≡ Err q → reading_done m r b ≡ refused q m b
refused-reading m (Ok s) b q e = ap (λ (v : Verdict). judged_of v m s b) e
refused-reading m (Err p) b q e = let h : p ≡ q = cc in ap (λ (x : Refusal). refused x m b) h

-- a refusal changes nothing, in the crate or in the buffer
pub refused-same : (m : List ℕ) (o : Order) (q : Refusal) → (gives m o).answer ≡ Refused q → (leaves m o ≡ m) × ((gives m o).buffer ≡ o.buffer)
unfolding step_of done_of
refused-same m o q e = go (is_fit_crate m) (ap is_refused e)
  where
    go : (t : Bool) → is_refused (cond t (reading_done m o.reading o.buffer) (refused UnfitCrate m o.buffer)).out.answer ≡ true
        → ((cond t (reading_done m o.reading o.buffer) (refused UnfitCrate m o.buffer)).memory ≡ m)
        × ((cond t (reading_done m o.reading o.buffer) (refused UnfitCrate m o.buffer)).out.buffer ≡ o.buffer)
    go true h = done-same m o.reading o.buffer h
    go false h = (refl, refl)

-- from a fit crate only a step's fields and its buffer decide whether it is refused, and with which number
pub refused-by : (m m' : List ℕ) (o : Order) (q : Refusal) → FitCrate m → FitCrate m' → (gives m o).answer ≡ Refused q → gives m' o ≡ gives m o
unfolding done_of
refused-by m m' o q f f' e =
    ap (λ (p : Performed). p.out) (step-done m' o f')
    ∙ done-by m m' o.reading o.buffer
    (ap (λ (p : Performed). is_refused p.out.answer) (sym (step-done m o f)) ∙ ap is_refused e)
    ∙ sym (ap (λ (p : Performed). p.out) (step-done m o f))

-- ---- a buffer is as long afterwards as it was: a transfer stores at most `limit` words, and so many were lent
ended-long : (e : Ended) (b : List ℕ) (limit : ℕ) → length e.words ≤ limit → limit ≤ length b → length (buffer_after e b) ≡ length b
ended-long e b limit h l = length-append e.words (drop (length e.words) b) ∙ omega (arith, length-drop (length e.words) b)

-- of the three transfers, which stand at two entries
pub general-words : (m : List ℕ) (t : Short) (b : List ℕ) → is_fine (step_verdict (general_of t) b) ≡ true
    → (length (short_of m t).words ≤ limit_of t) × (limit_of t ≤ length b)
general-words m (ShortScan n a f to limit) b e =
    let h = scan-fields n a f to limit (length b) e in
    (scan-words (reads f) to limit m n a h.2, h.8)
general-words m (ShortRepeat n a f limit tries) b e = (repeat-words (reads f) n a limit tries m, (repeat-fields n a f limit tries (length b) e).8)
general-words m (ShortStop n a f limit) b e = (stop-words (reads f) n a limit m, (stop-fields n a f limit (length b) e).6)

general-long : (m : List ℕ) (t : Short) (b : List ℕ) → is_fine (step_verdict (general_of t) b) ≡ true → length (buffer_after (short_of m t) b) ≡ length b
general-long m t b e = let h = general-words m t b e in ended-long (short_of m t) b (limit_of t) h.0 h.1

act-long : (m : List ℕ) (s : Step) (b : List ℕ) → is_fine (step_verdict s b) ≡ true → length (act_of m s b).out.buffer ≡ length b
act-long m (Command n a f w) b e = refl
act-long m (Front n a v) b e = refl
act-long m Z b e = refl
act-long m C b e = refl
act-long m (Inhibit v) b e = refl
act-long m LookAtMe b e = refl
act-long m (Scan n a f to limit) b e = general-long m (ShortScan n a f to limit) b e
act-long m (Repeat n a f limit tries) b e = general-long m (ShortRepeat n a f limit tries) b e
act-long m (Stop n a f limit) b e = general-long m (ShortStop n a f limit) b e
act-long m (Processor t) b e = general-long m t b (short-fine t b e)
act-long m (Put n a to limit w) b e = refl
act-long m (PutLent n a to limit) b e = refl
act-long m (Within n to lo hi) b e = let h = within-fields n to lo hi (length b) e in within-long m n to lo hi b h.6

judged-long : (v : Verdict) (m : List ℕ) (s : Step) (b : List ℕ) → step_verdict s b ≡ v → length (judged_of v m s b).out.buffer ≡ length b
judged-long (Ok _) m s b e = act-long m s b (ap is_fine e)
judged-long (Err q) m s b e = refl

done-long : (m : List ℕ) (r : Reading) (b : List ℕ) → length (reading_done m r b).out.buffer ≡ length b
done-long m (Ok s) b = judged-long (step_verdict s b) m s b refl
done-long m (Err q) b = refl

pub step-long : (m : List ℕ) (o : Order) → length (gives m o).buffer ≡ length o.buffer
unfolding step_of done_of
step-long m o = go (is_fit_crate m)
  where
    go : (t : Bool) → length (cond t (reading_done m o.reading o.buffer) (refused UnfitCrate m o.buffer)).out.buffer ≡ length o.buffer
    go true = done-long m o.reading o.buffer
    go false = refl

-- the four words of an answer tell the answer
abbrev answer_from : List ℕ → Answer
answer_from ws =
    cond (eqb (get_or ws 0 0) 0) (Refused (row (get_or ws 1 0)))
    (cond (eqb (get_or ws 0 0) 1) (Replied (record { x = get_or ws 1 0; q = get_or ws 2 0; r = get_or ws 3 0 }))
    (cond (eqb (get_or ws 0 0) 2) (Taken (get_or ws 1 0))
    (cond (eqb (get_or ws 0 0) 3) Done
    (cond (eqb (get_or ws 0 0) 4) (Looked (record { l = get_or ws 1 0; count = get_or ws 2 0; first = get_or ws 3 0 }))
    (cond (eqb (get_or ws 0 0) 5) (Transferred (record { end = get_or ws 1 0; words = get_or ws 2 0; cycles = get_or ws 3 0 }))
    (cond (eqb (get_or ws 0 0) 6) (Wrote (record { end = get_or ws 1 0; words = get_or ws 2 0; cycles = get_or ws 3 0 }))
    (Listed (get_or ws 1 0))))))))

answer_back : (a : Answer) → answer_from (answer_words a) ≡ a
answer_back (Refused q) = ap Refused (row_number q)
answer_back (Replied p) = refl
answer_back (Taken v) = refl
answer_back Done = refl
answer_back (Looked p) = refl
answer_back (Transferred p) = refl
answer_back (Wrote p) = refl
answer_back (Listed count) = refl

pub words-answer : (a b : Answer) → answer_words a ≡ answer_words b → a ≡ b
words-answer a b e = sym (answer_back a) ∙ ap answer_from e ∙ answer_back b
