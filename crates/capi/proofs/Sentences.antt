-- Of every call of the C library: where the number that it returns is not 0, the memory and the buffers are as they were.
-- Assumes nothing.
use Prim.Native.Nat.{ℕ}
use mathlib.Core.Path.{◌≡◌, refl}
use mathlib.Core.Bool.{Bool, true, false, cond, ◌&&◌}
use mathlib.Core.List.{List}
use lib.Dec.{leb}
use lib.ListN.{length}
use Rattle.dataway.specs.Crate.{is_fit_crate}
use Rattle.step.specs.declared.Refusal.TheVariants.{ShortBuffer, UnfitCrate}
use Rattle.kinds.specs.declared.Module.{Module}
use Rattle.runfile.specs.Read.{read_line, read_module}
use Rattle.controller.specs.Steps.{Order, order, step_of}
use Rattle.controller.specs.declared.Answer.{Answer}
use Rattle.controller.specs.declared.Answer.TheVariants.{Replied, Taken, Done, Looked, Transferred, Wrote, Listed, Refused}
use Rattle.controller.proofs.Sentences.{refused-same}
use Rattle.lists.specs.Words.{reading_of}
use Rattle.lists.specs.Runs.{ran_of, unrun, is_enough, list_of}
use Rattle.controller.specs.Placing.{place_verdict, uninstalled, judged_module_of, place_of}
use Rattle.rehearsal.specs.Modules.{install_of}
use Rattle.capi.specs.Calls.{answer_number, if_lent, step_call, line_call, crate_call, list_call}
use Rattle.step.specs.Refusals.{verdict_number}
use Rattle.std.specs.Prelude.{Ok, Err}
use Rattle.step.specs.Results.{ModuleLine, Verdict}

-- a step that is not told as 0 is refused
told_same : (m : List ℕ) (o : Order) (a : Answer) → (step_of m o).out.answer ≡ a → (answer_number a ≡ 0 → ⊥)
    → ((step_of m o).memory ≡ m) × ((step_of m o).out.buffer ≡ o.buffer)
told_same m o (Refused q) e h = refused-same m o q e
told_same m o (Replied p) e h = absurd (h refl)
told_same m o (Taken v) e h = absurd (h refl)
told_same m o Done e h = absurd (h refl)
told_same m o (Looked p) e h = absurd (h refl)
told_same m o (Transferred p) e h = absurd (h refl)
told_same m o (Wrote p) e h = absurd (h refl)
told_same m o (Listed count) e h = absurd (h refl)

-- a step or a line, with enough words lent or not
lent_same : (m : List ℕ) (o : Order) (t : Bool) → (answer_number (if_lent t m o).out.answer ≡ 0 → ⊥)
    → ((if_lent t m o).memory ≡ m) × ((if_lent t m o).out.buffer ≡ o.buffer)
lent_same m o true h = told_same m o (step_of m o).out.answer refl h
lent_same m o false h = (refl, refl)

pub step_same : (m ws out b : List ℕ) → ((step_call m ws out b).number ≡ 0 → ⊥) → ((step_call m ws out b).memory ≡ m) × ((step_call m ws out b).buffer ≡ b)
unfolding step_call
step_same m ws out b h = lent_same m (order (reading_of ws) b) (leb 6 (length ws) && leb 4 (length out)) h

pub line_same : (m l out b : List ℕ) → ((line_call m l out b).number ≡ 0 → ⊥) → ((line_call m l out b).memory ≡ m) × ((line_call m l out b).buffer ≡ b)
unfolding line_call
line_same m l out b h = lent_same m (order (read_line l) b) (leb 4 (length out)) h

pub crate-same : (m : List ℕ) (previous : ℕ) (l : List ℕ) → ((crate_call m previous l).number ≡ 0 → ⊥) → (crate_call m previous l).memory ≡ m
unfolding crate_call install_of place_of
crate-same m previous l h = go (is_fit_crate m) (read_module l) h
  where
    judged : (v : Verdict) (p : Module) → (verdict_number (judged_module_of v p m).verdict ≡ 0 → ⊥) → (judged_module_of v p m).memory ≡ m
    judged (Ok _) p h = absurd (h refl)
    judged (Err q) p h = refl

    go : (t : Bool) (x : ModuleLine) → (verdict_number (cond t (place_of m previous x) (uninstalled UnfitCrate m)).verdict ≡ 0 → ⊥)
        → (cond t (place_of m previous x) (uninstalled UnfitCrate m)).memory ≡ m
    go true (Ok p) h = judged (place_verdict m previous p) p h
    go true (Err q) h = refl
    go false x h = refl

pub list_same : (m : List ℕ) (count : ℕ) (ws ans bs : List ℕ) → ((list_call m count ws ans bs).number ≡ 0 → ⊥)
    → ((list_call m count ws ans bs).memory ≡ m) × (((list_call m count ws ans bs).answers ≡ ans) × ((list_call m count ws ans bs).buffers ≡ bs))
unfolding list_call list_of ran_of
list_same m count ws ans bs h = go (is_fit_crate m) (is_enough count ws ans bs) h
  where
    go : (t u : Bool) → (verdict_number (cond t (cond u (ran_of m count ws ans bs) (unrun ShortBuffer m ans bs)) (unrun UnfitCrate m ans bs)).verdict ≡ 0 → ⊥)
        → ((cond t (cond u (ran_of m count ws ans bs) (unrun ShortBuffer m ans bs)) (unrun UnfitCrate m ans bs)).memory ≡ m)
        × (((cond t (cond u (ran_of m count ws ans bs) (unrun ShortBuffer m ans bs)) (unrun UnfitCrate m ans bs)).answers ≡ ans)
        × ((cond t (cond u (ran_of m count ws ans bs) (unrun ShortBuffer m ans bs)) (unrun UnfitCrate m ans bs)).buffers ≡ bs))
    go true true h = absurd (h refl)
    go true false h = (refl, (refl, refl))
    go false u h = (refl, (refl, refl))
