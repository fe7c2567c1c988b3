-- A call for a sheet of windows: its two ways, 9 or as on a fit crate, and what users rely on. A call that answers a count was done, on a fit crate and with nothing
-- wrong; then its flag words are those of the definition, whose bits are the tests of L9's listing (`flag-bit`), and these find what F0 finds (`inside_found`).
-- Assumes nothing.
use Prim.Native.Nat.{ℕ, ◌+◌, ◌-◌, ◌*◌, ◌/◌, ◌%◌, ◌≤◌, ◌<◌}
use mathlib.Core.Path.{◌≡◌, refl, sym, ap, ◌∙◌}
use mathlib.Core.Bool.{Bool, true, false, false≢true, cond}
use mathlib.Core.List.{List, ◌++◌}
use mathlib.Core.Logic.{⊎_elim}
use native.Mathlib.Omega.{arith}
use borrow.Author.Tests.{eqb-true, eq-eqb, ltb-true, ltb-false, le-leb}
use lib.Dec.{ltb}
use lib.ListN.{length, get_or, drop, length-append, length-drop, get_or-append}
use lib.Seq.{drop_at}
use Rattle.word24.specs.Word.{bit_of}
use Rattle.kinds.proofs.TestLaws.{decided}
use Rattle.dataway.specs.Crate.{is_fit_crate, FitCrate}
use Rattle.dataway.proofs.CrateLaws.{crate-facts, facts-crate}
use Rattle.step.specs.Verdict.{places_of, window_then, room_then, within_verdict}
use Rattle.step.proofs.Numbers.{number-injective}
use Rattle.step.specs.declared.Refusal.TheVariants.{UnfitCrate}
use Rattle.step.specs.declared.Step.TheVariants.{Within}
use Rattle.windows.specs.Within.{is_inside}
use Rattle.windows.specs.Found.{Found}
use Rattle.windows.specs.Flags.{windows_in, low_of, high_of, flag_of, flags_of, read_of}
use Rattle.windows.specs.Sheets.{FlaggedSheet, unflagged, flagged, sheet_verdict, judged_sheet, sheet_of, GoodSheet}
use Rattle.windows.proofs.FoundLaws.{inside_found}
use Rattle.windows.proofs.FlagLaws.{flag-bit, flag-clear, flags-at, reads_all}
use Rattle.windows.proofs.SheetLaws.{windows-bad, windows-past, sheet-fine, sheet-windows, good-fine, flags_long, each-window, refused-flagged}
use Rattle.controller.specs.Answers.{answer_words}
use Rattle.controller.specs.Steps.{Performed, listed, judged_of, done_of}
use Rattle.controller.specs.Listings.{listing}
use Rattle.controller.specs.declared.Answer.{Answer}
use Rattle.controller.specs.declared.Answer.TheVariants.{Listed, Refused}
use Rattle.controller.proofs.StepLaws.{step-done}
use Rattle.controller.proofs.Sentences.{is_refused}
use Rattle.controller.proofs.ListingLaws.{listing-done}
use Rattle.rehearsal.specs.Windows.{sheet_call, SheetDone, SheetFlags, SheetListings, SheetReads, FirstBad}
use Rattle.std.specs.Prelude.{Ok, Err}
use Rattle.step.specs.Results.{Verdict}

-- ---- the two ways
module _ (m : List ℕ) (n to : ℕ) (sheet flags : List ℕ) where
  pub sheet-unfit : is_fit_crate m ≡ false → sheet_call m n to sheet flags ≡ unflagged UnfitCrate flags
  unfolding sheet_call
  sheet-unfit t = rw t

  pub sheet-fits : (o : FlaggedSheet) → is_fit_crate m ≡ true → sheet_of m n to sheet flags ≡ o → sheet_call m n to sheet flags ≡ o
  unfolding sheet_call
  sheet-fits o t e = rw t e

  -- ---- where it is done
  pub sheet-good : FitCrate m → GoodSheet n to sheet (length flags) → sheet_call m n to sheet flags ≡ flagged m n to sheet flags
  unfolding sheet_of
  sheet-good f g =
      sheet-fits (flagged m n to sheet flags) (facts-crate m f)
      (ap (λ (v : Verdict). judged_sheet v m n to sheet flags) (good-fine n to sheet (length flags) g))

  module _ (count : ℕ) (h : (sheet_call m n to sheet flags).answer ≡ Ok count) where
    fit-good : FitCrate m × GoodSheet n to sheet (length flags)
    unfolding sheet_call sheet_of
    fit-good = go (is_fit_crate m) (sheet_verdict n to sheet (length flags)) refl refl h
      where
        go : (t : Bool) (v : Verdict) → is_fit_crate m ≡ t → sheet_verdict n to sheet (length flags) ≡ v
            → (cond t (judged_sheet v m n to sheet flags) (unflagged UnfitCrate flags)).answer ≡ Ok count → FitCrate m × GoodSheet n to sheet (length flags)
        go true (Ok _) f e a = (crate-facts m f, sheet-fine n to sheet (length flags) e)
        go true (Err q) f e a = refused-flagged q count a
        go false v f e a = refused-flagged UnfitCrate count a

    did : sheet_call m n to sheet flags ≡ flagged m n to sheet flags
    did = sheet-good fit-good.0 fit-good.1

    left : (sheet_call m n to sheet flags).flags ≡ flags_of sheet m n to ++ drop (places_of n to) flags
    left = ap (λ (o : FlaggedSheet). o.flags) did

    -- ---- the bits
    word_at : (k a : ℕ) → n ≤ k → k ≤ to → a ≤ 15 → get_or (sheet_call m n to sheet flags).flags (16 * (k - n) + a) 0 ≡ flag_of sheet m (16 * k + a)
    word_at k a u v l =
        ap (λ (ws : List ℕ). get_or ws (16 * (k - n) + a) 0) left
        ∙ get_or-append (flags_of sheet m n to) (drop (places_of n to) flags) 0 (16 * (k - n) + a) (omega (arith, flags_long m n to sheet flags))
        ∙ flags-at sheet m n to k a u v l

    found-flagged : (k a i : ℕ) → n ≤ k → k ≤ to → a ≤ 15 → i < windows_in sheet → Found m (low_of sheet i) (high_of sheet i) k a
        → bit_of i (get_or (sheet_call m n to sheet flags).flags (16 * (k - n) + a) 0) ≡ 1
    found-flagged k a i u v l w f =
        rw (word_at k a u v l)
        (eqb-true (bit_of i (flag_of sheet m (16 * k + a))) 1 (flag-bit sheet m i (16 * k + a) w ∙ inside_found.each m (low_of sheet i) (high_of sheet i) k a l f))

    flagged-found : (k a i : ℕ) → n ≤ k → k ≤ to → a ≤ 15 → bit_of i (get_or (sheet_call m n to sheet flags).flags (16 * (k - n) + a) 0) ≡ 1
        → (i < windows_in sheet) × Found m (low_of sheet i) (high_of sheet i) k a
    flagged-found k a i u v l e = ⊎_elim is-window (λ t. absurd (no-window t)) (decided (ltb i (windows_in sheet)))
      where
        p : ℕ
        p = 16 * k + a

        set : bit_of i (flag_of sheet m p) ≡ 1
        set = ap (bit_of i) (sym (word_at k a u v l)) ∙ e

        station : p / 16 ≡ k
        station = omega arith

        subaddress : p % 16 ≡ a
        subaddress = omega arith

        no-window : ltb i (windows_in sheet) ≡ false → ⊥
        no-window t = omega (arith, set, flag-clear sheet m i p (ltb-false i (windows_in sheet) t))

        is-window : ltb i (windows_in sheet) ≡ true → (i < windows_in sheet) × Found m (low_of sheet i) (high_of sheet i) k a
        is-window t =
            let w = ltb-true i (windows_in sheet) t in
            let inside : is_inside m (low_of sheet i) (high_of sheet i) p ≡ true = sym (flag-bit sheet m i p w) ∙ eq-eqb (bit_of i (flag_of sheet m p)) 1 set in
            (w, rw (station, subaddress) at (inside_found.only m (low_of sheet i) (high_of sheet i) p inside))

    rest-kept : drop (16 * (to - n + 1)) (sheet_call m n to sheet flags).flags ≡ drop (16 * (to - n + 1)) flags
    rest-kept =
        let k : 16 * (to - n + 1) ≡ places_of n to = omega (arith, fit-good.1.stations.1) in
        rw k (ap (drop (places_of n to)) left ∙ drop_at (flags_of sheet m n to) (drop (places_of n to) flags) (places_of n to) (flags_long m n to sheet flags))

    as_long : length (sheet_call m n to sheet flags).flags ≡ length flags
    as_long =
        ap length left
        ∙ omega (
          arith,
          length-append (flags_of sheet m n to) (drop (places_of n to) flags),
          flags_long m n to sheet flags,
          length-drop (places_of n to) flags,
          fit-good.1.stations.1,
          fit-good.1.room,
        )

    counted : read_of m n to ≡ count
    counted = let e = ap (λ (o : FlaggedSheet). o.answer) (sym did) ∙ h in cc

-- ---- WHAT USERS RELY ON
pub sheet-done : SheetDone
sheet-done = record { done = sheet-good; only = fit-good }

pub sheet-flags : SheetFlags
sheet-flags m n to sheet flags count h = record {
  each = found-flagged m n to sheet flags count h;
  only = flagged-found m n to sheet flags count h;
  rest = rest-kept m n to sheet flags count h;
  long = as_long m n to sheet flags count h;
}

pub sheet-listings : SheetListings
sheet-listings m n to sheet flags count h i w b r =
    let g = fit-good m n to sheet flags count h in
    let s = g.1.stations in
    let good = g.1.windows i w in
    listing-done.done m n to (low_of sheet i) (high_of sheet i) b g.0 (s.0, s.1, s.2, good.0, good.1, r)
    ∙ ap (λ (ps : List ℕ). listed ps m b) (sym (each-window m n to sheet flags _ (left m n to sheet flags count h) i w))

pub sheet-reads : SheetReads
sheet-reads m n to sheet flags count h b r =
    let g = fit-good m n to sheet flags count h in
    let s = g.1.stations in
    ap (λ (p : Performed). p.out.answer) (listing-done.done m n to 0 16777215 b g.0 (s.0, s.1, s.2, omega arith, omega arith, r))
    ∙ ap Listed (sym (reads_all m g.0 n to s.0 s.1 s.2) ∙ counted m n to sheet flags count h)

-- a listing whose stations and buffer are good is judged by its window
listing-window : (n to lo hi lent : ℕ) → (1 ≤ n) × (n ≤ to) × (to ≤ 23) → 16 * (to - n + 1) ≤ lent → within_verdict n to lo hi lent ≡ window_then lo hi (Ok tt)
unfolding within_verdict
listing-window n to lo hi lent (a, b, c) r =
    rw (le-leb 1 n a, le-leb n 23 (omega arith), le-leb n to b, le-leb to 23 c, le-leb (16 * (to + 1 - n)) lent (omega arith))

pub first-bad : FirstBad
unfolding done_of sheet_of
first-bad m n to sheet flags f s e w i h g b r q a =
    let lo = low_of sheet i in
    let hi = high_of sheet i in
    let verdict : within_verdict n to lo hi (length b) ≡ Err q = judged (within_verdict n to lo hi (length b)) refl
    (ap (λ (p : Performed). p.out.answer) (sym (step-done m (listing n to lo hi b) f)) ∙ a) in
    let room : Verdict = room_then n to (length flags) (Ok tt) in
    sheet-fits m n to sheet flags (unflagged q flags) (facts-crate m f)
    (ap (λ (v : Verdict). judged_sheet v m n to sheet flags)
    (sheet-windows n to sheet (length flags) s e w
    ∙ windows-bad sheet room i h (windows-past sheet room i (omega arith) g) q (sym (listing-window n to lo hi (length b) s r) ∙ verdict)))
  where
    judged : (v : Verdict) → within_verdict n to (low_of sheet i) (high_of sheet i) (length b) ≡ v
        → (judged_of v m (Within n to (low_of sheet i) (high_of sheet i)) b).out.answer ≡ Refused q → within_verdict n to (low_of sheet i) (high_of sheet i) (length b) ≡ Err q
    judged (Ok _) t x = absurd (false≢true (ap is_refused x))
    judged (Err p) t x = t ∙ ap Err (number-injective p q (ap (λ (y : Answer). get_or (answer_words y) 1 0) x))
