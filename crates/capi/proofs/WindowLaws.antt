-- The call of the C library for a sheet of windows: what the open call answers, told as a number and as a count.
-- Assumes nothing.
use Prim.Native.Nat.{ℕ}
use mathlib.Core.Path.{◌≡◌, refl, sym, ap, ◌∙◌}
use mathlib.Core.Bool.{Bool, true, false, cond}
use mathlib.Core.List.{List}
use native.Mathlib.Omega.{arith}
use lib.ListN.{length}
use Rattle.dataway.specs.Crate.{is_fit_crate}
use Rattle.step.specs.declared.Refusal.TheVariants.{UnfitCrate}
use Rattle.step.proofs.Numbers.{numbered}
use Rattle.windows.specs.Sheets.{FlaggedSheet, unflagged, sheet_verdict, judged_sheet, sheet_of}
use Rattle.rehearsal.specs.Windows.{sheet_call}
use Rattle.capi.specs.Windows.{flagging_number, flagging_count, WindowsCalled, flagged_call, windows_call}
use Rattle.std.specs.Prelude.{Ok, Err}
use Rattle.step.specs.Results.{Verdict}
use Rattle.windows.specs.Sheets.{Flagging}

module _ (m : List ℕ) (n to : ℕ) (sheet flags : List ℕ) (before : ℕ) where
  pub windows-told : (f : Flagging) (number count : ℕ) (after : List ℕ)
      → sheet_call m n to sheet flags ≡ record { answer = f; flags = after } → number ≡ flagging_number f → count ≡ flagging_count f before
      → windows_call m n to sheet flags before ≡ record { number = number; flags = after; count = count }
  unfolding windows_call
  windows-told f number count after e g h =
      ap (λ (o : FlaggedSheet). flagged_call o before) e ∙ (λ i. record { number = sym g i; flags = after; count = sym h i })

  -- where the number is not 0 the flag words and the word for the count are as they were
  pub windows-same : ((windows_call m n to sheet flags before).number ≡ 0 → ⊥)
      → ((windows_call m n to sheet flags before).flags ≡ flags) × ((windows_call m n to sheet flags before).count ≡ before)
  unfolding windows_call sheet_call sheet_of
  windows-same h = go (is_fit_crate m) (sheet_verdict n to sheet (length flags)) h
    where
      call : Bool → Verdict → WindowsCalled
      call t v = flagged_call (cond t (judged_sheet v m n to sheet flags) (unflagged UnfitCrate flags)) before

      go : (t : Bool) (v : Verdict) → ((call t v).number ≡ 0 → ⊥) → ((call t v).flags ≡ flags) × ((call t v).count ≡ before)
      go true (Ok _) h = absurd (h refl)
      go true (Err q) h = (refl, refl)
      go false v h = (refl, refl)

  -- where it is 0 the call is answered, with the count that the word then holds: so what `rehearsal/specs/Windows` says of such a call holds
  pub windows-zero : (windows_call m n to sheet flags before).number ≡ 0
      → (sheet_call m n to sheet flags).answer ≡ Ok (windows_call m n to sheet flags before).count
  unfolding windows_call
  windows-zero e = go (sheet_call m n to sheet flags).answer e
    where
      go : (f : Flagging) → flagging_number f ≡ 0 → f ≡ Ok (flagging_count f before)
      go (Ok k) e = refl
      go (Err q) e = absurd (omega (arith, (numbered q).low, e))
