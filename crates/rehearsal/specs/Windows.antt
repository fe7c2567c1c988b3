-- A sheet of windows on any memory (RULES 4.27 to 4.29, 6.30, 6.31), and what users rely on.
use Rattle.std.specs.Prelude.{ℕ, ◌+◌, ◌-◌, ◌*◌, ◌%◌, ◌≤◌, ◌<◌, ◌≡◌, cond, List, length, get_or, take, drop, Ok}
use Rattle.word24.specs.Word.{bit_of}
use Rattle.dataway.specs.Crate.{is_fit_crate, FitCrate}
use Rattle.step.specs.Verdict.{places_of}
use Rattle.step.specs.declared.Refusal.{Refusal}
use Rattle.step.specs.declared.Refusal.TheVariants.{UnfitCrate}
use Rattle.windows.specs.Found.{Found}
use Rattle.windows.specs.Flags.{windows_in, low_of, high_of, flagged_by}
use Rattle.windows.specs.Sheets.{FlaggedSheet, unflagged, flagged, sheet_of, GoodWindow, GoodSheet}
use Rattle.controller.specs.Steps.{listed, step_of, gives}
use Rattle.controller.specs.Listings.{listing}
use Rattle.controller.specs.declared.Answer.TheVariants.{Listed, Refused}

-- first 9, then as on a fit crate; a refusal changes nothing
unfoldable pub sheet_call : (m : List ℕ) (n to : ℕ) (sheet flags : List ℕ) → FlaggedSheet
sheet_call m n to sheet flags = cond (is_fit_crate m) (sheet_of m n to sheet flags) (unflagged UnfitCrate flags)

-- ---- what users rely on, said of a call as it is made: from any memory, with any sheet and any words lent
-- IT IS DONE EXACTLY WHERE the crate is fit and nothing is wrong with the call
pub record SheetDone : Type 0 where
  pub done : (m : List ℕ) (n to : ℕ) (sheet flags : List ℕ) → FitCrate m → GoodSheet n to sheet (length flags)
      → sheet_call m n to sheet flags ≡ flagged m n to sheet flags
  pub only : (m : List ℕ) (n to : ℕ) (sheet flags : List ℕ) (count : ℕ) → (sheet_call m n to sheet flags).answer ≡ Ok count
      → FitCrate m × GoodSheet n to sheet (length flags)

-- the flag words after a call, where they were `before`
pub record Flags (m : List ℕ) (n to : ℕ) (sheet before after : List ℕ) : Type 0 where
  -- bit i of the word of station K and subaddress A is 1 where F0 there reads a word of window i, with Q = 1, at kinds 1, 3 and 5
  pub each : (k a i : ℕ) → n ≤ k → k ≤ to → a ≤ 15 → i < windows_in sheet → Found m (low_of sheet i) (high_of sheet i) k a
      → bit_of i (get_or after (16 * (k - n) + a) 0) ≡ 1
  -- and no other bit of these words is
  pub only : (k a i : ℕ) → n ≤ k → k ≤ to → a ≤ 15 → bit_of i (get_or after (16 * (k - n) + a) 0) ≡ 1
      → (i < windows_in sheet) × Found m (low_of sheet i) (high_of sheet i) k a
  -- the words past them are as they were, and no word is added or lost
  pub rest : drop (16 * (to - n + 1)) after ≡ drop (16 * (to - n + 1)) before
  pub long : length after ≡ length before

-- EVERY CALL THAT IS NOT REFUSED flags so
abbrev pub SheetFlags : Type 0
SheetFlags = (m : List ℕ) (n to : ℕ) (sheet flags : List ℕ) (count : ℕ) → (sheet_call m n to sheet flags).answer ≡ Ok count
    → Flags m n to sheet flags (sheet_call m n to sheet flags).flags

-- A SHEET FINDS WHAT ITS LISTINGS FIND: on the same crate a listing with window i, lent 16 words a station, is done, and lists the registers that window i flags
abbrev pub SheetListings : Type 0
SheetListings = (m : List ℕ) (n to : ℕ) (sheet flags : List ℕ) (count : ℕ) → (sheet_call m n to sheet flags).answer ≡ Ok count
    → (i : ℕ) → i < windows_in sheet → (b : List ℕ) → 16 * (to - n + 1) ≤ length b
    → step_of m (listing n to (low_of sheet i) (high_of sheet i) b)
    ≡ listed (flagged_by i (16 * n) (take (places_of n to) (sheet_call m n to sheet flags).flags)) m b

-- EACH REGISTER IS READ ONCE, WHATEVER THE WINDOWS ARE: a listing of all values lists as many as were read
abbrev pub SheetReads : Type 0
SheetReads = (m : List ℕ) (n to : ℕ) (sheet flags : List ℕ) (count : ℕ) → (sheet_call m n to sheet flags).answer ≡ Ok count
    → (b : List ℕ) → 16 * (to - n + 1) ≤ length b → (gives m (listing n to 0 16777215 b)).answer ≡ Listed count

-- THE FIRST BAD WINDOW DECIDES: with good stations and a sheet of good length, where the windows before window i are good and a listing with window i is
-- refused, the call is refused alike, however many flag words are lent
abbrev pub FirstBad : Type 0
FirstBad = (m : List ℕ) (n to : ℕ) (sheet flags : List ℕ) → FitCrate m → (1 ≤ n) × (n ≤ to) × (to ≤ 23) → length sheet % 2 ≡ 0 → windows_in sheet ≤ 64
    → (i : ℕ) → i < windows_in sheet → ((j : ℕ) → j < i → GoodWindow sheet j)
    → (b : List ℕ) → 16 * (to - n + 1) ≤ length b → (q : Refusal) → (gives m (listing n to (low_of sheet i) (high_of sheet i) b)).answer ≡ Refused q
    → sheet_call m n to sheet flags ≡ unflagged q flags
