-- The call for a sheet of windows (RULES 4.27 to 4.29, 6.30, 6.31): its refusals in their order, and what it leaves.
use Rattle.std.specs.Prelude.{ℕ, Result, ◌+◌, ◌-◌, ◌*◌, ◌/◌, ◌%◌, ◌≤◌, ◌<◌, ◌≡◌, Bool, ◌&&◌, List, [], ◌∷◌, ◌++◌, leb, eqb, length, take, drop, Ok, Err}
use Rattle.step.specs.Verdict.{unless, station_then, range_then, window_then, places_of, room_then}
use Rattle.step.specs.declared.Refusal.{Refusal}
use Rattle.step.specs.declared.Refusal.TheVariants.{BadLength}
use Rattle.windows.specs.Within.{within_of}
use Rattle.windows.specs.Flags.{flags_of, read_of, windows_in, low_of, high_of, flagged_by}
use Rattle.step.specs.Results.{Verdict}

-- what the call answers: how many registers were read, or why none was
abbrev pub Flagging : Type 0
Flagging = Result ℕ Refusal

-- ---- what is sent back
-- so many words are a sheet: two for each of at most 64 windows
abbrev pub is_sheet : ℕ → Bool
is_sheet words = leb (words / 2) 64 && eqb (words % 2) 0

-- 7, bad length: a sheet of more than 64 windows, or of an odd number of words
abbrev pub sheet_then : ℕ → Verdict → Verdict
sheet_then words next = unless (is_sheet words) BadLength next

-- window by window, each as in a listing: the first bad one decides. (A last single word never comes: 7 is judged before.)
unfoldable pub windows_then : List ℕ → Verdict → Verdict
windows_then [] next = next
windows_then (lo ∷ []) next = next
windows_then (lo ∷ (hi ∷ rest)) next = window_then lo hi (windows_then rest next)

-- the stations, the sheet, its windows, the flag words lent: 2, 6, 7, then window by window 5, 5, 14, then 8
unfoldable pub sheet_verdict : (n to : ℕ) (sheet : List ℕ) (lent : ℕ) → Verdict
sheet_verdict n to sheet lent = station_then n (range_then n to (sheet_then (length sheet) (windows_then sheet (room_then n to lent (Ok tt)))))

-- ---- the call
-- all that it comes to: its answer, and the lent flag words after it
pub record FlaggedSheet : Type 0 where
  pub answer : Flagging
  pub flags : List ℕ

-- a refusal changes nothing
abbrev pub unflagged : Refusal → List ℕ → FlaggedSheet
unflagged q flags = record { answer = Err q; flags = flags }

-- what it does where it is not refused: the count of registers read, and the flag words; words past these keep their contents
abbrev pub flagged : (m : List ℕ) (n to : ℕ) (sheet flags : List ℕ) → FlaggedSheet
flagged m n to sheet flags = record { answer = Ok (read_of m n to); flags = flags_of sheet m n to ++ drop (places_of n to) flags }

-- the call with its verdict
abbrev pub judged_sheet : Verdict → (m : List ℕ) (n to : ℕ) (sheet flags : List ℕ) → FlaggedSheet
judged_sheet (Ok _) m n to sheet flags = flagged m n to sheet flags
judged_sheet (Err q) m n to sheet flags = unflagged q flags

-- the call on a fit crate
unfoldable pub sheet_of : (m : List ℕ) (n to : ℕ) (sheet flags : List ℕ) → FlaggedSheet
sheet_of m n to sheet flags = judged_sheet (sheet_verdict n to sheet (length flags)) m n to sheet flags

-- ---- what it is, to lay beside the request
-- FOR EVERY WINDOW THE FLAGGED REGISTERS ARE EXACTLY THOSE OF ITS LISTING (`each-window`)
abbrev pub EachWindow : (m : List ℕ) (n to : ℕ) (sheet flags : List ℕ) → Type 0
EachWindow m n to sheet flags = (i : ℕ) → i < windows_in sheet
    → flagged_by i (16 * n) (take (places_of n to) flags) ≡ within_of m n to (low_of sheet i) (high_of sheet i)

-- window i is good: hi has 24 bits, and lo is not above it
abbrev pub GoodWindow : List ℕ → ℕ → Type 0
GoodWindow sheet i = (low_of sheet i ≤ high_of sheet i) × (high_of sheet i ≤ 16777215)

-- nothing is wrong with a call: its stations, its sheet, each of its windows, and the flag words lent
pub record GoodSheet (n to : ℕ) (sheet : List ℕ) (lent : ℕ) : Type 0 where
  pub stations : (1 ≤ n) × (n ≤ to) × (to ≤ 23)
  pub even : length sheet % 2 ≡ 0
  pub few : windows_in sheet ≤ 64
  pub windows : (i : ℕ) → i < windows_in sheet → GoodWindow sheet i
  pub room : 16 * (to - n + 1) ≤ lent
