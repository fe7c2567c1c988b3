-- The call of the C library for a sheet of windows: the number that it returns, and all that it leaves of the words that it is lent.
use Rattle.std.specs.Prelude.{ℕ, List, Ok, Err}
use Rattle.step.specs.Refusals.{refusal_number}
use Rattle.windows.specs.Sheets.{FlaggedSheet}
use Rattle.rehearsal.specs.Windows.{sheet_call}
use Rattle.windows.specs.Sheets.{Flagging}

-- the number that a call with this answer returns: 0, or that of the refusal
abbrev pub flagging_number : Flagging → ℕ
flagging_number (Ok count) = 0
flagging_number (Err q) = refusal_number q

-- the word lent for the count, which held this before: a refusal leaves it
abbrev pub flagging_count : Flagging → ℕ → ℕ
flagging_count (Ok count) before = count
flagging_count (Err q) before = before

-- what the call returns and leaves
pub record WindowsCalled : Type 0 where
  pub number : ℕ
  pub flags : List ℕ
  pub count : ℕ

-- what the open call came to, told so
abbrev pub flagged_call : FlaggedSheet → ℕ → WindowsCalled
flagged_call o before = record { number = flagging_number o.answer; flags = o.flags; count = flagging_count o.answer before }

-- a sheet of windows over stations N to `to`, where the word for the count held `count`
unfoldable pub windows_call : (m : List ℕ) (n to : ℕ) (sheet flags : List ℕ) (count : ℕ) → WindowsCalled
windows_call m n to sheet flags count = flagged_call (sheet_call m n to sheet flags) count
