-- What is sent back (RULES 6.1 to 6.11, 6.23): the number of each row of the table of refusals.
use Rattle.std.specs.Prelude.{Ok, Err, ℕ}
use Rattle.step.specs.declared.Refusal.{Refusal}
use Rattle.step.specs.declared.Refusal.TheVariants.{Garbled, NoSuchStation, NoSuchSubaddress, NoSuchFunction, OverwideWord, CrossedRange, BadLength}
use Rattle.step.specs.declared.Refusal.TheVariants.{ShortBuffer, UnfitCrate, BadModule, OutOfOrder, CoveredStation, LongTransfer, CrossedWindow}
use Rattle.step.specs.Results.{Verdict}

-- the paper's number of a refusal
abbrev pub refusal_number : Refusal → ℕ
refusal_number Garbled = 1
refusal_number NoSuchStation = 2
refusal_number NoSuchSubaddress = 3
refusal_number NoSuchFunction = 4
refusal_number OverwideWord = 5
refusal_number CrossedRange = 6
refusal_number BadLength = 7
refusal_number ShortBuffer = 8
refusal_number UnfitCrate = 9
refusal_number BadModule = 10
refusal_number OutOfOrder = 11
refusal_number CoveredStation = 12
refusal_number LongTransfer = 13
refusal_number CrossedWindow = 14

-- how many refusals there are: their numbers are 1 to `refusals`
abbrev pub refusals : ℕ
refusals = 14

-- the number of a verdict: 0 where nothing is sent back
abbrev pub verdict_number : Verdict → ℕ
verdict_number (Ok _) = 0
verdict_number (Err q) = refusal_number q
