-- The trigger processor's entry beside the general one (RULES 4.23, 6.26): said of a step as it is run, from any memory and with any buffer.
use Rattle.std.specs.Prelude.{ℕ, ◌≤◌, ◌<◌, ◌≡◌, false, ◌⊎◌, List, drop, Ok, Err}
use Rattle.dataway.specs.Crate.{is_fit_crate, FitCrate}
use Rattle.transfer.specs.declared.Transfer.{Transfer}
use Rattle.step.specs.Entries.{general_of, limit_of, head_of}
use Rattle.step.specs.declared.Refusal.{Refusal}
use Rattle.step.specs.declared.Refusal.TheVariants.{LongTransfer}
use Rattle.step.specs.declared.Short.{Short}
use Rattle.step.specs.declared.Step.TheVariants.{Processor}
use Rattle.controller.specs.declared.Answer.TheVariants.{Transferred}
use Rattle.controller.specs.Steps.{Order, order, refused, step_of, gives}

-- the transfer t at the trigger processor's entry, lent the buffer b
abbrev pub at_processor : Short → List ℕ → Order
at_processor t b = order (Ok (Processor t)) b

-- the same at the general entry
abbrev pub at_general : Short → List ℕ → Order
at_general t b = order (Ok (general_of t)) b

-- LIMITS UP TO 32: the general entry's answer, memory and buffer; 0 is refused at both
abbrev pub ShortGeneral : Type 0
ShortGeneral = (m : List ℕ) (t : Short) (b : List ℕ) → limit_of t ≤ 32 → step_of m (at_processor t b) ≡ step_of m (at_general t b)

-- LIMITS ABOVE 512: refused as at the general entry
abbrev pub ShortAbove : Type 0
ShortAbove = (m : List ℕ) (t : Short) (b : List ℕ) → 512 < limit_of t → step_of m (at_processor t b) ≡ step_of m (at_general t b)

-- A FIELD BEFORE LIMIT: refused as at the general entry, whatever limit is
abbrev pub ShortHead : Type 0
ShortHead = (m : List ℕ) (t : Short) (b : List ℕ) (q : Refusal) → head_of t ≡ Err q → step_of m (at_processor t b) ≡ step_of m (at_general t b)

-- LIMITS FROM 33 TO 512: 13, in the place where 7 is checked; nothing changes
abbrev pub ShortLong : Type 0
ShortLong = (m : List ℕ) (t : Short) (b : List ℕ) → FitCrate m → 32 < limit_of t → limit_of t ≤ 512 → head_of t ≡ Ok tt
    → step_of m (at_processor t b) ≡ refused LongTransfer m b

-- A CRATE THAT IS NOT FIT: refused as at the general entry, whatever the fields are
abbrev pub ShortUnfit : Type 0
ShortUnfit = (m : List ℕ) (t : Short) (b : List ℕ) → is_fit_crate m ≡ false → step_of m (at_processor t b) ≡ step_of m (at_general t b)

-- NO CASE IS LEFT OUT: it is the general entry's answer, memory and buffer, or 13 with all that 13 asks for
abbrev pub GeneralOrLong : List ℕ → Short → List ℕ → Type 0
GeneralOrLong m t b =
    (step_of m (at_processor t b) ≡ step_of m (at_general t b))
    ⊎ (FitCrate m × (head_of t ≡ Ok tt) × (32 < limit_of t) × (limit_of t ≤ 512) × (step_of m (at_processor t b) ≡ refused LongTransfer m b))

abbrev pub ShortEither : Type 0
ShortEither = (m : List ℕ) (t : Short) (b : List ℕ) → GeneralOrLong m t b

-- THE PROCESSOR HOLDS 32 WORDS: no transfer at its entry stores more, or changes the buffer behind them
abbrev pub ShortHolds : Type 0
ShortHolds = (m : List ℕ) (t : Short) (b : List ℕ)
    → ((p : Transfer) → (gives m (at_processor t b)).answer ≡ Transferred p → p.words ≤ 32) × (drop 32 (gives m (at_processor t b)).buffer ≡ drop 32 b)
