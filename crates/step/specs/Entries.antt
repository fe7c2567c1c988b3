-- The trigger processor's entry beside the general one: the step of the general entry with the same fields, its limit, and the verdict on
-- the fields before it.
use Rattle.std.specs.Prelude.{Ok, ℕ}
use Rattle.step.specs.declared.Step.{Step}
use Rattle.step.specs.declared.Step.TheVariants.{Scan, Repeat, Stop}
use Rattle.step.specs.declared.Short.{Short}
use Rattle.step.specs.declared.Short.TheVariants.{ShortScan, ShortRepeat, ShortStop}
use Rattle.step.specs.Verdict.{station_then, subaddress_then, transfer_then, range_then}
use Rattle.step.specs.Results.{Verdict}

-- the step of the general entry with the same fields
abbrev pub general_of : Short → Step
general_of (ShortScan n a f to limit) = Scan n a f to limit
general_of (ShortRepeat n a f limit tries) = Repeat n a f limit tries
general_of (ShortStop n a f limit) = Stop n a f limit

-- its limit
abbrev pub limit_of : Short → ℕ
limit_of (ShortScan n a f to limit) = limit
limit_of (ShortRepeat n a f limit tries) = limit
limit_of (ShortStop n a f limit) = limit

-- the verdict on the fields before limit
abbrev pub head_of : Short → Verdict
head_of (ShortScan n a f to limit) = station_then n (subaddress_then a (transfer_then f (range_then n to (Ok tt))))
head_of (ShortRepeat n a f limit tries) = station_then n (subaddress_then a (transfer_then f (Ok tt)))
head_of (ShortStop n a f limit) = station_then n (subaddress_then a (transfer_then f (Ok tt)))
