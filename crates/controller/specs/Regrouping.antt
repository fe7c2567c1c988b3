-- Demand 3 (RULES 5.9 to 5.12), of two whole lists.
use Rattle.std.specs.Prelude.{ℕ, List, [], Err}
use Rattle.regroup.specs.Lists.{Rearranged, Alike}
use Rattle.dataway.specs.Crate.{FitCrate}
use Rattle.step.specs.declared.Refusal.TheVariants.{Garbled}
use Rattle.controller.specs.Steps.{Order, order, leaves, gives, touches}

-- (what stands past a list's end, and is never looked at)
abbrev pub beyond : Order
beyond = order (Err Garbled) []

-- From every fit crate m, for every list xs of steps, each with its own buffer, and every ys that has each of them exactly once, with the same fields and
-- buffer contents handed in, and keeps the order of any two that touch a station in common: the two lists leave the same 768 words, and step k of ys gives
-- the whole answer, or the refusal number, and the buffer that the step at its place p_k of xs gave.
abbrev pub Regrouping : Type 0
Regrouping = (m : List ℕ) → FitCrate m → (xs ys : List Order) (p : List ℕ) → Rearranged touches beyond xs ys p → Alike leaves gives m xs ys p
