-- The code's answers as the definitions have them.
use Rattle.std.specs.Prelude.{ℕ, List, Option, Some, None, Result, ok_or}
use Rattle.std.specs.Borrow.{Bor}
use Rattle.runfile.specs.Read.{Taken, taken, absent, Heads, heads, headless}
use Rattle.runfile.specs.declared.fields.Head.{Head}
use Rattle.step.specs.declared.Refusal.{Refusal}
use Rattle.step.specs.declared.Refusal.TheVariants.{Garbled}

-- a part with the bytes behind it, if it is there
abbrev pub as_taken : Option (ℕ × Bor (List ℕ)) → Taken
as_taken (Some p) = taken p.0 p.1.now
as_taken None = absent

abbrev pub as_heads : Option Head → Heads
as_heads (Some h) = heads h.n h.a h.f h.rest.now
as_heads None = headless

-- a line with no step or module is garbled
abbrev pub reading : {A : Type 0} → Option A → Result A Refusal
reading o = ok_or o Garbled
