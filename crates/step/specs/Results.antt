-- What a reading and a judging come to: what was read, or that nothing is wrong; else what is sent back.
use Rattle.std.specs.Prelude.{⊤, Result}
use Rattle.kinds.specs.declared.Module.{Module}
use Rattle.step.specs.declared.Refusal.{Refusal}
use Rattle.step.specs.declared.Step.{Step}

-- the reading of a run line, or of a step lent as words
abbrev pub Reading : Type 0
Reading = Result Step Refusal

-- the reading of a crate line
abbrev pub ModuleLine : Type 0
ModuleLine = Result Module Refusal

-- whether a step or a module may be had
abbrev pub Verdict : Type 0
Verdict = Result ⊤ Refusal
