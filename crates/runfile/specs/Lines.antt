-- The lines of run and crate files (RULES 7.1 to 7.4, 7.7): the text of each step and of each module, and what a reading of a line claims. These are the
-- definitions to lay beside the paper; `Read` is an executable reader, which the claims here hold to them.
use Rattle.std.specs.Prelude.{ℕ, ◌<◌, ◌≡◌, List, [], Ok, Err}
use Rattle.text.specs.Text.{bytes, field_then}
use Rattle.kinds.specs.declared.Module.{Module}
use Rattle.step.specs.declared.Refusal.TheVariants.{Garbled}
use Rattle.step.specs.declared.Step.{Step}
use Rattle.step.specs.declared.Step.TheVariants.{Command, Front, Z, C, Inhibit, LookAtMe, Scan, Repeat, Stop, Put, PutLent, Processor, Within}
use Rattle.step.specs.Results.{ModuleLine, Reading}

-- the line of a step
unfoldable pub text : Step → List ℕ
text (Command n a f w) = field_then "op=naf n=" n (field_then " a=" a (field_then " f=" f (field_then " w=" w [])))
text (Front n a v) = field_then "op=front n=" n (field_then " a=" a (field_then " v=" v []))
text Z = bytes "op=z"
text C = bytes "op=c"
text (Inhibit v) = field_then "op=i v=" v []
text LookAtMe = bytes "op=lam"
text (Scan n a f to limit) =
    field_then "op=scan n=" n (field_then " a=" a (field_then " f=" f (field_then " to=" to (field_then " limit=" limit []))))
text (Repeat n a f limit tries) =
    field_then "op=repeat n=" n (field_then " a=" a (field_then " f=" f (field_then " limit=" limit (field_then " tries=" tries []))))
text (Stop n a f limit) = field_then "op=stop n=" n (field_then " a=" a (field_then " f=" f (field_then " limit=" limit [])))
text (Put n a to limit w) =
    field_then "op=put n=" n (field_then " a=" a (field_then " to=" to (field_then " limit=" limit (field_then " w=" w []))))
text (PutLent n a to limit) = []  -- it has no line: `FieldsFit` is false of it
text (Processor t) = []  -- nor has a transfer at the trigger processor's entry
text (Within n to lo hi) = field_then "op=within n=" n (field_then " to=" to (field_then " lo=" lo (field_then " hi=" hi [])))

-- the line of a module
unfoldable pub module_text : Module → List ℕ
module_text p = field_then "n=" p.n (field_then " kind=" p.kind (field_then " r=" p.r (field_then " wide=" p.wide [])))

-- a number of at most eight digits
abbrev pub Small : ℕ → Type 0
Small n = n < 100000000

-- each field of the step is such a number; a put of lent words has no line, nor has a transfer at the trigger processor's entry
abbrev pub FieldsFit : Step → Type 0
FieldsFit (Command n a f w) = Small n × Small a × Small f × Small w
FieldsFit (Front n a v) = Small n × Small a × Small v
FieldsFit Z = Unit {0}
FieldsFit C = Unit {0}
FieldsFit (Inhibit v) = Small v
FieldsFit LookAtMe = Unit {0}
FieldsFit (Scan n a f to limit) = Small n × Small a × Small f × Small to × Small limit
FieldsFit (Repeat n a f limit tries) = Small n × Small a × Small f × Small limit × Small tries
FieldsFit (Stop n a f limit) = Small n × Small a × Small f × Small limit
FieldsFit (Put n a to limit w) = Small n × Small a × Small to × Small limit × Small w
FieldsFit (PutLent n a to limit) = ⊥
FieldsFit (Processor t) = ⊥
FieldsFit (Within n to lo hi) = Small n × Small to × Small lo × Small hi

abbrev pub ModuleFits : Module → Type 0
ModuleFits p = Small p.n × Small p.kind × Small p.r × Small p.wide

-- the line l is in form, and says s. Such a line has 72 bytes at most (a Repeat; a put 66, a listing 56), so a line over 80 bytes is in no form.
abbrev pub IsText : List ℕ → Step → Type 0
IsText l s = (l ≡ text s) × FieldsFit s

-- such a line has 49 bytes at most
abbrev pub IsModuleText : List ℕ → Module → Type 0
IsModuleText l p = (l ≡ module_text p) × ModuleFits p

-- what a reading of l claims: it is the text of this step; or it is garbled, and the text of no step
abbrev pub Reads : List ℕ → Reading → Type 0
Reads l (Ok s) = IsText l s
Reads l (Err q) = (q ≡ Garbled) × ((s : Step) → IsText l s → ⊥)

-- the same of a crate line
abbrev pub ReadsModule : List ℕ → ModuleLine → Type 0
ReadsModule l (Ok p) = IsModuleText l p
ReadsModule l (Err q) = (q ≡ Garbled) × ((p : Module) → IsModuleText l p → ⊥)
