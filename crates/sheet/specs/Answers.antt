-- What is printed of one step, and of a crate line that is refused (RULES 7.12 to 7.20).
use Rattle.std.specs.Prelude.{ℕ, List, [], ◌∷◌, ◌++◌, take}
use Rattle.text.specs.Text.{bytes, field}
use Rattle.step.specs.Refusals.{refusal_number}
use Rattle.step.specs.declared.Refusal.{Refusal}
use Rattle.controller.specs.Steps.{Out}
use Rattle.controller.specs.declared.Answer.{Answer}
use Rattle.controller.specs.declared.Answer.TheVariants.{Replied, Taken, Done, Looked, Transferred, Wrote, Listed, Refused}

-- the fields of an answer
unfoldable pub body : Answer → List ℕ
body (Replied p) = field " x=" p.x ++ field " q=" p.q ++ field " r=" p.r
body (Taken v) = field " taken=" v
body Done = bytes " done=1"
body (Looked p) = field " l=" p.l ++ field " count=" p.count ++ field " first=" p.first
body (Transferred p) = field " end=" p.end ++ field " words=" p.words ++ field " cycles=" p.cycles
body (Wrote p) = field " end=" p.end ++ field " words=" p.words ++ field " cycles=" p.cycles
body (Listed count) = field " words=" count
body (Refused q) = field " refused=" (refusal_number q)

-- the line of step k
unfoldable pub step_line : ℕ → Answer → List ℕ
step_line k a = field "step=" k ++ body a ++ bytes "\n"

-- the words that a scan, a Repeat, a Stop or a listing stored, the first of its buffer; other steps store none, a put neither
abbrev pub stored : Answer → List ℕ → List ℕ
stored (Replied p) buffer = []
stored (Taken v) buffer = []
stored Done buffer = []
stored (Looked p) buffer = []
stored (Transferred p) buffer = take p.words buffer
stored (Wrote p) buffer = []
stored (Listed count) buffer = take count buffer
stored (Refused q) buffer = []

-- the line of one stored word
unfoldable pub word_line : ℕ → List ℕ
word_line w = field "word=" w ++ bytes "\n"

-- a word line for each
abbrev pub word_lines : List ℕ → List ℕ
word_lines [] = []
word_lines (w ∷ ws) = word_line w ++ word_lines ws

-- what step k prints: its line, then a word line for each stored word
unfoldable pub step_text : ℕ → Out → List ℕ
step_text k o = step_line k o.answer ++ word_lines (stored o.answer o.buffer)

-- what line k of crate.txt prints, where it is refused
unfoldable pub crate_text : ℕ → Refusal → List ℕ
crate_text k q = field "crate=" k ++ field " refused=" (refusal_number q) ++ bytes "\n"
