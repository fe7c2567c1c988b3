-- A run file as a list of steps in words, six words a step.
use Rattle.std.specs.Prelude.{ℕ, List, [], ◌∷◌, ◌++◌, Ok, Err}
use Rattle.runfile.specs.Read.{read_line}
use Rattle.lists.specs.Words.{step_words}
use Rattle.lines.specs.Lines.{lines_of}
use Rattle.step.specs.Results.{Reading}

-- the six words of a line: those of its step, and of a line that is no step six times 0
unfoldable pub line_words : Reading → List ℕ
line_words (Ok s) = step_words s
line_words (Err q) = 0 ∷ 0 ∷ 0 ∷ 0 ∷ 0 ∷ 0 ∷ []

-- the words of lines, one line after the other
unfoldable pub list_words : List (List ℕ) → List ℕ
list_words [] = []
list_words (l ∷ ls) = line_words (read_line l) ++ list_words ls

-- the words of a run file
unfoldable pub file_words : (file : List ℕ) → List ℕ
file_words file = list_words (lines_of file)
