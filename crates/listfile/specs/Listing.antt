-- A run file read byte by byte, as the code does it: each line's words are stored as it ends. Nobody has to believe this file: `List-law` of
-- proofs/Whole says that a file read so leaves exactly `file_words`.
use Rattle.std.specs.Prelude.{ℕ, ◌*◌, ◌≤◌, ◌≡◌, true, List, ◌++◌, length, take}
use Rattle.lines.specs.Cutting.{Does, Cutting}
use Rattle.runfile.specs.Read.{read_line}
use Rattle.listfile.specs.ListWords.{line_words}
use Rattle.listfile.specs.declared.ListReader.{ListReader}

-- the words of the lines that were read are held, and those of a line are stored after them
abbrev pub storing : Does (List ℕ)
storing = record { more = λ w. true; line = λ k l w. w ++ line_words (read_line l) }

-- the state that a reader holds with its line buffer l and words w
abbrev pub state_of : ListReader → List ℕ → List ℕ → Cutting (List ℕ)
state_of r l w = record { part = take r.fill l; number = r.number; held = take (6 * r.number) w }

-- the line buffer has 81 bytes, there are words for 99,999 lines, and the counts lie within them
pub record Held (s : ListReader) (l w : List ℕ) : Type 0 where
  pub filled : s.fill ≤ 81
  pub lined : length l ≡ 81
  pub within : s.number ≤ 99999
  pub room : length w ≡ 599994
