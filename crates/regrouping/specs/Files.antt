-- What the program prints of two run files, and what it says of their refused lines.
use Rattle.std.specs.Prelude.{◌≡◌, Bool, true, false, cond, ◌||◌, ◌⊎◌, List, [], ◌++◌, ℕ, ◌≤◌, ltb, eqb, length}
use Rattle.text.specs.Text.{bytes, field}
use Rattle.lines.specs.Lines.{cut}
use Rattle.listfile.specs.ListWords.{file_words}
use Rattle.verdict.specs.Counted.{count, refused_in}
use Rattle.report.specs.Report.{Report, PutReport}

-- a list is heard unless it has steps and all of them are refused
abbrev pub heard : List ℕ → Bool
heard ws = eqb (count ws) 0 || ltb (refused_in ws) (count ws)

-- what is told of two lists: the report, put at the start of a buffer, or nothing where one of them is not heard
abbrev pub PutAnswer : (us ws before after : List ℕ) (next : ℕ) → Type 0
PutAnswer us ws before after next =
    (((heard us ≡ false) ⊎ (heard ws ≡ false)) × (next ≡ 0)) ⊎ ((heard us ≡ true) × (heard ws ≡ true) × PutReport us ws before after next)

-- the text is the report of the two files that were read, both of which are heard, and none of whose lines is past the last that is read. Which bytes a read gives is
-- the system's: what is said is that there are such bytes
pub record FilesReport (text : List ℕ) : Type 0 where
  pub first_file : List ℕ
  pub first_whole : length (cut [] first_file) ≤ 99999
  pub first_heard : heard (file_words first_file) ≡ true
  pub second_file : List ℕ
  pub second_whole : length (cut [] second_file) ≤ 99999
  pub second_heard : heard (file_words second_file) ≡ true
  pub report : Report (file_words first_file) (file_words second_file) text

-- what is printed: the report, or nothing at all
abbrev pub Answered : List ℕ → Type 0
Answered text = (text ≡ []) ⊎ FilesReport text

-- what is said of a file's lines that are refused, after its name: where they are all of its lines, there is no verdict
unfoldable pub refused_text : (many all : ℕ) → List ℕ
refused_text many all =
    field ": " many ++ field " of " all
    ++ cond (eqb many all) (bytes " lines are refused; no verdict\n") (bytes " lines are refused; refused lines are compared by their number\n")
