-- The text of the table (RULES 2.35): a line for each of the 192 pairs of a kind and a function.
use Rattle.std.specs.Prelude.{ℕ, zero, suc, List, [], ◌++◌}
use Rattle.text.specs.Text.{bytes, field}
use Rattle.acceptance.specs.Classes.{class_number, class_of}

-- the line of a kind at function f
unfoldable pub line_of : (kind f : ℕ) → List ℕ
line_of kind f = field "kind=" kind ++ field " f=" f ++ field " class=" (class_number (class_of kind f)) ++ bytes "\n"

-- g 0, g 1, .., g (n - 1), one behind the other
unfoldable pub texts_below : ℕ → (ℕ → List ℕ) → List ℕ
texts_below zero g = []
texts_below (suc n) g = texts_below n g ++ g n

-- the lines of a kind, functions 0 to 31
unfoldable pub kind_text : (kind : ℕ) → List ℕ
kind_text kind = texts_below 32 (line_of kind)

-- the whole table, kinds 0 to 5
unfoldable pub table_text : List ℕ
table_text = texts_below 6 kind_text
