-- THE LAW OF THE LIST: a run file read byte by byte, in parts of any length, leaves exactly the words of its lines.
-- Assumes nothing.
use Prim.Native.Nat.{ℕ, ◌+◌, ◌*◌, ◌≤◌, ◌<◌}
use mathlib.Core.Path.{◌≡◌, sym, ap, ◌∙◌}
use mathlib.Core.List.{List, [], ◌∷◌, ◌++◌, append-nil, append_assoc}
use native.Mathlib.Omega.{arith}
use lib.ListN.{length, get_or, take}
use lib.Seq.{length-take-le}
use Rattle.lines.specs.Lines.{lines_of}
use Rattle.lines.specs.Cutting.{Cutting, fresh, feed, closed, after_lines, feed_parts, join}
use Rattle.lines.proofs.Whole.{file-law, feed-parts}
use Rattle.runfile.specs.Read.{read_line}
use Rattle.runfile.proofs.Cut.{cut_line}
use Rattle.lists.specs.Words.{reading_of, part}
use Rattle.listfile.specs.ListWords.{line_words, list_words, file_words}
use Rattle.listfile.specs.Listing.{storing, state_of, Held}
use Rattle.listfile.specs.declared.ListReader.{ListReader}
use Rattle.listfile.proofs.WordLaws.{list_count, list-step, part-front}
use Rattle.step.specs.Results.{Reading}

-- of a line the first 81 bytes say as much as the whole
short : (k : ℕ) (l w : List ℕ) → storing.line k (take 81 l) w ≡ storing.line k l w
short k l w = ap (λ (r : Reading). w ++ line_words r) (cut_line l)

-- lines, one after the other, add their words
add_words : (k : ℕ) (w : List ℕ) (ls : List (List ℕ)) → after_lines storing k w ls ≡ w ++ list_words ls
unfolding list_words
add_words k w [] = sym (append-nil w)
add_words k w (l ∷ ls) = add_words (k + 1) (w ++ line_words (read_line l)) ls ∙ append_assoc w (line_words (read_line l)) (list_words ls)

-- the words that reading a file leaves are those of its lines
pub list_law : (file : List ℕ) → (closed storing (feed storing (fresh []) file)).held ≡ file_words file
unfolding file_words
list_law file = file-law storing short [] file ∙ add_words 0 [] (lines_of file)

-- whatever the parts in which it is read
pub parts-law : (cs : List (List ℕ)) → (closed storing (feed_parts storing (fresh []) cs)).held ≡ file_words (join cs)
parts-law cs = ap (λ (x : Cutting (List ℕ)). (closed storing x).held) (feed-parts storing (fresh []) cs) ∙ list_law (join cs)

-- ---- what a reader holds that has read a file to its end
module _ (r : ListReader) (l w file : List ℕ) (held : Held r l w) (is : state_of r l w ≡ closed storing (feed storing (fresh []) file)) where
  -- the words of the file
  pub words-held : take (6 * r.number) w ≡ file_words file
  words-held = ap (λ (s : Cutting (List ℕ)). s.held) is ∙ list_law file

  room : 6 * r.number ≤ length w
  room = omega (arith, held.within, held.room)

  -- as many steps as the file has lines
  pub lines-held : r.number ≡ length (lines_of file)
  lines-held = omega (arith, length-take-le (6 * r.number) w room, ap length words-held, list_count file)

  -- step k of the lent words is line k + 1
  pub step-held : (k : ℕ) → k < r.number → reading_of (part 6 w k) ≡ read_line (get_or (lines_of file) k [])
  step-held k h =
      ap reading_of (sym (part-front w r.number k h room) ∙ ap (λ (z : List ℕ). part 6 z k) words-held)
      ∙ list-step file k (omega (arith, lines-held))
