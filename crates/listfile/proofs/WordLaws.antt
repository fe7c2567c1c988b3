-- The words of a line read back as the line, and place k of a list's words is line k + 1.
-- Assumes nothing.
use Prim.Native.Nat.{ℕ, zero, suc, ◌+◌, ◌*◌, ◌≤◌, ◌<◌}
use mathlib.Core.Path.{◌≡◌, refl, sym, ap, ◌∙◌}
use mathlib.Core.List.{List, [], ◌∷◌, ◌++◌}
use native.Mathlib.Omega.{arith}
use lib.ListN.{length, get_or, take, drop, length-append, length-drop, take-append-drop}
use lib.Seq.{take_at, drop-append-add, take-append-le, drop-append-le, length-take-le}
use Rattle.step.specs.declared.Refusal.{Refusal}
use Rattle.step.specs.declared.Refusal.TheVariants.{Garbled}
use Rattle.runfile.specs.Read.{read_line}
use Rattle.runfile.proofs.RunLines.{reads_of}
use Rattle.lists.specs.Words.{kinds_of, reading_of, part}
use Rattle.lists.proofs.StepLaws.{words-six, step_back}
use Rattle.lines.specs.Lines.{lines_of}
use Rattle.listfile.specs.ListWords.{line_words, list_words, file_words}
use Rattle.std.specs.Prelude.{Ok, Err}
use Rattle.step.specs.Results.{Reading}

-- ---- one line
-- has six words
pub line-long : (r : Reading) → length (line_words r) ≡ 6
unfolding line_words
line-long (Ok s) = words-six s
line-long (Err q) = refl

-- six zeros are garbled
pub garbled-back : (q : Refusal) → reading_of (line_words (Err q)) ≡ Err Garbled
unfolding reading_of kinds_of line_words
garbled-back q = refl

-- a line is refused as garbled only
pub line-garbled : (l : List ℕ) (q : Refusal) → read_line l ≡ Err q → q ≡ Garbled
line-garbled l q e = (reads_of l (Err q) (sym e)).0

-- so the words of a line are read back as the line
pub line-back : (l : List ℕ) → reading_of (line_words (read_line l)) ≡ read_line l
unfolding line_words
line-back l = go (read_line l) refl
  where
    go : (r : Reading) → read_line l ≡ r → reading_of (line_words r) ≡ r
    go (Ok s) e = step_back s
    go (Err q) e = garbled-back q ∙ ap Err (sym (line-garbled l q e))

-- ---- one step after the other
words_count : (ls : List (List ℕ)) → length (list_words ls) ≡ 6 * length ls
unfolding list_words
words_count [] = refl
words_count (l ∷ ls) = length-append (line_words (read_line l)) (list_words ls) ∙ omega (arith, line-long (read_line l), words_count ls)

words-place : (ls : List (List ℕ)) (k : ℕ) → k < length ls → part 6 (list_words ls) k ≡ line_words (read_line (get_or ls k []))
unfolding list_words
words-place [] k h = absurd (omega arith)
words-place (l ∷ ls) zero h = take_at (line_words (read_line l)) (list_words ls) 6 (line-long (read_line l))
words-place (l ∷ ls) (suc k) h =
    let w = line_words (read_line l) in
    let far : 6 * suc k ≡ length w + 6 * k = omega (arith, line-long (read_line l)) in
    ap (λ (i : ℕ). take 6 (drop i (w ++ list_words ls))) far
    ∙ ap (take 6) (drop-append-add w (list_words ls) (6 * k))
    ∙ words-place ls k (omega arith)

-- a run file has six words a line
pub list_count : (file : List ℕ) → length (file_words file) ≡ 6 * length (lines_of file)
unfolding file_words
list_count file = words_count (lines_of file)

-- and place k of them, read as a step, is line k + 1
pub list-step : (file : List ℕ) (k : ℕ) → k < length (lines_of file) → reading_of (part 6 (file_words file) k) ≡ read_line (get_or (lines_of file) k [])
unfolding file_words
list-step file k h = ap reading_of (words-place (lines_of file) k h) ∙ line-back (get_or (lines_of file) k [])

-- a list's first n places are those of its first n steps
pub part-front : (w : List ℕ) (n k : ℕ) → k < n → 6 * n ≤ length w → part 6 (take (6 * n) w) k ≡ part 6 w k
part-front w n k h fits =
    let front = take (6 * n) w in
    let long : length front ≡ 6 * n = length-take-le (6 * n) w fits in
    let rest = drop (6 * n) w in
    let six : 6 ≤ length (drop (6 * k) front) = omega (arith, length-drop (6 * k) front) in
    sym (take-append-le 6 (drop (6 * k) front) rest six)
    ∙ ap (take 6) (sym (drop-append-le (6 * k) front rest (omega arith)))
    ∙ ap (λ (z : List ℕ). part 6 z k) (take-append-drop (6 * n) w)
