-- From the words of two files to what is told of the two files, and what a step of such words is.
-- Assumes nothing.
use Prim.Native.Nat.{ℕ, ◌*◌, ◌<◌}
use mathlib.Core.Path.{◌≡◌, refl, sym, ap, subst}
use mathlib.Core.Bool.{true}
use mathlib.Core.Logic.{inl, inr}
use mathlib.Core.List.{List, []}
use native.Mathlib.Omega.{arith}
use lib.ListN.{length, get_or, take}
use Rattle.runfile.specs.Read.{read_line}
use Rattle.lines.specs.Lines.{lines_of}
use Rattle.text.proofs.Paste.{put_first}
use Rattle.listfile.specs.ListWords.{file_words}
use Rattle.listfile.proofs.WordLaws.{list_count, list-step}
use Rattle.shell.specs.Handed.{Stored}
use Rattle.verdict.specs.Counted.{counted, count, step_at}
use Rattle.report.specs.Report.{Report}
use Rattle.regrouping.specs.Files.{heard, PutAnswer, Answered}

-- EACH LINE OF A RUN FILE IS A STEP OF ITS LIST, at the same place, and counts as itself or, where it is refused, as its refusal
pub file-count : (file : List ℕ) → count (file_words file) ≡ length (lines_of file)
file-count file = omega (arith, list_count file)

pub file-step : (file : List ℕ) (k : ℕ) → k < length (lines_of file) → step_at (file_words file) k ≡ counted (read_line (get_or (lines_of file) k []))
file-step file k h = ap counted (list-step file k h)

-- ---- what is told of two lists is told of their files

pub answered : {m n next : ℕ} {us ws o p : List ℕ} → Stored m us → Stored n ws → PutAnswer (take (6 * m) us) (take (6 * n) ws) o p next
    → Answered (take next p)
answered f g (inl (unheard, none)) = inl (rw none refl)
answered {m} {n} {next} {us} {ws} {o} {p} f g (inr (first, second, r)) =
    inr (record {
      first_file = f.file;
      first_whole = omega (arith, f.lines, f.few);
      first_heard = subst (λ (u : List ℕ). heard u ≡ true) f.same first;
      second_file = g.file;
      second_whole = omega (arith, g.lines, g.few);
      second_heard = subst (λ (w : List ℕ). heard w ≡ true) g.same second;
      report = subst (λ (t : List ℕ). Report (file_words f.file) (file_words g.file) t) (sym (put_first r.put))
          (subst (λ (u : List ℕ). Report u (file_words g.file) r.text) f.same
          (subst (λ (w : List ℕ). Report (take (6 * m) us) w r.text) g.same r.report));
    })
