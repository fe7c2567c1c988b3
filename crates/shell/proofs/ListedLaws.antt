-- Parts of a run file, one after the other, are stored as its words.
-- Assumes nothing.
use Prim.Native.Nat.{ℕ, ◌-◌, ◌≤◌, ◌<◌}
use mathlib.Core.Path.{◌≡◌, refl, sym, ap, ◌∙◌}
use mathlib.Core.Bool.{false}
use mathlib.Core.List.{List, [], ◌++◌}
use lib.Dec.{ltb}
use lib.ListN.{length}
use lib.Seq.{take_all}
use Rattle.lines.specs.Lines.{cut, lines_of}
use Rattle.lines.specs.Cutting.{Cutting, fresh, feed, closed}
use Rattle.lines.proofs.CuttingLaws.{feed-append}
use Rattle.lines.proofs.Counting.{whole-more}
use Rattle.listfile.specs.Listing.{storing, state_of, Held}
use Rattle.listfile.specs.declared.ListReader.{ListReader}
use Rattle.listfile.proofs.Whole.{words-held, lines-held}
use Rattle.shell.specs.Handed.{Listed, Stored}

-- one part more, with no line past the last that is read
pub listed_more : {a b : Cutting (List ℕ)} (t : List ℕ) → Listed a → 0 < length t → ltb (99999 - a.number) (length (cut [] t)) ≡ false
    → b ≡ feed storing a t → Listed b
listed_more {a} t f some past e =
    record {
      read = f.read ++ t;
      whole = whole-more storing (λ w. refl) [] f.read t a f.whole f.same some past;
      same = e ∙ ap (λ (x : Cutting (List ℕ)). feed storing x t) f.same ∙ sym (feed-append storing (fresh []) f.read t);
    }

-- all lines of such a file are read
all_read : (file : List ℕ) → length (cut [] file) ≤ 99999 → lines_of file ≡ cut [] file
unfolding lines_of
all_read file h = take_all 99999 (cut [] file) h

-- the end of the file
pub stored-all : {b : Cutting (List ℕ)} → Listed b → (t : ListReader) (l x : List ℕ) → Held t l x → state_of t l x ≡ closed storing b → Stored t.number x
stored-all f t l x h g =
    let c : state_of t l x ≡ closed storing (feed storing (fresh []) f.read) = g ∙ ap (closed storing) f.same in
    record {
      file = f.read;
      few = h.within;
      lines = lines-held t l x f.read h c ∙ ap length (all_read f.read f.whole);
      same = words-held t l x f.read h c;
    }
