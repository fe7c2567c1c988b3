-- `take_text` meets its contract. The loop's invariant: reader, line and words are those of the first i bytes.
use Rattle.lines.specs.Cutting.{feed}
use Rattle.listfile.specs.Listing.{storing, state_of}
use lib.ListN.{length, take}
use mathlib.Core.Path.{◌≡◌}
use Prim.Native.Nat.{◌-◌, ◌≤◌}
use Rattle.listfile.proofs.take_text.Given as goal

abbrev pub invariant-loop-i : goal.invariant-loop-i
invariant-loop-i l = record {
  reached : l.i ≤ length l.text;
  line_len : length l.line ≡ 81;
  words_len : length l.words ≡ 599994;
  filled : l.r.fill ≤ 81;
  within : l.r.number ≤ 99999;
  fed : state_of l.r l.line l.words ≡ feed storing (state_of l.initial.r l.initial.line l.initial.words) (take l.i l.text);
}

abbrev pub decreases-loop-i : goal.decreases-loop-i
decreases-loop-i l = length l.text - l.i
