-- `chunk_lines` meets its contract: each turn takes the bytes up to the next LF and the LF itself.
use Rattle.lines.specs.Cutting.{feed}
use Rattle.reader.specs.Reading.{rehearsing, state_of}
use lib.ListN.{length, take}
use Rattle.dataway.specs.Crate.{FitCrate}
use mathlib.Core.Path.{◌≡◌}
use Prim.Native.Nat.{◌-◌, ◌≤◌}
use Rattle.reader.proofs.chunk_lines.Given as goal

abbrev pub invariant-loop-i : goal.invariant-loop-i
invariant-loop-i l = record {
  reached : l.i ≤ length l.text;
  line_len : length l.line ≡ length l.initial.line;
  memory_len : length l.memory ≡ length l.initial.memory;
  out_len : length l.out ≡ length l.initial.out;
  filled : l.r.fill ≤ 81;
  within : l.r.at ≤ length l.out;
  fit : FitCrate l.memory;
  unprinted : l.i ≡ 0 → l.r.at ≤ l.initial.r.at;
  fed : state_of l.r l.line l.memory l.out ≡ feed rehearsing (state_of l.initial.r l.initial.line l.initial.memory l.initial.out) (take l.i l.text);
}

abbrev pub decreases-loop-i : goal.decreases-loop-i
decreases-loop-i l = length l.text - l.i
