-- `flag_word` meets its contract: after some windows the flags are the word of their tests, and `bits-or` puts the next bit in its place.
use Prim.Native.Nat.{◌*◌, ◌≤◌}
use mathlib.Core.Path.{◌≡◌}
use lib.ListN.{drop, length}
use Rattle.word24.specs.Word.{bits_of}
use Rattle.step.specs.Verdict.{within}
use Rattle.windows.specs.Flags.{low_of, high_of}
use Rattle.windows.proofs.sheets.flag_word.Given as goal

abbrev pub invariant-loop-i : goal.invariant-loop-i
invariant-loop-i l = (l.i-iterator.iter.size ≡ 2)
    × (2 * l.i-iterator.count ≤ length l.sheet)
    × (l.i-iterator.iter.rest.now ≡ drop (2 * l.i-iterator.count) l.sheet)
    × (l.flags ≡ bits_of (λ j. within (low_of l.sheet j) l.v (high_of l.sheet j)) l.i-iterator.count)
