-- `flag_windows` meets its contract: after i registers `Pass` says which words are written and how many registers were read.
use Prim.Native.Nat.{◌-◌, ◌*◌, ◌≤◌}
use Rattle.step.specs.Verdict.{places_of}
use Rattle.windows.proofs.FlagLaws.{Pass}
use Rattle.windows.proofs.sheets.flag_windows.Given as goal

abbrev pub invariant-loop-i : goal.invariant-loop-i
invariant-loop-i l = Pass l.sheet l.memory l.initial.flags l.flags (16 * l.n) l.i l.count × (l.i ≤ places_of l.n l.to)

abbrev pub decreases-loop-i : goal.decreases-loop-i
decreases-loop-i l = places_of l.n l.to - l.i
