-- `flag_windows` meets its contract: after i registers `Pass` says which words are written and how many registers were read.
use Prim.Native.Nat.{◌*◌}
use mathlib.Core.Path.{sym, ◌∙◌}
use native.Mathlib.Omega.{arith}
use Rattle.windows.proofs.FlagLaws.{pass-starts, pass-there, pass-absent, pass-few, pass-ends}
use Rattle.windows.proofs.sheets.flag_windows.Goals as goal
use Rattle.windows.proofs.sheets.flag_windows.Goals.{in-Some, in-None}

pub loop-i-init : goal.loop-i-init
loop-i-init c = let entry = c.args in (pass-starts entry.sheet.now entry.memory.now entry.flags.now (16 * entry.n), omega arith)

pub overflow_add-count : goal.overflow_add-count
overflow_add-count c = omega (arith, pass-few c.loop-i.invariant.0)

pub loop-i-preserved : goal.loop-i-preserved
loop-i-preserved c = let entry = c.args in
    let loop = c.loop-i in (
      elim c.match-register.branch [
        | in-Some w ↦ rw (w.flags-is, w.count-is)
            (pass-there entry.sheet.now entry.memory.now entry.flags.now loop.flags (16 * entry.n) loop.i loop.count w.in-Some.v w.flag_word.result loop.invariant.0
            (omega arith) (sym c.register.ensures ∙ w.in-Some.is) w.flag_word.ensures)
        | in-None w ↦ rw (w.flags-is, w.count-is)
            (pass-absent entry.sheet.now entry.memory.now entry.flags.now loop.flags (16 * entry.n) loop.i loop.count loop.invariant.0
            (omega arith) (sym c.register.ensures ∙ w.in-None.is))
      ],
      omega arith,
    )

pub returns : goal.returns
returns c = let entry = c in
    let pair = pass-ends entry.args.to c.loop-i.invariant.0 (omega arith) entry.requires.fit_crate (omega arith) (omega arith) (omega arith) in
    record { count = pair.0; flags = pair.1 }
