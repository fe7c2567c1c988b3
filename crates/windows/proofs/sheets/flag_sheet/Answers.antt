-- `flag_sheet` meets its contract: it is refused as the verdict says, or the pass is made; then `each-window` holds of the flag words that it left.
use mathlib.Core.Path.{sym, ◌∙◌}
use native.Mathlib.Omega.{arith}
use Rattle.std.proofs.lemmas.Result.{err_from_is_err_and}
use Rattle.windows.proofs.SheetLaws.{sheet-fine, sheet-refused, sheet-flagged, each-window}
use Rattle.windows.proofs.sheets.flag_sheet.Goals as goal

pub returns-in_err-judge_sheet-clause-sheet : goal.returns-in_err-judge_sheet-clause-sheet
returns-in_err-judge_sheet-clause-sheet c = let sent = err_from_is_err_and c.from_residual.result c.from_residual.ensures.1 in
    rw (sent.1, sent.2) (sheet-refused _ _ _ _ _ c.judge_sheet.result _ c.judge_sheet.ensures c.in_err-judge_sheet.was)

pub flag_windows-requires-clause-fields : goal.flag_windows-requires-clause-fields
flag_windows-requires-clause-fields c = let good = sheet-fine _ _ _ _ (sym c.judge_sheet.ensures ∙ c.in_ok-judge_sheet.was) in
    let stations = good.stations in
    (stations.0, stations.1, stations.2, good.few, omega (arith, stations.1, good.room))

pub returns-clause-sheet : goal.returns-clause-sheet
returns-clause-sheet c = let pass = c.flag_windows.ensures in
    sheet-flagged _ _ _ _ _ c.judge_sheet.result _ _ c.judge_sheet.ensures c.in_ok-judge_sheet.was pass.count pass.flags

pub returns-clause-each : goal.returns-clause-each
returns-clause-each c = let entry = c.args in
    λ k e. each-window entry.memory.now entry.n entry.to entry.sheet.now entry.flags.now _ c.flag_windows.ensures.flags
