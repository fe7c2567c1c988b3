-- `end_line` meets its contract: the line's words are stored in the next place of the list (`line-stored`).
use native.Mathlib.Omega.{arith}
use Rattle.listfile.proofs.ListingLaws.{line-stored}
use Rattle.listfile.proofs.end_line.Goals as goal

pub returns-clause-words_after : goal.returns-clause-words_after
returns-clause-words_after c = let a = c.args in
    line-stored a.line.now a.words.now a.s.fill a.s.number _ _ (omega arith) c.read_line-reading.ensures.value c.write_reading.ensures
