-- `equal` meets its contract: equal words count as equal steps, and else what the two count as decides.
use Rattle.verdict.proofs.EqualLaws.{reading-told}
use Rattle.verdict.proofs.equal.Goals as goal

pub returns-else-same_words : goal.returns-else-same_words
returns-else-same_words c = let a = c.args in
    reading-told a.first.now a.i a.second.now a.j _ _ _ c.step_at.ensures c.step_at-else-same_words.ensures c.same_reading.ensures
