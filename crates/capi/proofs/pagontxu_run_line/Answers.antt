-- `pagontxu_run_line` meets its contract: too few words for the answer, then the line, told.
use Rattle.capi.proofs.CallLaws.{line-untold, line-told}
use Rattle.capi.proofs.pagontxu_run_line.Goals as goal

pub returns-then-answer-lt-ANSWER_WORDS : goal.returns-then-answer-lt-ANSWER_WORDS
returns-then-answer-lt-ANSWER_WORDS c = line-untold _ _ _ _ _ _ c.if-answer-lt-ANSWER_WORDS.true c.unless_unfit.ensures c.refusal_number.ensures

pub returns : goal.returns
returns c = line-told _ _ _ _ _ _ _ _ _
    c.if-answer-lt-ANSWER_WORDS.false
    c.run_line.ensures.step c.tell.ensures.number
    c.tell.ensures.out
