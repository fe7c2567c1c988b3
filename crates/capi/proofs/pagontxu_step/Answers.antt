-- `pagontxu_step` meets its contract: too few words for the answer, then too few for the step, then the step, told.
use Rattle.capi.proofs.CallLaws.{step-untold, step-few, step-told}
use Rattle.capi.proofs.pagontxu_step.Goals as goal

pub returns-then-answer-lt-ANSWER_WORDS : goal.returns-then-answer-lt-ANSWER_WORDS
returns-then-answer-lt-ANSWER_WORDS c = step-untold _ _ _ _ _ _ c.if-answer-lt-ANSWER_WORDS.true c.unless_unfit.ensures c.refusal_number.ensures

pub returns-then-step-lt-STEP_WORDS : goal.returns-then-step-lt-STEP_WORDS
returns-then-step-lt-STEP_WORDS c = step-few _ _ _ _ _ _ _ c.if-answer-lt-ANSWER_WORDS.false
    c.if-step-lt-STEP_WORDS.true c.unless_unfit-then-step-lt-STEP_WORDS.ensures
    c.tell.ensures.number c.tell.ensures.out

pub returns : goal.returns
returns c = step-told _ _ _ _ _ _ _ _ _
    c.if-answer-lt-ANSWER_WORDS.false
    c.if-step-lt-STEP_WORDS.false
    c.run_words.ensures c.tell-2.ensures.number
    c.tell-2.ensures.out
