-- `touches_at` meets its contract: the step that is read is seen, or nothing where none is read.
use mathlib.Core.Path.{ap, ◌∙◌}
use Rattle.std.proofs.Common.{rules, ◌≡◌, false, Ok}
use Rattle.std.proofs.lemmas.Result.{MatchResult-weaker}
use Rattle.lists.specs.Words.{reading_of}
use Rattle.verdict.specs.Counted.{see, counted}
use Rattle.verdict.proofs.CountedLaws.{see_read}
use Rattle.verdict.proofs.touches_at.Goals as goal

pub returns : goal.returns
returns c =
    see_read _ _ _ c.requires.2 (MatchResult-weaker _ {P' = λ s. c.is_ok_and.result ≡ see c.args.k (counted (Ok s))} {Q' = λ q. c.is_ok_and.result ≡ false} c.is_ok_and.ensures (λ s h. search rules) (λ q h. h))
    ∙ ap (λ r. see c.args.k (counted r)) (c.read_step.ensures ∙ ap reading_of c.step_words.ensures.words)
