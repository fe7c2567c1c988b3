-- What a step answers, as numbers: which answer it is, and its values in the order in which they are printed.
use Rattle.std.specs.Prelude.{ℕ, List, [], ◌∷◌}
use Rattle.step.specs.Refusals.{refusal_number}
use Rattle.controller.specs.declared.Answer.{Answer}
use Rattle.controller.specs.declared.Answer.TheVariants.{Replied, Taken, Done, Looked, Transferred, Wrote, Listed, Refused}

-- 0 and the refusal number; 1 and X, Q, R; 2 and the digit of a front event; 3 and done; 4 and L, count, first; 5 and end, words, cycles; 6 and the same of a put;
-- 7 and how many registers were listed
abbrev pub answer_words : Answer → List ℕ
answer_words (Refused q) = 0 ∷ refusal_number q ∷ 0 ∷ 0 ∷ []
answer_words (Replied p) = 1 ∷ p.x ∷ p.q ∷ p.r ∷ []
answer_words (Taken v) = 2 ∷ v ∷ 0 ∷ 0 ∷ []
answer_words Done = 3 ∷ 1 ∷ 0 ∷ 0 ∷ []
answer_words (Looked p) = 4 ∷ p.l ∷ p.count ∷ p.first ∷ []
answer_words (Transferred p) = 5 ∷ p.end ∷ p.words ∷ p.cycles ∷ []
answer_words (Wrote p) = 6 ∷ p.end ∷ p.words ∷ p.cycles ∷ []
answer_words (Listed count) = 7 ∷ count ∷ 0 ∷ 0 ∷ []
