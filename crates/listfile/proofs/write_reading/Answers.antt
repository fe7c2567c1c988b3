-- `write_reading` meets its contract: a step has its words, and a line that is no step has six zeros.
use Rattle.listfile.specs.ListWords.{line_words}
use Prim.Native.Nat.{ℕ}
use lib.ListN.{replicate}
use mathlib.Core.Path.{sym, ap, ◌∙◌}
use Rattle.listfile.proofs.write_reading.Goals as goal

pub returns-in-Ok : goal.returns-in-Ok
unfolding line_words
returns-in-Ok c = c.write_step.ensures ∙ ap line_words (sym c.in-Ok.is)

pub returns-in-Err : goal.returns-in-Err
unfolding line_words
returns-in-Err c =
    c.fill.ensures.after (λ y e. e) ∙ ap (λ (n : ℕ). replicate n 0) c.requires ∙ ap line_words (sym c.in-Err.is)
