-- `are_covers_fit` meets its contract: `all` makes the test of each number below 23.
use mathlib.Core.Path.{refl, ◌∙◌}
use borrow.Author.Rules.{rules}
use borrow.Author.Tests.{tests}
use Rattle.std.proofs.lemmas.Iterator.{YieldsList-from_range}
use Rattle.std.proofs.lemmas.Iterator.Search.{all_from_yields_List}
use Rattle.dataway.specs.Crate.{is_fit_cover}
use Rattle.dataway.proofs.EveryLaws.{all-below}
use Rattle.dataway.proofs.fitness.are_covers_fit.Goals as goal

pub returns : goal.returns
returns c =
    all_from_yields_List (is_fit_cover c.args.memory.now) _ _ _ c.all.ensures.ran (YieldsList-from_range 0 23 23 refl refl) (λ x b q k. search (rules, tests))
    ∙ all-below (is_fit_cover c.args.memory.now) 23
