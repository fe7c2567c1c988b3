-- `are_narrow` meets its contract: `all` makes the test of each word of the first `limit`, or of all where there are fewer.
-- Assumes nothing.
use borrow.Author.Rules.{rules}
use borrow.Author.Tests.{tests}
use lib.Dec.{leb}
use Rattle.std.proofs.lemmas.Iterator.{YieldsList-from_slice}
use Rattle.std.proofs.lemmas.Iterator.Search.{all_from_yields_List}
use Rattle.std.proofs.lemmas.List.{take_min}
use Rattle.step.proofs.fields.are_narrow.Goals as goal

pub returns : goal.returns
returns c =
    rw (← take_min c.args.limit c.args.words.now, ← c.min.ensures)
    (all_from_yields_List (λ w. leb w 16777215) _ _ _ c.all.ensures.ran (YieldsList-from_slice _ c.iter.ensures.rest) (λ x b q k. search (rules, tests)))
