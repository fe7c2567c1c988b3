-- `walk_all` meets its contract: the watches before the one that is found see the same, and where it parts no rearrangement is left.
use Rattle.std.proofs.Common.{rules}
use Rattle.verdict.proofs.Walks.{compared_found}
use Rattle.verdict.proofs.walk_all.Goals as goal

pub returns : goal.returns
returns c = compared_found _ _ _ _ (λ a r q h. search rules) (λ k v q h. search rules) _ _ c.new.ensures.start c.new.ensures.end c.new.ensures.exhausted c.find_map.ensures.runs
