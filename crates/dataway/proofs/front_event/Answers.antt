-- `front_event` meets its contract: the station's own function works on the lent block, under the memory's Inhibit.
use borrow.Author.Rules.{rules}
use Rattle.dataway.proofs.StationLaws.{fit_lent, front_taken, front_leaves}
use Rattle.dataway.proofs.front_event.Goals as goal

pub front_event-requires : goal.front_event-requires
front_event-requires c = search (rules, fit_lent)

pub returns : goal.returns
returns c = search (rules, front_taken, front_leaves)
