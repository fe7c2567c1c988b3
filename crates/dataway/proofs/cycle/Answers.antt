-- `cycle` meets its contract: the station's own function works on the lent block, and what comes back is the definition's at W = 0.
use borrow.Author.Rules.{rules}
use Rattle.dataway.proofs.StationLaws.{fit_lent, accepts_lent, command_reply, command_leaves}
use Rattle.dataway.proofs.cycle.Goals as goal

pub cycle-requires : goal.cycle-requires
cycle-requires c = search (rules, fit_lent, accepts_lent)

pub returns : goal.returns
returns c = search (rules, command_reply, command_leaves)
