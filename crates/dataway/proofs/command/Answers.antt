-- `command` meets its contract: the station's own function works on the lent block, and what comes back is the definition's.
use borrow.Author.Rules.{rules}
use Rattle.dataway.proofs.StationLaws.{fit_lent, command_reply, command_leaves}
use Rattle.dataway.proofs.command.Goals as goal

pub command-requires : goal.command-requires
command-requires c = search (rules, fit_lent)

pub returns : goal.returns
returns c = search (rules, command_reply, command_leaves)
