-- `accepted` meets its contract: the lent part of the memory is the station's block.
use borrow.Author.Rules.{rules}
use Rattle.dataway.proofs.StationLaws.{fit_lent, accepts_at}
use Rattle.dataway.proofs.accepted.Goals as goal

pub accepted-requires : goal.accepted-requires
accepted-requires c = search (rules, fit_lent)

pub returns : goal.returns
returns c = search (rules, accepts_at)
