-- Room is made, and then the file ends.
use Rattle.shell.proofs.HandedLaws.{ended}
use Rattle.shell.proofs.end_file.Goals as goal

pub returns-clause-closed : goal.returns-clause-closed
returns-clause-closed g c = ended c.in_ok-room.ensures.took c.finish.ensures.out_after
