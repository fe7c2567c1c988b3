-- A file read whole, to its end, is stored.
use Rattle.shell.proofs.ListedLaws.{stored-all}
use Rattle.shell.proofs.steps.take_list.Goals as goal

pub returns : goal.returns
returns g c =
    let end = c.finish-end in
    stored-all c.in_ok-read.ensures.stays_listed end.result c.take_parts-read.new.line end.new.words end.ensures.held end.ensures.words_after
