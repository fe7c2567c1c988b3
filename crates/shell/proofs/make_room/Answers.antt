-- `make_room` meets its contract: nothing was handed out, or all that stood in the buffer was.
use mathlib.Core.List.{append-nil}
use mathlib.Core.Path.{refl, sym}
use Rattle.std.proofs.Common.{take}
use Rattle.reader.proofs.ReadingLaws.{states}
use Rattle.shell.proofs.make_room.Goals as goal

pub returns-clause-took : goal.returns-clause-took
returns-clause-took g c =
    let sent = take c.args.s.at c.args.out.now in
    record { sent = sent; same = states refl refl refl refl refl (sym (append-nil sent)) }
