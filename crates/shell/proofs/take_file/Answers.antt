-- The bytes that were read, and then the file's end.
use Rattle.std.proofs.lemmas.Result.{IfOk-weaker}
use Rattle.shell.proofs.HandedLaws.{closed-both}
use Rattle.shell.proofs.take_file.Goals as goal

pub returns-clause-closed : goal.returns-clause-closed
returns-clause-closed g c =
    IfOk-weaker c.end_file-2.result _ _ (λ r h. closed-both c.in_ok-taken.ensures.reached h) c.end_file-2.ensures.closed
