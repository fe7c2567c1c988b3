-- What is written out is the report that was put.
use Rattle.text.proofs.Paste.{put-within}
use Rattle.regrouping.proofs.tell.Goals as goal

pub write_out-requires : goal.write_out-requires
write_out-requires g c = put-within c.put_report-at.ensures.put
