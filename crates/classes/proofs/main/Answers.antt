-- The table lies within its buffer.
use Rattle.text.proofs.Paste.{put-within}
use Rattle.classes.proofs.main.Goals as goal

pub write_out-requires : goal.write_out-requires
write_out-requires c = put-within c.put_table-n.ensures
