-- `put_word` meets its contract: key and number, then LF.
use native.Mathlib.Omega.{arith}
use Rattle.sheet.specs.Answers.{word_line}
use Rattle.text.proofs.Paste.{put_then, after-field}
use Rattle.text.specs.Text.{bytes}
use Rattle.sheet.proofs.put_word.Goals as goal

pub put_bytes-requires : goal.put_bytes-requires
put_bytes-requires c = omega (arith, after-field (bytes "word=") c.args.w c.put_keyed-next.ensures)

pub returns : goal.returns
unfolding word_line
returns c = put_then c.put_keyed-next.ensures c.put_bytes.ensures (omega arith)
