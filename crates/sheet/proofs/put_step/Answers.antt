-- `put_step` meets its contract: the step's line, then the lines of its words.
use mathlib.Core.Path.{ap}
use native.Mathlib.Omega.{arith}
use lib.ListN.{length}
use Rattle.sheet.proofs.Room.{put-end, line-short, of-text, stored-few}
use Rattle.sheet.specs.Answers.{word_lines, step_text}
use Rattle.text.proofs.Paste.{put_then}
use Rattle.sheet.proofs.put_step.Goals as goal

pub put_words-requires : goal.put_words-requires
put_words-requires c =
    let a = c.args in
    let few = stored-few a.answer a.buffer.now (omega arith) in
    omega (arith, put-end 66 c.put_line-next.ensures (line-short a.k a.answer), ap length c.stored.ensures, few)

pub returns : goal.returns
unfolding step_text
returns c = put_then c.put_line-next.ensures (of-text (ap word_lines c.stored.ensures) c.put_words.ensures) (omega arith)
