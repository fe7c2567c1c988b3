-- `put_words` meets its contract: the lines of the words before the present one were put.
use native.Mathlib.Omega.{arith}
use Rattle.sheet.proofs.Room.{put-nothing, of-text, words-end, next_word}
use Rattle.text.proofs.Paste.{put_then}
use Rattle.sheet.proofs.put_words.Goals as goal

pub loop-w-init : goal.loop-w-init
loop-w-init c = put-nothing _ _

pub put_word-next-requires : goal.put_word-next-requires
put_word-next-requires c =
    let loop = c.loop-w in
    omega (arith, words-end c.args.words.now loop.w-index (omega arith) loop.invariant)

pub loop-w-preserved : goal.loop-w-preserved
loop-w-preserved c =
    of-text (next_word c.args.words.now c.loop-w.w-index (omega arith)) (put_then c.loop-w.invariant c.put_word-next.ensures (omega arith))
