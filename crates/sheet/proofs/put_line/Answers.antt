-- `put_line` meets its contract: number with its key, body and LF, put one after the other.
use native.Mathlib.Omega.{arith}
use Rattle.sheet.proofs.Room.{put-end, body-short}
use Rattle.sheet.specs.Answers.{step_line}
use Rattle.text.proofs.Paste.{put_then, after-field}
use Rattle.text.specs.Text.{bytes}
use Rattle.sheet.proofs.put_line.Goals as goal

pub put_body-last-requires : goal.put_body-last-requires
put_body-last-requires c = omega (
  arith,
  after-field (bytes "step=") c.args.k
      c.put_keyed-next.ensures,
)

pub put_bytes-requires : goal.put_bytes-requires
put_bytes-requires c = omega (
  arith,
  after-field (bytes "step=")
      c.args.k
      c.put_keyed-next.ensures,
  put-end 50 c.put_body-last.ensures
      (body-short c.args.answer),
)

pub returns : goal.returns
unfolding step_line
returns c = put_then
    (put_then c.put_keyed-next.ensures
    c.put_body-last.ensures (omega arith)) c.put_bytes.ensures
    (omega (
      arith,
      after-field (bytes "step=")
          c.args.k
          c.put_keyed-next.ensures,
    ))
