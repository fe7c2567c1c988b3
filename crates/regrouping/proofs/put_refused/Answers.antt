-- Two fields and the rest of the line, put one after the other; the test says which rest.
use native.Mathlib.Omega.{arith}
use borrow.Author.Tests.{eq-eqb, ne_eqb}
use Rattle.text.specs.Text.{bytes}
use Rattle.text.proofs.Decimal.{length-ten}
use Rattle.text.proofs.Paste.{put_then, after-field}
use Rattle.regrouping.specs.Files.{refused_text}
use Rattle.regrouping.proofs.put_refused.Goals as goal

pub put_field-of-requires : goal.put_field-of-requires
put_field-of-requires c = omega (arith, length-ten c.args.many)

pub put_field-at-requires : goal.put_field-at-requires
put_field-at-requires c = omega (arith, after-field (bytes ": ") c.args.many c.put_field-of.ensures, length-ten c.args.all)

pub put_bytes-requires : goal.put_bytes-requires
put_bytes-requires c =
    omega (arith, after-field (bytes ": ") c.args.many c.put_field-of.ensures, after-field (bytes " of ") c.args.all c.put_field-at.ensures)

pub returns-then-many-all : goal.returns-then-many-all
unfolding refused_text
returns-then-many-all c =
    rw (eq-eqb c.args.many c.args.all c.if-many-all.true)
    (put_then (put_then c.put_field-of.ensures c.put_field-at.ensures (omega arith)) c.put_bytes.ensures (omega arith))

pub put_bytes-requires-2 : goal.put_bytes-requires-2
put_bytes-requires-2 c =
    omega (arith, after-field (bytes ": ") c.args.many c.put_field-of.ensures, after-field (bytes " of ") c.args.all c.put_field-at.ensures)

pub returns : goal.returns
unfolding refused_text
returns c =
    rw (ne_eqb c.args.many c.args.all c.if-many-all.false)
    (put_then (put_then c.put_field-of.ensures c.put_field-at.ensures (omega arith)) c.put_bytes-2.ensures (omega arith))
