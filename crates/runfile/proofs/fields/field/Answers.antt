-- The library's test says whether the key stands in front.
use Rattle.std.proofs.Common.{rules}
use Rattle.runfile.proofs.Found.{field-cut, field-short}
use Rattle.runfile.proofs.fields.field.Goals as goal

pub returns-in_err-front : goal.returns-in_err-front
returns-in_err-front g c = rw (field-short c.args.key.now c.args.line.now c.in_err-front.ensures.cases (search rules)) (search rules)

pub returns-then-eq : goal.returns-then-eq
returns-then-eq g c =
    let cut = c.in_ok-front.ensures.cases in
    rw (field-cut c.args.key.now c.args.line.now (search rules) cut.0 cut.1 c.eq.ensures, c.if-eq.true) c.number.ensures

pub returns-else-eq : goal.returns-else-eq
returns-else-eq g c =
    let cut = c.in_ok-front.ensures.cases in
    rw (field-cut c.args.key.now c.args.line.now (search rules) cut.0 cut.1 c.eq.ensures, c.if-eq.false)
