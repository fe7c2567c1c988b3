-- Three fields and LF, put one after the other, were put as one text.
use mathlib.Core.Path.{ap, ◌∙◌}
use native.Mathlib.Omega.{arith}
use Rattle.text.specs.Text.{bytes}
use Rattle.text.proofs.Paste.{put_then}
use Rattle.acceptance.specs.Classes.{class_number}
use Rattle.classes.specs.Table.{line_of}
use Rattle.classes.proofs.TextLaws.{one-digit, two_digits, after_one, after-pair, class-few, of_number}
use Rattle.classes.proofs.put_line.Goals as goal

pub put_field-after_kind-requires : goal.put_field-after_kind-requires
put_field-after_kind-requires c = omega (arith, one-digit c.args.kind (omega arith))

pub put_field-after_f-requires : goal.put_field-after_f-requires
put_field-after_f-requires c =
    omega (arith, two_digits c.args.f (omega arith), after_one (bytes "kind=") c.args.kind (omega arith) c.put_field-after_kind.ensures)

pub put_field-after_class-requires : goal.put_field-after_class-requires
put_field-after_class-requires c =
    let pair = after-pair c.args.kind c.args.f (omega arith) (omega arith) c.put_field-after_kind.ensures c.put_field-after_f.ensures in
    let small = class-few c.class_of.result c.class_number-number.ensures in
    omega (arith, pair, one-digit c.class_number-number.result small)

pub put_bytes-requires : goal.put_bytes-requires
put_bytes-requires c =
    let pair = after-pair c.args.kind c.args.f (omega arith) (omega arith) c.put_field-after_kind.ensures c.put_field-after_f.ensures in
    let small = class-few c.class_of.result c.class_number-number.ensures in
    omega (arith, pair, after_one (bytes " class=") c.class_number-number.result small c.put_field-after_class.ensures)

pub returns : goal.returns
unfolding line_of
returns c =
    let pair = put_then c.put_field-after_kind.ensures c.put_field-after_f.ensures (omega arith) in
    let number = c.class_number-number.ensures ∙ ap class_number c.class_of.ensures in
    let class = of_number (bytes " class=") number c.put_field-after_class.ensures in
    put_then (put_then pair class (omega arith)) c.put_bytes.ensures (omega arith)
