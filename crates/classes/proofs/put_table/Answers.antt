-- After so many turns the lines of the kinds below that number were put.
use native.Mathlib.Omega.{arith}
use Rattle.classes.specs.Table.{kind_text, table_text}
use Rattle.classes.proofs.TextLaws.{texts-none, texts-more, texts-all, kinds-end}
use Rattle.classes.proofs.put_table.Goals as goal

pub loop-kind-init : goal.loop-kind-init
loop-kind-init c = texts-none _ 0 kind_text

pub put_kind-next-requires : goal.put_kind-next-requires
put_kind-next-requires c =
    let end = kinds-end c.loop-kind.kind (omega arith) c.loop-kind.invariant in
    (omega arith, omega (arith, end))

pub loop-kind-preserved : goal.loop-kind-preserved
loop-kind-preserved c = texts-more kind_text c.loop-kind.kind c.loop-kind.invariant c.put_kind-next.ensures (omega arith)

pub returns : goal.returns
unfolding table_text
returns c = texts-all kind_text 6 c.loop-kind.kind (omega arith) c.loop-kind.invariant
