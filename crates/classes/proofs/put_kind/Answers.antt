-- After f turns the lines of the functions below f were put.
use native.Mathlib.Omega.{arith}
use Rattle.classes.specs.Table.{line_of, kind_text}
use Rattle.classes.proofs.TextLaws.{texts-none, texts-more, texts-all, lines_end}
use Rattle.classes.proofs.put_kind.Goals as goal

pub loop-f-init : goal.loop-f-init
loop-f-init c = texts-none _ _ (line_of c.args.kind)

pub put_line-next-requires : goal.put_line-next-requires
put_line-next-requires c =
    let end = lines_end c.args.kind c.loop-f.f (c.requires.0) (omega arith) c.loop-f.invariant in
    (c.requires.0, omega arith, omega (arith, end, c.requires.1))

pub loop-f-preserved : goal.loop-f-preserved
loop-f-preserved c = texts-more (line_of c.args.kind) c.loop-f.f c.loop-f.invariant c.put_line-next.ensures (omega arith)

pub returns : goal.returns
unfolding kind_text
returns c = texts-all (line_of c.args.kind) 32 c.loop-f.f (omega arith) c.loop-f.invariant
