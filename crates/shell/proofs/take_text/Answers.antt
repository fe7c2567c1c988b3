-- A turn with room takes some bytes more: these follow those that were taken before.
use native.Mathlib.Omega.{arith}
use Rattle.reader.proofs.Whole.{took-both, took-as, took-kept}
use Rattle.std.proofs.lemmas.Result.{IfOk-at_ok}
use Rattle.shell.proofs.HandedLaws.{rest, pieces}
use Rattle.shell.proofs.take_text.Goals as goal

pub loop-from-preserved : goal.loop-from-preserved
loop-from-preserved g c =
    let chunk = c.chunk_lines-p in
    record {
      within = omega (arith, rest c.args.text.now c.loop-from.from);
      held = chunk.ensures.held;
      took = took-as (pieces c.args.text.now c.loop-from.from chunk.result.next (omega (arith, rest c.args.text.now c.loop-from.from)))
          (took-both (took-both c.loop-from.invariant.took (IfOk-at_ok _ c.in-Ok.is c.make_room.ensures.took)) (took-kept chunk.ensures.out_after));
    }
