-- `list_within` meets its contract: up to number p, what is listed is what was picked, and the words past it are as they were.
use Prim.Native.Nat.{◌-◌, ◌*◌}
use mathlib.Core.Path.{◌≡◌, ◌∙◌, sym}
use native.Mathlib.Omega.{arith}
use Rattle.step.specs.Verdict.{places_of}
use Rattle.windows.specs.Within.{is_inside, within_of}
use Rattle.windows.proofs.WithinLaws.{picked-few, within-in, within-out, within-starts}
use Rattle.windows.proofs.list_within.Goals as goal
use Rattle.windows.proofs.list_within.Goals.{then-is_inside, else-is_inside}

pub loop-p-init : goal.loop-p-init
loop-p-init c = let entry = c.args in
    (omega arith, omega arith, within-starts (is_inside entry.memory.now entry.lo entry.hi) (16 * entry.n) entry.buffer.now)

pub bounds-buffer-count : goal.bounds-buffer-count
bounds-buffer-count c = let entry = c.args in
    let loop = c.loop-p in
    let few = picked-few (is_inside entry.memory.now entry.lo entry.hi) (16 * entry.n) (loop.p - 16 * entry.n) in omega arith

pub overflow_add-count : goal.overflow_add-count
overflow_add-count c = let entry = c.args in
    let loop = c.loop-p in
    let few = picked-few (is_inside entry.memory.now entry.lo entry.hi) (16 * entry.n) (loop.p - 16 * entry.n) in omega arith

pub loop-p-preserved : goal.loop-p-preserved
loop-p-preserved c = let entry = c.args in
    let loop = c.loop-p in
    let sent = loop.invariant.2 in (
      omega arith,
      omega arith,
      elim c.if-is_inside.branch [
        | then-is_inside w ↦ rw (w.count-is, w.buffer-is)
            (within-in (is_inside entry.memory.now entry.lo entry.hi) (16 * entry.n) loop.p loop.count entry.buffer.now loop.buffer
            (sym c.is_inside.ensures ∙ w.if-is_inside.true) (omega arith) (omega arith) sent.0 sent.1)
        | else-is_inside w ↦ rw (w.count-is, w.buffer-is)
            (within-out (is_inside entry.memory.now entry.lo entry.hi) (16 * entry.n) loop.p loop.count entry.buffer.now loop.buffer
            (sym c.is_inside.ensures ∙ w.if-is_inside.false) (omega arith) sent.0 sent.1)
      ],
    )

pub returns : goal.returns
unfolding within_of
returns c = let entry = c.args in
    let e : c.loop-p.p - 16 * entry.n ≡ places_of entry.n entry.to = omega arith in let pair = rw e at c.loop-p.invariant.2 in record { count = pair.0; buffer = pair.1 }
