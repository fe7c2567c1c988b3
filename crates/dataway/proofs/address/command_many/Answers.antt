-- `command_many` meets its contract: each station in its turn has the command, or keeps its block.
use Prim.Native.Nat.{◌-◌}
use mathlib.Core.Path.{◌≡◌, sym, ap, ◌∙◌}
use native.Mathlib.Omega.{arith}
use Rattle.dataway.specs.Addressed.{joined, command_where}
use Rattle.dataway.specs.Stations.{reply_of}
use Rattle.dataway.proofs.ControlLaws.{each_so_far, each_none}
use Rattle.dataway.proofs.AddressLaws.{Turn, where-kept, where-off, where-on, replies-none, many-more}
use Rattle.dataway.proofs.address.command_many.Goals.{then-bit-eq1, else-bit-eq1}
use Rattle.dataway.proofs.address.command_many.Goals as goal

pub loop-n-init : goal.loop-n-init
loop-n-init c = record { memory = each_none (command_where _ _ _ _) _; reply = replies-none _ _ _ _ _ }

pub command-requires-clause-fit_crate : goal.command-requires-clause-fit_crate
command-requires-clause-fit_crate c =
    let kept = where-kept c.args.pattern _ _ _ c.requires.fields.0 c.requires.fields.2 in
    each_so_far (command_where _ _ _ _) kept _ c.requires.fit_crate c.loop-n.n _ (omega arith) c.loop-n.invariant.memory

pub loop-n-preserved : goal.loop-n-preserved
loop-n-preserved c =
    let fits = c.requires in
    let before = c.loop-n.invariant in
    let turn : Turn _ _ _ _ c.loop-n.memory c.loop-n.n c.loop-n.reply c.if-bit-eq1.memory c.if-bit-eq1.reply =
    elim c.if-bit-eq1.branch [
      | then-bit-eq1 w ↦
          let told = w.command.ensures in
          where-on _ _ _ _ _ _ _ _ _ (sym c.bit.ensures ∙ w.if-bit-eq1.true) (w.memory-is ∙ told.memory)
          (w.reply-is ∙ w.join-reply.ensures ∙ ap (joined _) told.answer)
      | else-bit-eq1 w ↦
          where-off _ _ _ _ _ _ _ (reply_of c.loop-n.memory c.loop-n.n c.args.a c.args.f c.args.w) _ _ (c.loop-n.auto.memory ∙ fits.fit_crate.size) (omega arith)
          (λ e. w.if-bit-eq1.false (c.bit.ensures ∙ e)) w.memory-is w.reply-is
    ] in
    let next = many-more _ _ _ _ fits.fields.0 fits.fields.2 _ fits.fit_crate c.loop-n.n _ _ _ _ (omega arith) (omega arith) before.memory before.reply turn in
    record { memory = next.0; reply = next.1 }

pub returns : goal.returns
returns c =
    let all : c.loop-n.n - 1 ≡ 23 = omega arith in
    let memory = rw all at c.loop-n.invariant.memory in
    let reply = rw all at c.loop-n.invariant.reply in
    λ i. record { memory = sym memory i; reply = sym reply i }
