-- `clear` meets its contract: before the first turn nothing is done, and each turn is F9 at one A more.
use native.Mathlib.Omega.{arith}
use Rattle.station.proofs.ControlLaws.{cleared-below-kept, cleared-none, cleared_more}
use Rattle.station.proofs.KindTable.{count-few}
use Rattle.station.specs.Command.{functions_of, command_of}
use Rattle.panel.proofs.control.clear.Goals as goal

pub loop-a-init : goal.loop-a-init
loop-a-init c = cleared-none _

pub clear-requires-clause-fit_block : goal.clear-requires-clause-fit_block
clear-requires-clause-fit_block c =
    let few = count-few c.args.b.now c.requires in
    rw c.loop-a.invariant (cleared-below-kept c.loop-a.a c.args.b.now c.requires (omega arith)).fit

pub clear-requires-clause-below_r : goal.clear-requires-clause-below_r
clear-requires-clause-below_r c =
    let few = count-few c.args.b.now c.requires in
    rw (c.loop-a.invariant, (cleared-below-kept c.loop-a.a c.args.b.now c.requires (omega arith)).same.count) (omega arith)

pub loop-a-preserved : goal.loop-a-preserved
unfolding command_of functions_of
loop-a-preserved c = cleared_more c.args.b.now c.loop-a.b c.clear.new.b c.loop-a.a c.clear.result c.loop-a.invariant c.clear.ensures
