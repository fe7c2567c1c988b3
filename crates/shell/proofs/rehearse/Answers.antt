-- A refused crate file ends the work, else the run file follows it.
use mathlib.Core.Path.{◌≡◌, refl, sym, ap, ◌∙◌}
use mathlib.Core.Bool.{Bool, true, false, not}
use denote.Enum.Bare.{sameb}
use Rattle.std.proofs.lemmas.Result.{IfOk-weaker}
use Rattle.reader.specs.contracts.Phase.{the_type}
use Rattle.reader.specs.declared.Phase.{Phase}
use Rattle.reader.specs.declared.Phase.TheVariants.{CrateFile, RunFile, Ended}
use Rattle.reader.specs.Reading.{is_open}
use Rattle.shell.proofs.HandedLaws.{handed-crate, handed-both, handed-as, start_is, start-held}
use Rattle.shell.proofs.rehearse.Goals as goal

of-ended : (p : Phase) (t : Bool) → sameb the_type p Ended ≡ t → is_open p ≡ not t
of-ended CrateFile t e = ap not e
of-ended RunFile t e = ap not e
of-ended Ended t e = ap not e

pub take_file-requires-clause-held : goal.take_file-requires-clause-held
take_file-requires-clause-held g c = start-held (c.requires.0) (c.requires.2)

pub returns-then-eq : goal.returns-then-eq
returns-then-eq g c =
    let built = c.in_ok-built in
    IfOk-weaker c.flush.result _ _
    (λ r e. handed-as c.take_file.new.out e
    (handed-crate (start_is c.args.line.now c.args.memory.now c.args.out.now (c.requires.2)) built.ensures.closed
    (of-ended built.built.phase true (sym c.eq.ensures ∙ c.if-eq.true))))
    c.flush.ensures

pub returns : goal.returns
returns g c =
    let built = c.in_ok-built in
    IfOk-weaker c.flush-2.result _ _
    (λ r e. handed-as c.take_file-2.new.out e
    (handed-both (start_is c.args.line.now c.args.memory.now c.args.out.now (c.requires.2)) built.ensures.closed
    (of-ended built.built.phase false (sym c.eq.ensures ∙ c.if-eq.false)) refl c.in_ok-ran.ensures.closed))
    c.flush-2.ensures
