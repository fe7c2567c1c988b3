-- Every answer of `read_module` claims what `ReadsModule` says.
use mathlib.Core.Path.{◌∙◌}
use Rattle.runfile.proofs.CrateLines.{reads-module-of}
use Rattle.runfile.proofs.read_module.Goals as goal

pub returns-clause-meaning : goal.returns-clause-meaning
returns-clause-meaning c = reads-module-of c.args.line.now _ (c.ok_or.ensures.value ∙ c.read_fields.ensures)
