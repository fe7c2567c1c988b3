-- Every answer of `read_line` claims what `Reads` says.
use mathlib.Core.Path.{◌∙◌}
use Rattle.runfile.proofs.RunLines.{reads_of}
use Rattle.runfile.proofs.read_line.Goals as goal

pub returns-clause-meaning : goal.returns-clause-meaning
returns-clause-meaning c = reads_of c.args.line.now _ (c.ok_or.ensures.value ∙ c.read_form.ensures)
