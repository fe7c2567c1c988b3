-- At each letter the form that is tried is the one that `read_line` reads.
use mathlib.Core.Path.{sym, ◌∙◌}
use Rattle.std.proofs.Common.{rules, arith}
use Rattle.runfile.proofs.Found.{either}
use Rattle.runfile.proofs.Letters.{letter-n, letter-f, letter-z, letter-c, letter-i, letter-l, letter-s, letter-r, letter-p, letter-w, no-letter, other-letter}
use Rattle.runfile.proofs.read_form.Goals as goal

pub returns-in_err-get : goal.returns-in_err-get
returns-in_err-get c = let h = c.in_err-get.ensures.lookup in rw c.from_residual.ensures (no-letter c.args.line.now (omega arith))

pub returns-in-110 : goal.returns-in-110
returns-in-110 c = c.read_naf.ensures ∙ letter-n c.args.line.now (search rules)

pub returns-in-102 : goal.returns-in-102
returns-in-102 c = c.read_front.ensures ∙ letter-f c.args.line.now (search rules)

pub returns-in-122 : goal.returns-in-122
returns-in-122 c = c.read_bare.ensures ∙ letter-z c.args.line.now (search rules)

pub returns-in-99 : goal.returns-in-99
returns-in-99 c = c.read_bare-in-99.ensures ∙ letter-c c.args.line.now (search rules)

pub returns-in-105 : goal.returns-in-105
returns-in-105 c = c.read_inhibit.ensures ∙ letter-i c.args.line.now (search rules)

pub returns-in-108 : goal.returns-in-108
returns-in-108 c = c.read_bare-in-108.ensures ∙ letter-l c.args.line.now (search rules)

pub returns-in-114 : goal.returns-in-114
returns-in-114 c = c.read_repeat.ensures ∙ letter-r c.args.line.now (search rules)

pub returns-in-112 : goal.returns-in-112
returns-in-112 c = c.read_put.ensures ∙ letter-p c.args.line.now (search rules)

pub returns-in-119 : goal.returns-in-119
returns-in-119 c = c.read_within.ensures ∙ letter-w c.args.line.now (search rules)

pub returns-in-115 : goal.returns-in-115
returns-in-115 c = either _ _ c.read_scan.ensures c.read_stop.ensures c.or.ensures ∙ letter-s c.args.line.now (search rules)

pub returns-in_default : goal.returns-in_default
returns-in_default c = search (rules, other-letter c.args.line.now _ (sym (c.in_ok-get.ensures.lookup.3.1 0)))
