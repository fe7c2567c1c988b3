-- Each turn reads one digit, so that going on from there with the digits so far gives what going on from the start gives.
use Rattle.std.proofs.Common.{◌≡◌, length}
use Rattle.runfile.specs.Lines.{Small}
use Rattle.runfile.specs.Read.{digits_from}
use Rattle.runfile.proofs.fields.digits.Given as goal

abbrev pub invariant-loop-b : goal.invariant-loop-b
invariant-loop-b l = record { few : Small l.v; same : digits_from l.v l.rest ≡ digits_from l.first l.line }

abbrev pub decreases-loop-b : goal.decreases-loop-b
decreases-loop-b l = length l.rest
