-- The crate is empty, hence fit, at first.
use native.Mathlib.Omega.{arith}
use borrow.Author.Rules.{rules}
use Rattle.dataway.proofs.CrateLaws.{empty-fit}
use Rattle.list_check.proofs.long_run.Goals as goal

pub take_parts-most-requires : goal.take_parts-most-requires
take_parts-most-requires g c = record { filled = omega arith; lined = search rules; within = omega arith; fit = empty-fit }
