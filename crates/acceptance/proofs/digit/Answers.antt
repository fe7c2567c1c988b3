-- `digit` meets its contract: the table is the rule's six rows of 32 digits, which are computed; each arm of its match reads the row of its kind.
use mathlib.Core.Path.{◌≡◌}
use native.Mathlib.Omega.{arith}
use Rattle.acceptance.proofs.Entries.{digit-in}
use Rattle.acceptance.specs.Classes.{class_of}
use Rattle.acceptance.proofs.digit.Goals as goal

pub returns-in-0 : goal.returns-in-0
unfolding class_of
returns-in-0 c = rw c.in-0.is (digit-in 0 _ (omega arith) c.requires.f_bound)

pub returns-in-1 : goal.returns-in-1
unfolding class_of
returns-in-1 c = rw c.in-1.is (digit-in 1 _ (omega arith) c.requires.f_bound)

pub returns-in-2 : goal.returns-in-2
unfolding class_of
returns-in-2 c = rw c.in-2.is (digit-in 2 _ (omega arith) c.requires.f_bound)

pub returns-in-3 : goal.returns-in-3
unfolding class_of
returns-in-3 c = rw c.in-3.is (digit-in 3 _ (omega arith) c.requires.f_bound)

pub returns-in-4 : goal.returns-in-4
unfolding class_of
returns-in-4 c = rw c.in-4.is (digit-in 4 _ (omega arith) c.requires.f_bound)

pub returns-in_default : goal.returns-in_default
unfolding class_of
returns-in_default c =
    let last : c.args.kind ≡ 5 = omega arith in
    rw last (digit-in 5 _ (omega arith) c.requires.f_bound)
