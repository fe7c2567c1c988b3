-- `repeat` meets its contract. Before each cycle the Repeat comes to what it is to come to from where it stands, with the tries that are left
-- (`Repeating`). A cycle keeps it so; the limit reached, X = 0, or no try left, is an end of the definition.
-- Assumes nothing.
use Rattle.transfer.proofs.Repeating.{Repeating}
use Rattle.transfer.proofs.repeat.repeat.Given as goal

abbrev pub invariant-loop-tried : goal.invariant-loop-tried
invariant-loop-tried l = Repeating l.n l.a l.f l.limit l.tries l.span l.fn.memory l.fn.buffer l.memory l.buffer l.words l.tried
