-- `stop` meets its contract. Before each cycle the Stop comes to what it is to come to from where it stands, and each cycle so far stored a word
-- (`Stopping`). A cycle with Q = 1 keeps it so; X = 0, Q = 0, or a full count of words, is an end of the definition.
-- Assumes nothing.
use Rattle.transfer.proofs.Stopping.{Stopping}
use Rattle.transfer.proofs.stop.stop.Given as goal

abbrev pub invariant-loop-words : goal.invariant-loop-words
invariant-loop-words l = Stopping l.n l.a l.f l.limit l.span l.fn.memory l.fn.buffer l.memory l.buffer l.words
