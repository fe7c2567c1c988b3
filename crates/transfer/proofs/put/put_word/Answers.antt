-- `put_word` meets its contract: the first `limit` of 512 words that are all w are `limit` words, each w.
-- Assumes nothing.
use Prim.Native.Nat.{◌≤◌}
use native.Mathlib.Omega.{arith}
use lib.ListN.{length-replicate}
use Rattle.std.proofs.lemmas.List.{take-replicate}
use Rattle.transfer.proofs.Putting.{same-narrow}
use Rattle.transfer.proofs.put.put_word.Goals as goal

pub put-requires-clause-narrow : goal.put-requires-clause-narrow
put-requires-clause-narrow c = let l : c.args.limit ≤ 512 = omega arith in rw take-replicate (same-narrow c.args.limit c.args.w (omega arith))

pub returns : goal.returns
returns c = let l : c.args.limit ≤ 512 = omega arith in rw (take-replicate, length-replicate) at c.put.ensures
