-- Put (N, A, to, limit, and the words offered) (RULES 4.14 to 4.16): the way of a scan, each cycle the command F16 with the first word that is not used up.
-- A word is used up when Q = 1. F16 reads nothing, so what the scan would store is a 0 for each word used up; of these only the number is told.
use Rattle.std.specs.Prelude.{List, [], ℕ, get_or}
use Rattle.dataway.specs.Stations.{reply_of, after_command}
use Rattle.transfer.specs.Cycle.{Ended, CycleAt}
use Rattle.transfer.specs.Scan.{scanning}

-- the cycle of a put of these words: the command F16 with word k of them, where k are used up
abbrev pub writes : (offered : List ℕ) → CycleAt
writes offered m n a k = record { reply = reply_of m n a 16 (get_or offered k 0); memory = after_command m n a 16 (get_or offered k 0) }

-- the put: from N, A, with no word used up and no cycle made
abbrev pub put_of : List ℕ → (n a to limit : ℕ) (offered : List ℕ) → Ended
put_of m n a to limit offered = scanning (writes offered) to limit m n a [] 0
