-- What the stations hold for a scan with F0 to read (RULES 4.19).
use Rattle.std.specs.Prelude.{cond, List, [], ◌∷◌, ◌++◌, ℕ, zero, suc, ◌+◌, take, drop, eqb}
use Rattle.blocks.specs.Blocks.{block_of}
use Rattle.station.specs.Block.{count_of, fill_of, is_buffer}
use Rattle.station.specs.Buffer.{oldest_of}

-- the words that a station holds: a buffer memory its oldest word, or none when fill is 0; any other its registers 0 to r-1 (none in an empty station)
unfoldable pub held_in : List ℕ → List ℕ
held_in b = cond (is_buffer b) (cond (eqb (fill_of b) 0) [] (oldest_of b ∷ [])) (take (count_of b) (drop 16 b))

-- those of k stations from N on, one station after the other; of the first from subaddress A on
unfoldable pub held_from : List ℕ → (k n a : ℕ) → List ℕ
held_from m zero n a = []
held_from m (suc k) n a = drop a (held_in (block_of m n)) ++ held_from m k (n + 1) 0
