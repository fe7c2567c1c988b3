-- How long a scan or a put can take, and what a scan reads (RULES 4.18 to 4.20): said of a step as it is run, from any memory and with any buffer. Such a
-- step is refused where `to` is below N, so to - N + 1 is the number of its stations.
use Rattle.std.specs.Prelude.{ℕ, ◌+◌, ◌-◌, ◌≤◌, ◌≡◌, List, length, take, Ok}
use Rattle.transfer.specs.Held.{held_from}
use Rattle.transfer.specs.declared.Transfer.{Transfer}
use Rattle.step.specs.declared.Step.TheVariants.{Scan, Put, PutLent}
use Rattle.controller.specs.declared.Answer.TheVariants.{Transferred, Wrote}
use Rattle.controller.specs.Steps.{Order, order, leaves, gives}

-- a scan, a put of one word and a put of lent words, each lent the buffer b
abbrev pub scan : (n a f to limit : ℕ) (b : List ℕ) → Order
scan n a f to limit b = order (Ok (Scan n a f to limit)) b

abbrev pub put : (n a to limit w : ℕ) (b : List ℕ) → Order
put n a to limit w b = order (Ok (Put n a to limit w)) b

abbrev pub put_lent : (n a to limit : ℕ) (b : List ℕ) → Order
put_lent n a to limit b = order (Ok (PutLent n a to limit)) b

-- at most a cycle for each word, and one for each station from N to `to`
abbrev pub InTime : (n to : ℕ) → Transfer → Type 0
InTime n to p = p.cycles ≤ p.words + (to - n + 1)

-- EVERY SCAN THAT IS NOT REFUSED is done in that time
abbrev pub ScanTime : Type 0
ScanTime = (m : List ℕ) (n a f to limit : ℕ) (b : List ℕ) (p : Transfer)
    → (gives m (scan n a f to limit b)).answer ≡ Transferred p
    → InTime n to p

-- so is every put that is not refused, its words being those used up
abbrev pub PutTime : Type 0
PutTime = (m : List ℕ) (n a to limit w : ℕ) (b : List ℕ) (p : Transfer)
    → (gives m (put n a to limit w b)).answer ≡ Wrote p
    → InTime n to p

abbrev pub PutLentTime : Type 0
PutLentTime = (m : List ℕ) (n a to limit : ℕ) (b : List ℕ) (p : Transfer)
    → (gives m (put_lent n a to limit b)).answer ≡ Wrote p
    → InTime n to p

-- the stations of such a scan are of 1 to 23, its words at most `limit`, and so many were lent: so it makes no more than `limit` + 23 cycles
abbrev pub ScanWithin : Type 0
ScanWithin = (m : List ℕ) (n a f to limit : ℕ) (b : List ℕ) (p : Transfer)
    → (gives m (scan n a f to limit b)).answer ≡ Transferred p
    → (1 ≤ n) × (n ≤ to) × (to ≤ 23) × (p.words ≤ limit) × (limit ≤ 512) × (limit ≤ length b)

-- WITH F0 FROM A = 0, WHERE THE LIMIT WAS NOT REACHED: the words stored are those that the stations from N to `to` hold, stations ascending, each once; and
-- the crate is as it was
abbrev pub ScanRead : Type 0
ScanRead = (m : List ℕ) (n to limit : ℕ) (b : List ℕ) (p : Transfer)
    → (gives m (scan n 0 0 to limit b)).answer ≡ Transferred p
    → p.end ≡ 2
    → (take p.words (gives m (scan n 0 0 to limit b)).buffer ≡ held_from m (to - n + 1) n 0) × (leaves m (scan n 0 0 to limit b) ≡ m)

-- with F0 from any A, also where the limit was reached: the first `limit` of those words, of the first station from A on
abbrev pub ScanReadTo : Type 0
ScanReadTo = (m : List ℕ) (n a to limit : ℕ) (b : List ℕ) (p : Transfer)
    → (gives m (scan n a 0 to limit b)).answer ≡ Transferred p
    → (take p.words (gives m (scan n a 0 to limit b)).buffer ≡ take limit (held_from m (to - n + 1) n a)) × (leaves m (scan n a 0 to limit b) ≡ m)
