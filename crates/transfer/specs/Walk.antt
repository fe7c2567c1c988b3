-- The commands that a scan makes, in their order, beside `scan_of` (RULES 4.8); so that it can be said where a scan has been.
use Rattle.std.specs.Prelude.{ℕ, ◌+◌, ◌-◌, ◌≤◌, ◌<◌, ◌≡◌, cond, ◌⊎◌, List, [], ◌∷◌, eqb, length}
use Rattle.station.specs.declared.Reply.{Reply}
use Rattle.dataway.specs.Stations.{reply_of, after_command}
use Rattle.transfer.specs.Scan.{scan_of}

-- a command that was made: its station, its subaddress, and what it answered
pub record Made : Type 0 where
  pub station : ℕ
  pub subaddress : ℕ
  pub reply : Reply

abbrev pub made : ℕ → ℕ → Reply → Made
made n a r = record { station = n; subaddress = a; reply = r }

-- Walk f to limit m n a k cs e m': a scan with function F that stands at N, A of the memory m, with k words stored, makes the commands cs, ends with e and
-- leaves the memory m'. While N is at most `to` and fewer than `limit` words are stored, command N, A.
pub data Walk (f to limit : ℕ) : List ℕ → ℕ → ℕ → ℕ → List Made → ℕ → List ℕ → Type 0 where
  -- End 1: limit reached (tested first)
  limit-reached : {m : List ℕ} {n a k : ℕ} → limit ≤ k → Walk f to limit m n a k [] 1 m
  -- End 2: past `to`
  past_to : {m : List ℕ} {n a k : ℕ} → k < limit → to < n → Walk f to limit m n a k [] 2 m
  -- After Q = 1, go to A + 1 ..
  up : {m m' : List ℕ} {n a k e : ℕ} {cs : List Made} → k < limit → n ≤ to → (reply_of m n a f 0).q ≡ 1 → a < 15
      → Walk f to limit (after_command m n a f 0) n (a + 1) (k + 1) cs e m' → Walk f to limit m n a k (made n a (reply_of m n a f 0) ∷ cs) e m'
  -- .. or from 15 to A0 of N + 1
  over : {m m' : List ℕ} {n a k e : ℕ} {cs : List Made} → k < limit → n ≤ to → (reply_of m n a f 0).q ≡ 1 → a ≡ 15
      → Walk f to limit (after_command m n a f 0) (n + 1) 0 (k + 1) cs e m' → Walk f to limit m n a k (made n a (reply_of m n a f 0) ∷ cs) e m'
  -- After Q = 0, go to A0 of N + 1
  on : {m m' : List ℕ} {n a k e : ℕ} {cs : List Made} → k < limit → n ≤ to → (reply_of m n a f 0).q ≡ 0
      → Walk f to limit (after_command m n a f 0) (n + 1) 0 k cs e m' → Walk f to limit m n a k (made n a (reply_of m n a f 0) ∷ cs) e m'

-- the words of the commands that answered Q = 1
abbrev pub words_of : List Made → List ℕ
words_of [] = []
words_of (c ∷ cs) = cond (eqb c.reply.q 1) (c.reply.r ∷ words_of cs) (words_of cs)

-- one of the commands was made at station n, subaddress a
abbrev pub MadeAt : ℕ → ℕ → List Made → Type 0
MadeAt n a [] = ⊥
MadeAt n a (c ∷ cs) = ((c.station ≡ n) × (c.subaddress ≡ a)) ⊎ MadeAt n a cs

-- every station from N to `to` was commanded, N at A and those after it at A0
abbrev pub Everywhere : (n a to : ℕ) → List Made → Type 0
Everywhere n a to cs = MadeAt n a cs × ((x : ℕ) → n < x → x ≤ to → MadeAt x 0 cs)

-- EVERY SCAN IS SUCH A WALK: its cycles are the commands made, its words those that answered Q = 1
abbrev pub ScanWalks : Type 0
ScanWalks = (m : List ℕ) (n a f to limit : ℕ) → a ≤ 15
    → (cs : List Made) × Walk f to limit m n a 0 cs (scan_of m n a f to limit).end (scan_of m n a f to limit).memory
    × ((scan_of m n a f to limit).cycles ≡ length cs) × ((scan_of m n a f to limit).words ≡ words_of cs)

-- and one only
abbrev pub SoleWalk : Type 0
SoleWalk = (f to limit : ℕ) (m : List ℕ) (n a k : ℕ) (cs ds : List Made) (e d : ℕ) (m' m'' : List ℕ)
    → Walk f to limit m n a k cs e m' → Walk f to limit m n a k ds d m'' → (cs ≡ ds) × (e ≡ d) × (m' ≡ m'')

-- A WALK THAT ENDS 2 HAS BEEN EVERYWHERE, with a command at least for each station
abbrev pub FinishedWalk : Type 0
FinishedWalk = (f to limit : ℕ) (m : List ℕ) (n a k : ℕ) (cs : List Made) (m' : List ℕ) → n ≤ to → Walk f to limit m n a k cs 2 m'
    → Everywhere n a to cs × (to - n + 1 ≤ length cs)
