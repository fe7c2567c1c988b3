-- A command as the Type A1 crate controller sends it (RULES 2.36 to 2.44): to one station, to many, or to the controller itself.
use Rattle.std.specs.Prelude.{ℕ, zero, suc, ◌-◌, List, [], ◌∷◌, Bool, cond, leb, eqb}
use Rattle.std.specs.Int.Bits.{bit_or}
use Rattle.word24.specs.Word.{bit_of}
use Rattle.blocks.specs.Blocks.{inhibit_of, snr_of}
use Rattle.kinds.specs.Cases.{◌does◌, case_of}
use Rattle.station.specs.Command.{command_of}
use Rattle.station.specs.declared.Reply.{Reply}
use Rattle.dataway.specs.Stations.{reply_of, after_command}
use Rattle.dataway.specs.Controls.{each_station, after_z, after_c, after_i, after_snr}

-- what a command comes to: the memory that it leaves, and its answer
pub record Commanded : Type 0 where
  pub memory : List ℕ
  pub reply : Reply

abbrev pub answer : List ℕ → (x q r : ℕ) → Commanded
answer m x q r = record { memory = m; reply = record { x = x; q = q; r = r } }

-- ---- many stations
-- the stations of a pattern: station n is one of them where bit n - 1 is 1
abbrev pub is_addressed : (pattern n : ℕ) → Bool
is_addressed pattern n = eqb (bit_of (n - 1) pattern) 1

-- the answer of no station
abbrev pub silent : Reply
silent = record { x = 0; q = 0; r = 0 }

-- two answers joined: X, Q and R each the OR of theirs
abbrev pub joined : Reply → Reply → Reply
joined p t = record { x = bit_or p.x t.x; q = bit_or p.q t.q; r = bit_or p.r t.r }

-- the answer p so far joined with that of station n, where it is addressed
abbrev pub joined_where : (pattern n : ℕ) → Reply → Reply → Reply
joined_where pattern n p t = cond (is_addressed pattern n) (joined p t) p

-- the answers of those of stations 1 to k that are addressed, joined; each is the station's own, from the memory as it was
unfoldable pub replies_to : (pattern a f w k : ℕ) → List ℕ → Reply
replies_to pattern a f w zero m = silent
replies_to pattern a f w (suc k) m = joined_where pattern (suc k) (replies_to pattern a f w k m) (reply_of m (suc k) a f w)

-- the block of station n afterwards: its command's where it is addressed, else as it stands
unfoldable pub command_where : (pattern a f w n : ℕ) → List ℕ → List ℕ
command_where pattern a f w n b = cond (is_addressed pattern n) (command_of b a f w).block b

-- a command to the stations of a pattern
abbrev pub many_of : List ℕ → (pattern a f w : ℕ) → Commanded
many_of m pattern a f w = record { memory = each_station (command_where pattern a f w) 23 m; reply = replies_to pattern a f w 23 m }

-- the pattern of all 23 stations, 2^23 - 1
abbrev pub all_stations : ℕ
all_stations = 8388607

-- ---- the controller itself
-- not accepted: X = Q = R = 0, no change
abbrev pub not_accepted : List ℕ → Commanded
not_accepted m = answer m 0 0 0

-- accepted: X = 1 and R = 0, and Q = 0 where it is not given
abbrev pub obeyed : List ℕ → (q : ℕ) → Commanded
obeyed m q = answer m 1 q 0

-- N28: A8 F26 is Z, A9 F26 is C; all else is not accepted
unfoldable pub common_of : List ℕ → (a f : ℕ) → Commanded
common_of m a f =
    case_of f (26 does case_of a (8 does obeyed (after_z m) 0 ∷ 9 does obeyed (after_c m) 0 ∷ []) (not_accepted m) ∷ []) (not_accepted m)

-- N30: A8 F16 loads the Station Number Register with W; A9 F24 and F26 set I to 0 and 1, A9 F27 gives Q = I; all else is not accepted
unfoldable pub internal_of : List ℕ → (a f w : ℕ) → Commanded
internal_of m a f w =
    case_of a
    (8 does case_of f (16 does obeyed (after_snr m w) 0 ∷ []) (not_accepted m)
    ∷ 9 does case_of f (24 does obeyed (after_i m 0) 0 ∷ 26 does obeyed (after_i m 1) 0 ∷ 27 does obeyed m (inhibit_of m) ∷ []) (not_accepted m)
    ∷ [])
    (not_accepted m)

-- ---- every command: N up to 23 is a station, 24 the stations of the Station Number Register, 26 all 23, 28 and 30 the controller. With any other N a command is
-- refused before it comes here
unfoldable pub sent_of : List ℕ → (n a f w : ℕ) → Commanded
sent_of m n a f w =
    cond (leb n 23) (record { memory = after_command m n a f w; reply = reply_of m n a f w })
    (case_of n
    (24 does many_of m (snr_of m) a f w
    ∷ 26 does many_of m all_stations a f w
    ∷ 28 does common_of m a f
    ∷ 30 does internal_of m a f w
    ∷ [])
    (not_accepted m))
