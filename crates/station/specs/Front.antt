-- A front event at a station, given Inhibit I (RULES 3.1 to 3.10, 3.18, 3.19).
use Rattle.std.specs.Prelude.{ℕ, ◌+◌, ◌%◌, List, [], ◌∷◌, Bool, cond, ltb, eqb}
use Rattle.word24.specs.Word.{clear_bits}
use Rattle.word24.specs.Counter.{exact_sum, mod24, raises_at}
use Rattle.kinds.specs.Cases.{Case, ◌does◌, case_of}
use Rattle.station.specs.Block.{kind_of, count_of, status_of, head_of, fill_of, register_of, with_fill, with_register, set_status_bit, set_status_bit_when}
use Rattle.station.specs.Group1.{added_of}

-- the block that an event leaves, and its digit
pub record Event : Type 0 where
  pub block : List ℕ
  pub taken : ℕ

-- whether a bit of the status word `after` is not set in `before`
abbrev pub rises : (before after : ℕ) → Bool
rises before after = ltb 0 (clear_bits after before)

-- whether a status bit went from 0 to 1, from the block b to the block c
abbrev pub raised : (b c : List ℕ) → Bool
raised b c = rises (status_of b) (status_of c)

-- the digit of a taken event: 2 where it raised a status bit, else 1
abbrev pub digit_of : Bool → ℕ
digit_of up = cond up 2 1

-- taken: the block b becomes c
abbrev pub taken : (b c : List ℕ) → Event
taken b c = record { block = c; taken = digit_of (raised b c) }

-- the word is lost, and the block becomes c: 3
abbrev pub lost : List ℕ → Event
lost c = record { block = c; taken = 3 }

-- not taken: the block stays, 0
abbrev pub not_taken : List ℕ → Event
not_taken b = record { block = b; taken = 0 }

-- Input register: holds v; status bit A is set
unfoldable pub held_of : List ℕ → (a v : ℕ) → List ℕ
held_of b a v = set_status_bit (with_register b a v) a

-- Up-down counter: the register holds the sum modulo 2^24; status bit A is set
-- when the exact sum is outside the span, or is 0 while old was not 0
unfoldable pub counted_of : List ℕ → (a v : ℕ) → List ℕ
counted_of b a v =
    set_status_bit_when (raises_at (register_of b a) (exact_sum (register_of b a) v))
    (with_register b a (mod24 (exact_sum (register_of b a) v))) a

-- Buffer: v is stored at (head + fill) modulo 16, fill rises by one and status bit 0 is set;
-- at fill 16 the word is lost and status bit 1 is set
unfoldable pub stored_of : List ℕ → ℕ → Event
stored_of b v =
    cond (ltb (fill_of b) 16)
    (taken b (set_status_bit (with_fill (with_register b ((head_of b + fill_of b) % 16) v) (fill_of b + 1)) 0))
    (lost (set_status_bit b 1))

-- an event at A below r, by the kind; kinds 0 and 2: not taken, no change
unfoldable pub kind_events_of : List ℕ → (a v : ℕ) → List (Case Event)
kind_events_of b a v =
    1 does taken b (added_of b a v)
    ∷ 3 does taken b (held_of b a v)
    ∷ 4 does stored_of b v
    ∷ 5 does taken b (counted_of b a v)
    ∷ []

-- with I = 1, and at A at r or above: not taken, no change
unfoldable pub front_of : (inhibit : ℕ) → List ℕ → (a v : ℕ) → Event
front_of inhibit b a v =
    cond (eqb inhibit 1) (not_taken b)
    (cond (ltb a (count_of b)) (case_of (kind_of b) (kind_events_of b a v) (not_taken b)) (not_taken b))
