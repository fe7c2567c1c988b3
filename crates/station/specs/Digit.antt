-- What the digit of a front event tells (RULES 3.18, 3.19), and that nothing else changed (RULES 3.20): of every event.
use Rattle.std.specs.Prelude.{ℕ, ◌+◌, ◌<◌, ◌≤◌, ◌^◌, ◌%◌, ◌≡◌, List, [], ◌∷◌, cond, ltb, eqb}
use Rattle.word24.specs.Word.{as_bit, bit_of}
use Rattle.kinds.specs.Cases.{Case, ◌does◌, case_of, is_one_of}
use Rattle.station.specs.Block.{kind_of, count_of, status_of, head_of, fill_of, with_fill, with_register, set_status_bit, sources_of, FitBlock}
use Rattle.station.specs.Group1.{added_of}
use Rattle.station.specs.Front.{Event, held_of, counted_of, front_of}

-- ---- document 01's event: it answers 1 where it is taken, else 0. What scaler, input register and counter do to their block is Group1's and Front's
-- the event that leaves c and answers d
abbrev pub answered : ℕ → List ℕ → Event
answered d c = record { block = c; taken = d }

-- Buffer: taken at fill below 16; at fill 16 status bit 1 is set, and the event is not taken
unfoldable pub former_stored_of : List ℕ → ℕ → Event
former_stored_of b v =
    cond (ltb (fill_of b) 16)
    (answered 1 (set_status_bit (with_fill (with_register b ((head_of b + fill_of b) % 16) v) (fill_of b + 1)) 0))
    (answered 0 (set_status_bit b 1))

-- an event at A below r, by the kind
unfoldable pub former_events_of : List ℕ → (a v : ℕ) → List (Case Event)
former_events_of b a v =
    1 does answered 1 (added_of b a v)
    ∷ 3 does answered 1 (held_of b a v)
    ∷ 4 does former_stored_of b v
    ∷ 5 does answered 1 (counted_of b a v)
    ∷ []

-- with I = 1, at A at r or above, and in kinds 0 and 2: not taken, no change
unfoldable pub former_front_of : (inhibit : ℕ) → List ℕ → (a v : ℕ) → Event
former_front_of inhibit b a v =
    cond (eqb inhibit 1) (answered 0 b)
    (cond (ltb a (count_of b)) (case_of (kind_of b) (former_events_of b a v) (answered 0 b)) (answered 0 b))

-- an event with document 01's answer: 1 for the digits 1 and 2, 0 for 0 and 3
abbrev pub formerly : Event → Event
formerly e = answered (as_bit (is_one_of e.taken (1 ∷ 2 ∷ []))) e.block

-- THE MEMORY DOES NOT MOVE: at every block, every event leaves the block that document 01's leaves, and is taken where that is taken
abbrev pub AsBefore : Type 0
AsBefore = (inhibit : ℕ) (b : List ℕ) (a v : ℕ) → formerly (front_of inhibit b a v) ≡ former_front_of inhibit b a v

-- ---- what each digit tells
-- an event with the word v at A of the fit block b, under Inhibit I
pub record Sent (i : ℕ) (b : List ℕ) (a v : ℕ) : Type 0 where
  pub inhibit : i ≤ 1
  pub fit : FitBlock b
  pub subaddress : a ≤ 15
  pub word : v < 2 ^ 24

-- the module takes words: it is of kind 1, 3 or 5, or a buffer memory that is not full
pub data Open (b : List ℕ) : Type 0 where
  scaler : kind_of b ≡ 1 → Open b
  input : kind_of b ≡ 3 → Open b
  unfull : kind_of b ≡ 4 → fill_of b < 16 → Open b
  counter : kind_of b ≡ 5 → Open b

-- the event is taken: I is 0, A is below r, and the module takes words
abbrev pub Takes : (i : ℕ) → List ℕ → (a : ℕ) → Type 0
Takes i b a = (i ≡ 0) × (a < count_of b) × Open b

-- its word is lost: I is 0, A is 0, and the module is a full buffer memory
abbrev pub Loses : (i : ℕ) → List ℕ → (a : ℕ) → Type 0
Loses i b a = (i ≡ 0) × (a ≡ 0) × (kind_of b ≡ 4) × (fill_of b ≡ 16)

-- some source has its status bit 0 in the block b and 1 in the block c
abbrev pub Raised : (b c : List ℕ) → Type 0
Raised b c = (k : ℕ) × (k < sources_of b) × (bit_of k (status_of b) ≡ 0) × (bit_of k (status_of c) ≡ 1)

-- P exactly where Q
abbrev pub Exactly : Type 0 → Type 0 → Type 0
Exactly P Q = (P → Q) × (Q → P)

-- the digit is 0 to 3; it is 1 or 2 exactly where the event is taken, and 3 exactly where its word is lost
abbrev pub DigitWhere : Type 0
DigitWhere = (i : ℕ) (b : List ℕ) (a v : ℕ) → Sent i b a v
    → ((front_of i b a v).taken ≤ 3)
    × Exactly ((1 ≤ (front_of i b a v).taken) × ((front_of i b a v).taken ≤ 2)) (Takes i b a)
    × Exactly ((front_of i b a v).taken ≡ 3) (Loses i b a)

-- it is 2 exactly where a taken event raised a status bit; with 0 and 1 none went up
abbrev pub TwoWhereRaised : Type 0
TwoWhereRaised = (i : ℕ) (b : List ℕ) (a v : ℕ) → Sent i b a v
    → Exactly ((front_of i b a v).taken ≡ 2) (Takes i b a × Raised b (front_of i b a v).block)
    × ((front_of i b a v).taken ≤ 1 → Raised b (front_of i b a v).block → ⊥)

-- no event clears a status bit
abbrev pub NoneCleared : Type 0
NoneCleared = (i : ℕ) (b : List ℕ) (a v : ℕ) → Sent i b a v → (k : ℕ) → bit_of k (status_of b) ≤ bit_of k (status_of (front_of i b a v).block)

-- and so it is 2 exactly where a taken event changed the status word
abbrev pub TwoWhereChanged : Type 0
TwoWhereChanged = (i : ℕ) (b : List ℕ) (a v : ℕ) → Sent i b a v
    → Exactly ((front_of i b a v).taken ≡ 2) (Takes i b a × (status_of (front_of i b a v).block ≡ status_of b → ⊥))
