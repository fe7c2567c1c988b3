-- Demand 3, carried to two lists of steps lent as words and run on two crates.
use Rattle.std.specs.Prelude.{ℕ, ◌<◌, ◌≡◌, List, get_or}
use Rattle.regroup.specs.Lists.{Rearranged}
use Rattle.controller.specs.Steps.{Order, touches}
use Rattle.controller.specs.Regrouping.{beyond}
use Rattle.lists.specs.Words.{part}
use Rattle.lists.specs.Runs.{Ran}

-- of two lists as they are lent (`orders_of`) the second is the rearrangement p of the first
abbrev pub RearrangedWords : (first second : List Order) (p : List ℕ) → Type 0
RearrangedWords first second p = Rearranged touches beyond first second p

-- two runs leave the crate alike, and so they leave, at each of the second list's places, the four words of the answer and the 512 words of the buffer
abbrev pub AlikeWords : (first second : Ran) (count : ℕ) (p : List ℕ) → Type 0
AlikeWords x y count p =
    (y.memory ≡ x.memory)
    × ((k : ℕ) → k < count
    → (part 4 y.answers k ≡ part 4 x.answers (get_or p k 0)) × (part 512 y.buffers k ≡ part 512 x.buffers (get_or p k 0)))
