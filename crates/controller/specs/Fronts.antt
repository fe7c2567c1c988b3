-- What a front event answers (RULES 3.18, 3.19): said of a step as it is run, from any memory and with any buffer.
use Rattle.std.specs.Prelude.{ℕ, ◌≤◌, ◌≡◌, List, Ok}
use Rattle.blocks.specs.Blocks.{block_of, inhibit_of}
use Rattle.station.specs.Digit.{Takes, Loses, Raised, Exactly}
use Rattle.step.specs.declared.Step.TheVariants.{Front}
use Rattle.controller.specs.declared.Answer.TheVariants.{Taken}
use Rattle.controller.specs.Steps.{order, gives, leaves}

-- an event at N, A of the crate m left the crate m' and gave the digit d: 1 or 2 exactly where it is taken, 3 exactly where its word is lost; 2 exactly where
-- it is taken and some source of station N has its status bit 0 in m and 1 in m'; with 0 and 1 no source has
abbrev pub Told : (m m' : List ℕ) (n a d : ℕ) → Type 0
Told m m' n a d =
    (d ≤ 3)
    × Exactly ((1 ≤ d) × (d ≤ 2)) (Takes (inhibit_of m) (block_of m n) a)
    × Exactly (d ≡ 3) (Loses (inhibit_of m) (block_of m n) a)
    × Exactly (d ≡ 2) (Takes (inhibit_of m) (block_of m n) a × Raised (block_of m n) (block_of m' n))
    × (d ≤ 1 → Raised (block_of m n) (block_of m' n) → ⊥)

-- EVERY FRONT EVENT THAT IS NOT REFUSED
abbrev pub FrontTold : Type 0
FrontTold = (m : List ℕ) (n a v d : ℕ) (b : List ℕ)
    → (gives m (order (Ok (Front n a v)) b)).answer ≡ Taken d
    → Told m (leaves m (order (Ok (Front n a v)) b)) n a d
