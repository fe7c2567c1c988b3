-- The Station Number Register stands beside I (RULES 5.17): only steps that touch every station change it or read it.
use Rattle.std.specs.Prelude.{ℕ, ◌≤◌, ◌≡◌, false, List, get_or}
use Rattle.blocks.specs.Blocks.{snr_of}
use Rattle.dataway.specs.Crate.{FitCrate}
use Rattle.controller.specs.Steps.{Order, leaves, gives, touches}

-- the step does not touch every station: here is one that it does not
abbrev pub Spares : Order → Type 0
Spares o = (n : ℕ) × (1 ≤ n) × (n ≤ 23) × (touches o n ≡ false)

-- the memories m and m' differ in the register at most
abbrev pub ButRegister : List ℕ → List ℕ → Type 0
ButRegister m m' = (i : ℕ) → (i ≡ 1 → ⊥) → get_or m i 0 ≡ get_or m' i 0

-- A STEP THAT DOES NOT TOUCH ALL 23 LEAVES THE REGISTER AS IT WAS, from any memory
abbrev pub RegisterKept : Type 0
RegisterKept = (m : List ℕ) (o : Order) → Spares o → snr_of (leaves m o) ≡ snr_of m

-- AND DOES NOT READ IT: from two fit crates that differ in the register alone it gives back the same answer and the same buffer, and what it leaves differs in
-- the register alone
abbrev pub RegisterUnread : Type 0
RegisterUnread = (m m' : List ℕ) (o : Order) → FitCrate m → FitCrate m' → ButRegister m m' → Spares o
    → (gives m o ≡ gives m' o) × ButRegister (leaves m o) (leaves m' o)
