-- The transfers keep to their stations: a scan and a put to those from N to `to`, a Repeat and a Stop to N. Their cycles are commands, and a command keeps to
-- its station.
-- Assumes nothing.
use mathlib.Core.Path.{◌≡◌}
use mathlib.Core.Bool.{Bool, true}
use mathlib.Core.List.{List, []}
use Prim.Native.Nat.{ℕ, ◌≤◌}
use native.Mathlib.Omega.{arith}
use lib.ListN.{get_or}
use Rattle.regroup.specs.Local.{Local}
use Rattle.dataway.specs.Crate.{FitCrate}
use Rattle.dataway.proofs.Locality.{crate-size, local-command}
use Rattle.transfer.specs.Cycle.{told, reads}
use Rattle.transfer.specs.Scan.{scan_bound, scanning, scan_of}
use Rattle.transfer.specs.Repeat.{repeat_of}
use Rattle.transfer.specs.Stop.{stop_of}
use Rattle.transfer.specs.Put.{writes, put_of}
use Rattle.transfer.proofs.Keeping.{keeps-scan, keeps-repeat, keeps-stop}
use Rattle.transfer.proofs.Putting.{Narrow}

local-read : (on : ℕ → Bool) (f n a k : ℕ) → 1 ≤ n → n ≤ 23 → a ≤ 15 → on n ≡ true
    → Local FitCrate on (λ (m : List ℕ). (reads f m n a k).memory) (λ (m : List ℕ). (reads f m n a k).reply)
local-read on f n a k lo hi low here = local-command on n lo hi here a f 0 low (omega arith)

local-write : (on : ℕ → Bool) (offered : List ℕ) → Narrow offered → (n a k : ℕ) → 1 ≤ n → n ≤ 23 → a ≤ 15 → on n ≡ true
    → Local FitCrate on (λ (m : List ℕ). (writes offered m n a k).memory) (λ (m : List ℕ). (writes offered m n a k).reply)
local-write on offered narrow n a k lo hi low here = local-command on n lo hi here a 16 (get_or offered k 0) low (narrow k)

module _ (n a : ℕ) (lo : 1 ≤ n) (low : a ≤ 15) where
  module _ (on : ℕ → Bool) where
    pub local-scan : (f to limit : ℕ) → to ≤ 23 → ((i : ℕ) → n ≤ i → i ≤ to → on i ≡ true)
        → Local FitCrate on (λ (m : List ℕ). (scan_of m n a f to limit).memory) (λ (m : List ℕ). told (scan_of m n a f to limit))
    unfolding scanning
    local-scan f to limit top here =
        keeps-scan FitCrate crate-size (reads f) on (local-read on f) to limit top (scan_bound to n) n a [] 0 lo low here

    pub local-put : (to limit : ℕ) (offered : List ℕ) → Narrow offered → to ≤ 23 → ((i : ℕ) → n ≤ i → i ≤ to → on i ≡ true)
        → Local FitCrate on (λ (m : List ℕ). (put_of m n a to limit offered).memory) (λ (m : List ℕ). told (put_of m n a to limit offered))
    unfolding scanning
    local-put to limit offered narrow top here =
        keeps-scan FitCrate crate-size (writes offered) on (local-write on offered narrow) to limit top (scan_bound to n) n a [] 0 lo low here

    pub local-repeat : (f limit tries : ℕ) → n ≤ 23 → on n ≡ true
        → Local FitCrate on (λ (m : List ℕ). (repeat_of m n a f limit tries).memory) (λ (m : List ℕ). told (repeat_of m n a f limit tries))
    local-repeat f limit tries hi here =
        keeps-repeat FitCrate crate-size (reads f) on (local-read on f) n a lo hi low here tries limit [] 0

    pub local-stop : (f limit : ℕ) → n ≤ 23 → on n ≡ true
        → Local FitCrate on (λ (m : List ℕ). (stop_of m n a f limit).memory) (λ (m : List ℕ). told (stop_of m n a f limit))
    local-stop f limit hi here = keeps-stop FitCrate crate-size (reads f) on (local-read on f) n a lo hi low here limit [] 0
