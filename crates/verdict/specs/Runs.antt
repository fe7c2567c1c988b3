-- Two lists that were compared, and then run as they are lent: what the comparison says of the runs.
use Rattle.std.specs.Prelude.{◌≡◌, true, List, ℕ, ◌*◌, ◌≤◌, ◌<◌, length, Ok, Option, None, Some}
use Rattle.step.specs.Verdict.{is_fine, verdict_of}
use Rattle.lists.specs.Words.{reading_of, part, orders_of}
use Rattle.lists.specs.Runs.{Ran, list_of}
use Rattle.rehearsal.specs.Pairs.{RearrangedWords, AlikeWords}
use Rattle.verdict.specs.Counted.{lent, count}
use Rattle.verdict.specs.Compared.{Lawful, LentAlike}
use Rattle.verdict.specs.declared.Parted.{Parted}

-- the whole list us, run from the memory m with its answers and buffers lent
abbrev pub run_of : (m us answers buffers : List ℕ) → Ran
run_of m us answers buffers = list_of m (count us) us answers buffers

-- The second list is the rearrangement p of the first, a refused step counted by its number; so where both are run from one memory, with buffers handed as p
-- says, and neither run is refused, the two runs end alike.
abbrev pub SameRuns : List ℕ → List ℕ → Type 0
SameRuns us ws =
    (p : List ℕ) × Lawful us ws p
    × ((m a1 b1 a2 b2 : List ℕ) → LentAlike us b1 ws b2 p → (run_of m us a1 b1).verdict ≡ Ok tt → (run_of m ws a2 b2).verdict ≡ Ok tt
    → AlikeWords (run_of m us a1 b1) (run_of m ws a2 b2) (count ws) p)

-- each step that is fine with 512 words of 0 is fine with its own part of the buffers. So it is where each part has 512 words, each of 24 bits
-- (`Narrow-Good`); a put of lent words that has a wider one is refused, touches no station, and may change places with any step.
abbrev pub GoodWords : (ws buffers : List ℕ) → Type 0
GoodWords ws b = (k : ℕ) → k < count ws → is_fine (verdict_of (reading_of (part 6 ws k)) lent) ≡ true → is_fine (verdict_of (reading_of (part 6 ws k)) (part 512 b k)) ≡ true

-- no rearrangement of the steps themselves, with the same fields and the same buffer contents, keeps the order of any two that touch a station in common:
-- whatever good words the steps are handed
abbrev pub NeverRearranged : List ℕ → List ℕ → Type 0
NeverRearranged us ws = (b1 b2 p : List ℕ) → GoodWords ws b2 → RearrangedWords (orders_of us b1 (count us)) (orders_of ws b2 (count ws)) p → ⊥

-- what a comparison says of the runs
abbrev pub ComparedRuns : List ℕ → List ℕ → Option Parted → Type 0
ComparedRuns us ws None = SameRuns us ws
ComparedRuns us ws (Some d) = NeverRearranged us ws

-- each step is handed the same 512 words w: then the buffers are handed as any rearrangement says (`lent-equal`)
abbrev pub EachLent : (us buffers w : List ℕ) → Type 0
EachLent us b w = (512 * count us ≤ length b) × ((k : ℕ) → k < count us → part 512 b k ≡ w)
