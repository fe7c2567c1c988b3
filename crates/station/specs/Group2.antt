-- Group 2: the whole status and mask (RULES 2.4, 2.22 to 2.27). Accepted where s is above 0, at the subaddresses named.
use Rattle.std.specs.Prelude.{ℕ, List, [], ◌∷◌, ltb}
use Rattle.word24.specs.Word.{set_bits, clear_bits, low_bits}
use Rattle.kinds.specs.Cases.{Case, ◌does◌, case_of}
use Rattle.station.specs.Block.{status_of, mask_of, request_of, sources_of, with_status, with_mask}
use Rattle.station.specs.Outcome.{Outcome, accept, not_accepted, done, gives}

-- accepted where s is above 0, at the subaddresses of the list
unfoldable pub group2 : List ℕ → ℕ → List (Case Outcome) → Outcome
group2 b a cs = accept (ltb 0 (sources_of b)) b (case_of a cs (not_accepted b))

-- bits of W at s and above are ignored
abbrev pub low_of : List ℕ → ℕ → ℕ
low_of b w = low_bits (sources_of b) w

-- F1 reads at A12 status, A13 mask, A14 status AND mask
unfoldable pub read_group2_of : List ℕ → ℕ → Outcome
read_group2_of b a = group2 b a (12 does gives b (status_of b) ∷ 13 does gives b (mask_of b) ∷ 14 does gives b (request_of b) ∷ [])

-- F11 clears at A12 status, at A13 mask
unfoldable pub clear_group2_of : List ℕ → ℕ → Outcome
clear_group2_of b a = group2 b a (12 does done (with_status b 0) ∷ 13 does done (with_mask b 0) ∷ [])

-- F17 overwrites the mask at A13
unfoldable pub overwrite_group2_of : List ℕ → ℕ → ℕ → Outcome
overwrite_group2_of b a w = group2 b a (13 does done (with_mask b (low_of b w)) ∷ [])

-- F19 selectively sets the mask at A13
unfoldable pub selective_set_group2_of : List ℕ → ℕ → ℕ → Outcome
selective_set_group2_of b a w = group2 b a (13 does done (with_mask b (set_bits (mask_of b) (low_of b w))) ∷ [])

-- F23 selectively clears at A12 status, at A13 mask
unfoldable pub selective_clear_group2_of : List ℕ → ℕ → ℕ → Outcome
selective_clear_group2_of b a w =
    group2 b a
    (12 does done (with_status b (clear_bits (status_of b) (low_of b w)))
    ∷ 13 does done (with_mask b (clear_bits (mask_of b) (low_of b w)))
    ∷ [])
