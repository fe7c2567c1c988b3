-- The 32 functions (RULES 2.1, 2.28, 2.30): what a command with subaddress A, function F and write word W does at a station.
use Rattle.std.specs.Prelude.{ℕ, List, [], ◌∷◌}
use Rattle.kinds.specs.Cases.{Case, ◌does◌, case_of}
use Rattle.station.specs.Outcome.{Outcome, not_accepted}
use Rattle.station.specs.Group1.{read_of, read_and_clear_of, read_complement_of, clear_of, overwrite_of, selective_set_of, selective_clear_of, execute_of}
use Rattle.station.specs.Lam.{test_lam_of, clear_lam_of, disable_of, enable_of, test_status_of}
use Rattle.station.specs.Group2.{read_group2_of, clear_group2_of, overwrite_group2_of, selective_set_group2_of, selective_clear_group2_of}

-- the standard codes, by their names in IEEE 583 (Table 4)
unfoldable pub functions_of : List ℕ → (a w : ℕ) → List (Case Outcome)
functions_of b a w =
    0 does read_of b a
    ∷ 1 does read_group2_of b a
    ∷ 2 does read_and_clear_of b a
    ∷ 3 does read_complement_of b a
    ∷ 8 does test_lam_of b a
    ∷ 9 does clear_of b a
    ∷ 10 does clear_lam_of b a
    ∷ 11 does clear_group2_of b a
    ∷ 16 does overwrite_of b a w
    ∷ 17 does overwrite_group2_of b a w
    ∷ 18 does selective_set_of b a w
    ∷ 19 does selective_set_group2_of b a w
    ∷ 21 does selective_clear_of b a w
    ∷ 23 does selective_clear_group2_of b a w
    ∷ 24 does disable_of b a
    ∷ 25 does execute_of b a
    ∷ 26 does enable_of b a
    ∷ 27 does test_status_of b a
    ∷ []

-- a command; codes 4 to 7, 12 to 15, 20, 22 and 28 to 31 are not accepted
unfoldable pub command_of : List ℕ → (a f w : ℕ) → Outcome
command_of b a f w = case_of f (functions_of b a w) (not_accepted b)
