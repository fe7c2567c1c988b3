-- LAM commands (RULES 2.3, 2.18 to 2.21): one source each, accepted at A below s.
use Rattle.std.specs.Prelude.{ℕ, List, ltb}
use Rattle.word24.specs.Word.{bit_of}
use Rattle.station.specs.Block.{status_of, request_of, sources_of, clear_status_bit, set_mask_bit, clear_mask_bit}
use Rattle.station.specs.Outcome.{Outcome, accept, done, tells}

-- accepted at A below s
abbrev pub lam : List ℕ → ℕ → Outcome → Outcome
lam b a o = accept (ltb a (sources_of b)) b o

-- F8 gives Q = status AND mask of source A
unfoldable pub test_lam_of : List ℕ → ℕ → Outcome
test_lam_of b a = lam b a (tells b (bit_of a (request_of b)))

-- F27 gives Q = status
unfoldable pub test_status_of : List ℕ → ℕ → Outcome
test_status_of b a = lam b a (tells b (bit_of a (status_of b)))

-- F10 clears the status bit
unfoldable pub clear_lam_of : List ℕ → ℕ → Outcome
clear_lam_of b a = lam b a (done (clear_status_bit b a))

-- F24 clears the mask bit
unfoldable pub disable_of : List ℕ → ℕ → Outcome
disable_of b a = lam b a (done (clear_mask_bit b a))

-- F26 sets the mask bit
unfoldable pub enable_of : List ℕ → ℕ → Outcome
enable_of b a = lam b a (done (set_mask_bit b a))
