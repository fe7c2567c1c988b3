-- What X, Q and R may be: each function, then all 32 codes at once. A function gives Q as 1 or as a bit, and R as 0 or as a word of the block; so R has
-- whatever bound those words have.
-- Assumes nothing.
use Prim.Native.Nat.{ℕ, ◌≤◌, ◌<◌, ◌^◌}
use mathlib.Core.Path.{◌≡◌, refl, ap}
use mathlib.Core.List.{List, [], ◌∷◌}
use mathlib.Core.Bool.{Bool, cond, ◌&&◌}
use native.Mathlib.Omega.{arith}
use lib.Bits.{and_lt}
use lib.Dec.{ltb, eqb}
use lib.Pow.{pow_mono}
use Rattle.word24.specs.Word.{bit_of, complement_of}
use Rattle.kinds.specs.Cases.{Case, is_one_of}
use Rattle.kinds.proofs.TestLaws.{by_cases, EachCase, case-all}
use Rattle.station.specs.Block.{kind_of, count_of, status_of, mask_of, head_of, fill_of, register_of, request_of, sources_of, is_buffer, FitBlock}
use Rattle.station.specs.Outcome.{Outcome, answer, accept, not_accepted, tells}
use Rattle.station.specs.Buffer.{oldest_of, unless_empty, buffer_read_of, buffer_read_complement_of, buffer_read_and_clear_of, buffer_clear_of}
use Rattle.station.specs.Group1.{group1, register_kinds, read_of, read_and_clear_of, read_complement_of, clear_of, overwrite_of, selective_set_of, selective_clear_of, execute_of}
use Rattle.station.specs.Lam.{lam, test_lam_of, test_status_of, clear_lam_of, disable_of, enable_of}
use Rattle.station.specs.Group2.{group2, read_group2_of, clear_group2_of, overwrite_group2_of, selective_set_group2_of, selective_clear_group2_of}
use Rattle.station.specs.Command.{functions_of, command_of}
use Rattle.station.specs.Answered.{Answered, AllAnswered, QIsBit}
use Rattle.station.specs.Answered.Answered.{declined, accepted}

-- the words that a command at A of the block b may read
record Words (b : List ℕ) (a : ℕ) (Word : ℕ → Type 0) : Type 0 where
  none : Word 0
  here : Word (register_of b a)
  here-complement : Word (complement_of (register_of b a))
  oldest : Word (oldest_of b)
  oldest-complement : Word (complement_of (oldest_of b))
  status : Word (status_of b)
  mask : Word (mask_of b)
  request : Word (request_of b)

-- not accepted, or X = 1, Q is 0 or 1, and R is such a word
data Sorted (b : List ℕ) (Word : ℕ → Type 0) (o : Outcome) : Type 0 where
  out : o ≡ not_accepted b → Sorted b Word o
  taken : o.reply.x ≡ 1 → o.reply.q < 2 → Word o.reply.r → Sorted b Word o

module _ (b : List ℕ) (a w : ℕ) (Word : ℕ → Type 0) (v : Words b a Word) where
  abbrev S : Outcome → Type 0
  S o = Sorted b Word o

  s-none : S (not_accepted b)
  s-none = out refl

  s-accept : (t : Bool) (o : Outcome) → S o → S (accept t b o)
  s-accept t o h = by_cases S t o (not_accepted b) (λ e. h) (λ e. s-none)

  -- Q = 1, with a word read, or with none
  s-gives : (c : List ℕ) (r : ℕ) → Word r → S (answer c 1 1 r)
  s-gives c r h = taken refl (omega arith) h

  s-done : (c : List ℕ) → S (answer c 1 1 0)
  s-done c = s-gives c 0 v.none

  s-tells : (c : List ℕ) (q : ℕ) → q < 2 → S (answer c 1 q 0)
  s-tells c q h = taken refl h v.none

  s-group1 : (kinds : List ℕ) (o : Outcome) → S o → S (group1 kinds b a o)
  s-group1 kinds o h = s-accept (is_one_of (kind_of b) kinds && ltb a (count_of b)) o h

  -- F0, F2, F3 and F9, by whether the module is a buffer memory
  s-either : (o p : Outcome) → S o → S p → S (cond (is_buffer b) o (group1 register_kinds b a p))
  s-either o p h g = by_cases S (is_buffer b) o _ (λ e. h) (λ e. s-group1 register_kinds p g)

  s-filled : (c : List ℕ) (r : ℕ) → Word r → S (accept (eqb a 0) b (unless_empty b (answer c 1 1 r)))
  s-filled c r h = s-accept (eqb a 0) _ (by_cases S (eqb (fill_of b) 0) (tells b 0) (answer c 1 1 r) (λ e. s-tells b 0 (omega arith)) (λ e. s-gives c r h))

  s-lam : (o : Outcome) → S o → S (lam b a o)
  s-lam o h = s-accept (ltb a (sources_of b)) o h

  s-group2 : (cs : List (Case Outcome)) → EachCase S a cs → S (group2 b a cs)
  unfolding group2
  s-group2 cs h = s-accept (ltb 0 (sources_of b)) _ (case-all S a cs (not_accepted b) h s-none)

  s_read : S (read_of b a)
  unfolding read_of buffer_read_of
  s_read = s-either _ _ (s-filled b _ v.oldest) (s-gives b _ v.here)

  s-read-and-clear : S (read_and_clear_of b a)
  unfolding read_and_clear_of buffer_read_and_clear_of
  s-read-and-clear = s-either _ _ (s-filled _ _ v.oldest) (s-gives _ _ v.here)

  s-read-complement : S (read_complement_of b a)
  unfolding read_complement_of buffer_read_complement_of
  s-read-complement = s-either _ _ (s-filled b _ v.oldest-complement) (s-gives b _ v.here-complement)

  s-clear : S (clear_of b a)
  unfolding clear_of buffer_clear_of
  s-clear = s-either _ _ (s-accept (eqb a 0) _ (s-done _)) (s-done _)

  s-overwrite : S (overwrite_of b a w)
  unfolding overwrite_of
  s-overwrite = s-group1 (2 ∷ 5 ∷ []) _ (s-done _)

  s-selective-set : S (selective_set_of b a w)
  unfolding selective_set_of
  s-selective-set = s-group1 (2 ∷ []) _ (s-done _)

  s-selective-clear : S (selective_clear_of b a w)
  unfolding selective_clear_of
  s-selective-clear = s-group1 (2 ∷ []) _ (s-done _)

  s-execute : S (execute_of b a)
  unfolding execute_of
  s-execute = s-group1 (1 ∷ []) _ (s-done _)

  s-test-lam : S (test_lam_of b a)
  unfolding test_lam_of
  s-test-lam = s-lam _ (s-tells b (bit_of a (request_of b)) (omega arith))

  s-test-status : S (test_status_of b a)
  unfolding test_status_of
  s-test-status = s-lam _ (s-tells b (bit_of a (status_of b)) (omega arith))

  s-clear-lam : S (clear_lam_of b a)
  unfolding clear_lam_of
  s-clear-lam = s-lam _ (s-done _)

  s-disable : S (disable_of b a)
  unfolding disable_of
  s-disable = s-lam _ (s-done _)

  s-enable : S (enable_of b a)
  unfolding enable_of
  s-enable = s-lam _ (s-done _)

  s-read-group2 : S (read_group2_of b a)
  unfolding read_group2_of
  s-read-group2 = s-group2 _ (λ e. s-gives b _ v.status, (λ e. s-gives b _ v.mask, (λ e. s-gives b _ v.request, tt)))

  s-clear-group2 : S (clear_group2_of b a)
  unfolding clear_group2_of
  s-clear-group2 = s-group2 _ (λ e. s-done _, (λ e. s-done _, tt))

  s-overwrite-group2 : S (overwrite_group2_of b a w)
  unfolding overwrite_group2_of
  s-overwrite-group2 = s-group2 _ (λ e. s-done _, tt)

  s-selective-set-group2 : S (selective_set_group2_of b a w)
  unfolding selective_set_group2_of
  s-selective-set-group2 = s-group2 _ (λ e. s-done _, tt)

  s-selective-clear-group2 : S (selective_clear_group2_of b a w)
  unfolding selective_clear_group2_of
  s-selective-clear-group2 = s-group2 _ (λ e. s-done _, (λ e. s-done _, tt))

  -- all codes
  sorted : (f : ℕ) → S (command_of b a f w)
  unfolding command_of functions_of
  sorted f =
      case-all S f (functions_of b a w) (not_accepted b) (
        λ e. s_read,
        (
          λ e. s-read-group2,
          (
            λ e. s-read-and-clear,
            (
              λ e. s-read-complement,
              (
                λ e. s-test-lam,
                (
                  λ e. s-clear,
                  (
                    λ e. s-clear-lam,
                    (
                      λ e. s-clear-group2,
                      (
                        λ e. s-overwrite,
                        (
                          λ e. s-overwrite-group2,
                          (
                            λ e. s-selective-set,
                            (
                              λ e. s-selective-set-group2,
                              (
                                λ e. s-selective-clear,
                                (λ e. s-selective-clear-group2, (λ e. s-disable, (λ e. s-execute, (λ e. s-enable, (λ e. s-test-status, tt))))),
                              ),
                            ),
                          ),
                        ),
                      ),
                    ),
                  ),
                ),
              ),
            ),
          ),
        ),
      )
      s-none

-- Q is 0 or 1, whatever the words
pub command-q : QIsBit
command-q b a f w =
    go (sorted b a w (λ (r : ℕ). Unit {0})
    (record { none = tt; here = tt; here-complement = tt; oldest = tt; oldest-complement = tt; status = tt; mask = tt; request = tt }) f)
  where
    go : Sorted b (λ (r : ℕ). Unit {0}) (command_of b a f w) → (command_of b a f w).reply.q < 2
    go (out e) = omega (arith, ap (λ (o : Outcome). o.reply.q) e)
    go (taken x q r) = q

-- a word below 2^s has 24 bits
source-lt : (b : List ℕ) (x : ℕ) → FitBlock b → x < 2 ^ sources_of b → x < 2 ^ 24
source-lt b x g h = let p : 2 ^ sources_of b ≤ 2 ^ 16 = pow_mono g.sources in omega arith

words : (b : List ℕ) (a : ℕ) → FitBlock b → a < 16 → Words b a (λ (r : ℕ). r < 2 ^ 24)
words b a g l = record {
  none = omega arith;
  here = g.register a l;
  here-complement = omega arith;
  oldest = g.register (head_of b) g.head;
  oldest-complement = omega arith;
  status = source-lt b (status_of b) g g.status;
  mask = source-lt b (mask_of b) g g.mask;
  request = source-lt b (request_of b) g (and_lt (sources_of b) (status_of b) (mask_of b) g.status g.mask);
}

-- X, Q and R of a fit block
pub command-answered : AllAnswered
command-answered b a f w g l = go (sorted b a w (λ (r : ℕ). r < 2 ^ 24) (words b a g l) f)
  where
    go : Sorted b (λ (r : ℕ). r < 2 ^ 24) (command_of b a f w) → Answered b (command_of b a f w)
    go (out e) = declined e
    go (taken x q r) = accepted x q r
