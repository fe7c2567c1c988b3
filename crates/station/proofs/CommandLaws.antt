-- Every command keeps a fit block fit and its module the same: each function, then all 32 codes at once.
-- Assumes nothing.
use Prim.Native.Nat.{ℕ, ◌+◌, ◌-◌, ◌≤◌, ◌<◌, ◌^◌, ◌%◌}
use mathlib.Core.Path.{◌≡◌, refl}
use mathlib.Core.List.{List, [], ◌∷◌}
use mathlib.Core.Bool.{Bool, true, false, cond, ◌&&◌}
use native.Mathlib.Omega.{arith}
use borrow.Author.Tests.{ltb-true, eqb-true, eqb-false}
use lib.Pow.{pow_pos}
use lib.Bits.{or_lt}
use lib.Dec.{ltb, eqb}
use Rattle.word24.specs.Word.{sum_of, carry_of}
use Rattle.word24.proofs.BitLaws.{low-bits-lt}
use Rattle.kinds.specs.Cases.{is_one_of, Case}
use Rattle.station.specs.Block.{kind_of, count_of, status_of, mask_of, head_of, fill_of, register_of, with_register, clear_status_bit, is_buffer, sources_of, FitBlock}
use Rattle.station.specs.Outcome.{Outcome, accept, not_accepted, tells}
use Rattle.station.specs.Buffer.{unless_empty, shortened_of, without_oldest, buffer_read_of, buffer_read_complement_of, buffer_read_and_clear_of, buffer_clear_of}
use Rattle.station.specs.Group1.{group1, register_kinds, read_of, read_and_clear_of, read_complement_of, clear_of}
use Rattle.station.specs.Group1.{overwrite_of, selective_set_of, selective_clear_of, added_of, execute_of}
use Rattle.station.specs.Lam.{lam, test_lam_of, test_status_of, clear_lam_of, disable_of, enable_of}
use Rattle.station.specs.Group2.{group2, low_of, read_group2_of, clear_group2_of, overwrite_group2_of, selective_set_group2_of, selective_clear_group2_of}
use Rattle.station.specs.Command.{functions_of, command_of}
use Rattle.station.specs.Kept.{Kept}
use Rattle.kinds.proofs.TestLaws.{both-fst, both-snd, by_cases, one-of-only, one-of-apart, EachCase, case-all, Rest, case-else}
use Rattle.station.proofs.KindTable.{sources-at}
use Rattle.station.proofs.BlockLaws.{sources-same, kept_here, kept_then, kept-status, kept-mask, bit-set-below, bits-clear-below}
use Rattle.station.proofs.BlockLaws.{kept-status-bit-when, kept_register, kept-moved, kept-zeroed}

-- a code of no case is not accepted
pub command-else : (b : List ℕ) (a f w : ℕ) → Rest Unit f (functions_of b a w) → command_of b a f w ≡ not_accepted b
unfolding command_of
command-else b a f w h = (case-else Unit f (functions_of b a w) (not_accepted b) h).1

-- ---- a buffer memory without its oldest word
kept-shortened : (b : List ℕ) → FitBlock b → kind_of b ≡ 4 → 1 ≤ fill_of b → Kept b (shortened_of b)
kept-shortened b f k p =
    let fill = f.fill in
    let head = f.head in
    kept-moved b (head_of b) 0 ((head_of b + 1) % 16) (fill_of b - 1) f k f.head (omega arith) (omega arith) (omega arith)
    (λ i t h. (λ e. refl, λ n. omega arith))

pub kept-without-oldest : (b : List ℕ) → FitBlock b → kind_of b ≡ 4 → 1 ≤ fill_of b → Kept b (without_oldest b)
unfolding without_oldest
kept-without-oldest b f k p =
    let s = kept-shortened b f k p in
    by_cases (Kept b) (eqb (fill_of b) 1) (clear_status_bit (shortened_of b) 0) (shortened_of b)
    (λ e. kept_then s (kept-status (shortened_of b) _ s.fit (bits-clear-below (status_of (shortened_of b)) 1 _ s.fit.status)))
    (λ e. s)

-- ---- a scaler with v added
pub kept-added : (b : List ℕ) (a v : ℕ) → FitBlock b → kind_of b ≡ 1 → a < 16 → a < count_of b → Kept b (added_of b a v)
unfolding added_of
kept-added b a v f k s l =
    let r = kept_register b a (sum_of (register_of b a) v) f s (λ e. omega arith) l (omega arith) in
    kept_then r
    (kept-status-bit-when (carry_of (register_of b a) v) (with_register b a (sum_of (register_of b a) v)) a r.fit
    (omega (arith, sources-at b 1 k, sources-same r.same)))

-- ---- each function, from a fit block b
module _ (b : List ℕ) (f : FitBlock b) where
  abbrev Keeps : Outcome → Type 0
  Keeps o = Kept b o.block

  stays : Kept b b
  stays = kept_here f

  kept-accept : (t : Bool) (o : Outcome) → (t ≡ true → Keeps o) → Keeps (accept t b o)
  kept-accept t o h = by_cases Keeps t o (not_accepted b) h (λ e. stays)

  module _ (a : ℕ) (s : a < 16) where
    -- Group 1, at a register of a module that is no buffer memory
    kept-group1 : (kinds : List ℕ) (o : Outcome) → (is_one_of (kind_of b) kinds ≡ true → a < count_of b → Keeps o) → Keeps (group1 kinds b a o)
    kept-group1 kinds o h =
        kept-accept (is_one_of (kind_of b) kinds && ltb a (count_of b)) o
        (λ e. h (both-fst (is_one_of (kind_of b) kinds) (ltb a (count_of b)) e) (ltb-true _ _ (both-snd (is_one_of (kind_of b) kinds) (ltb a (count_of b)) e)))

    kept_store : (kinds : List ℕ) (v : ℕ) → is_one_of 4 kinds ≡ false → v < 2 ^ 24 → is_one_of (kind_of b) kinds ≡ true → a < count_of b → Kept b (with_register b a v)
    kept_store kinds v lacks small h l = kept_register b a v f s (one-of-apart (kind_of b) 4 kinds h lacks) l small

    -- F0, F2, F3 and F9, by whether the module is a buffer memory
    kept_either : (o p : Outcome) → (kind_of b ≡ 4 → Keeps o) → (is_one_of (kind_of b) register_kinds ≡ true → a < count_of b → Keeps p)
        → Keeps (cond (is_buffer b) o (group1 register_kinds b a p))
    kept_either o p h g = by_cases Keeps (is_buffer b) o (group1 register_kinds b a p) (λ e. h (eqb-true _ _ e)) (λ e. kept-group1 register_kinds p g)

    kept-filled : (o : Outcome) → (1 ≤ fill_of b → Keeps o) → Keeps (accept (eqb a 0) b (unless_empty b o))
    kept-filled o h =
        kept-accept (eqb a 0) (unless_empty b o)
        (λ e. by_cases Keeps (eqb (fill_of b) 0) (tells b 0) o (λ e. stays) (λ e. h (let n = eqb-false (fill_of b) 0 e in omega arith)))

    kept_read : Keeps (read_of b a)
    unfolding read_of buffer_read_of
    kept_read = kept_either _ _ (λ k. kept-filled _ (λ p. stays)) (λ h l. stays)

    kept-read-complement : Keeps (read_complement_of b a)
    unfolding read_complement_of buffer_read_complement_of
    kept-read-complement = kept_either _ _ (λ k. kept-filled _ (λ p. stays)) (λ h l. stays)

    kept-read-and-clear : Keeps (read_and_clear_of b a)
    unfolding read_and_clear_of buffer_read_and_clear_of
    kept-read-and-clear =
        kept_either _ _ (λ k. kept-filled _ (λ p. kept-without-oldest b f k p)) (kept_store register_kinds 0 refl (omega arith))

    kept-clear : Keeps (clear_of b a)
    unfolding clear_of buffer_clear_of
    kept-clear =
        kept_either _ _
        (λ k. kept-accept (eqb a 0) _ (λ e. kept-zeroed b _ (mask_of b) f (bits-clear-below (status_of b) 1 _ f.status) f.mask))
        (kept_store register_kinds 0 refl (omega arith))

    kept-overwrite : (w : ℕ) → w < 2 ^ 24 → Keeps (overwrite_of b a w)
    unfolding overwrite_of
    kept-overwrite w lw = kept-group1 (2 ∷ 5 ∷ []) _ (kept_store (2 ∷ 5 ∷ []) w refl lw)

    kept-selective-set : (w : ℕ) → w < 2 ^ 24 → Keeps (selective_set_of b a w)
    unfolding selective_set_of
    kept-selective-set w lw = kept-group1 (2 ∷ []) _ (kept_store (2 ∷ []) _ refl (or_lt 24 (register_of b a) w (f.register a s) lw))

    kept-selective-clear : (w : ℕ) → Keeps (selective_clear_of b a w)
    unfolding selective_clear_of
    kept-selective-clear w = kept-group1 (2 ∷ []) _ (kept_store (2 ∷ []) _ refl (bits-clear-below (register_of b a) w _ (f.register a s)))

    kept-execute : Keeps (execute_of b a)
    unfolding execute_of
    kept-execute = kept-group1 (1 ∷ []) _ (λ h l. kept-added b a 1 f (one-of-only (kind_of b) 1 h) s l)

    -- LAM, at a source that there is
    kept-of-lam : (o : Outcome) → (a < sources_of b → Keeps o) → Keeps (lam b a o)
    kept-of-lam o h = kept-accept (ltb a (sources_of b)) o (λ e. h (ltb-true _ _ e))

    kept-test-lam : Keeps (test_lam_of b a)
    unfolding test_lam_of
    kept-test-lam = kept-of-lam _ (λ p. stays)

    kept-test-status : Keeps (test_status_of b a)
    unfolding test_status_of
    kept-test-status = kept-of-lam _ (λ p. stays)

    kept-clear-lam : Keeps (clear_lam_of b a)
    unfolding clear_lam_of
    kept-clear-lam = kept-of-lam _ (λ p. kept-status b _ f (bits-clear-below (status_of b) (2 ^ a) _ f.status))

    kept-disable : Keeps (disable_of b a)
    unfolding disable_of
    kept-disable = kept-of-lam _ (λ p. kept-mask b _ f (bits-clear-below (mask_of b) (2 ^ a) _ f.mask))

    kept-enable : Keeps (enable_of b a)
    unfolding enable_of
    kept-enable = kept-of-lam _ (λ p. kept-mask b _ f (bit-set-below b (mask_of b) a f.mask p))

    -- Group 2
    kept-group2 : (cs : List (Case Outcome)) → EachCase Keeps a cs → Keeps (group2 b a cs)
    unfolding group2
    kept-group2 cs h = kept-accept (ltb 0 (sources_of b)) _ (λ e. case-all Keeps a cs (not_accepted b) h stays)

    low_below : (w : ℕ) → low_of b w < 2 ^ sources_of b
    low_below w = low-bits-lt (sources_of b) w

    kept-read-group2 : Keeps (read_group2_of b a)
    unfolding read_group2_of
    kept-read-group2 = kept-group2 _ (λ e. stays, (λ e. stays, (λ e. stays, tt)))

    kept-clear-group2 : Keeps (clear_group2_of b a)
    unfolding clear_group2_of
    kept-clear-group2 = kept-group2 _ (λ e. kept-status b 0 f (pow_pos _), (λ e. kept-mask b 0 f (pow_pos _), tt))

    kept-overwrite-group2 : (w : ℕ) → Keeps (overwrite_group2_of b a w)
    unfolding overwrite_group2_of
    kept-overwrite-group2 w = kept-group2 _ (λ e. kept-mask b _ f (low_below w), tt)

    kept-selective-set-group2 : (w : ℕ) → Keeps (selective_set_group2_of b a w)
    unfolding selective_set_group2_of
    kept-selective-set-group2 w = kept-group2 _ (λ e. kept-mask b _ f (or_lt (sources_of b) (mask_of b) (low_of b w) f.mask (low_below w)), tt)

    kept-selective-clear-group2 : (w : ℕ) → Keeps (selective_clear_group2_of b a w)
    unfolding selective_clear_group2_of
    kept-selective-clear-group2 w =
        kept-group2 _ (
          λ e. kept-status b _ f (bits-clear-below (status_of b) (low_of b w) _ f.status),
          (λ e. kept-mask b _ f (bits-clear-below (mask_of b) (low_of b w) _ f.mask), tt),
        )

    -- all codes
    kept-functions : (k w : ℕ) → w < 2 ^ 24 → EachCase Keeps k (functions_of b a w)
    unfolding functions_of
    kept-functions k w lw = (
      λ e. kept_read,
      (
        λ e. kept-read-group2,
        (
          λ e. kept-read-and-clear,
          (
            λ e. kept-read-complement,
            (
              λ e. kept-test-lam,
              (
                λ e. kept-clear,
                (
                  λ e. kept-clear-lam,
                  (
                    λ e. kept-clear-group2,
                    (
                      λ e. kept-overwrite w lw,
                      (
                        λ e. kept-overwrite-group2 w,
                        (
                          λ e. kept-selective-set w lw,
                          (
                            λ e. kept-selective-set-group2 w,
                            (
                              λ e. kept-selective-clear w,
                              (
                                λ e. kept-selective-clear-group2 w,
                                (λ e. kept-disable, (λ e. kept-execute, (λ e. kept-enable, (λ e. kept-test-status, tt)))),
                              ),
                            ),
                          ),
                        ),
                      ),
                    ),
                  ),
                ),
              ),
            ),
          ),
        ),
      ),
    )

    pub command-kept : (k w : ℕ) → w < 2 ^ 24 → Kept b (command_of b a k w).block
    unfolding command_of
    command-kept k w lw = case-all Keeps k (functions_of b a w) (not_accepted b) (kept-functions k w lw) stays
