-- An empty station: no command is accepted and no event taken there, nothing changes, and it does not request. So it is with a station that its left neighbour
-- covers, since that is empty.
-- Assumes nothing.
use Prim.Native.Nat.{ℕ, ◌<◌, ◌^◌}
use mathlib.Core.Path.{◌≡◌, refl}
use mathlib.Core.List.{List}
use native.Mathlib.Omega.{arith}
use lib.Bits.{and_le_l}
use lib.Dec.{ltb, eqb}
use Rattle.acceptance.specs.Classes.{admits}
use Rattle.kinds.specs.Cases.{case_of}
use Rattle.kinds.proofs.TestLaws.{by_cases}
use Rattle.station.specs.Block.{kind_of, count_of, status_of, mask_of, request_of, FitBlock}
use Rattle.station.specs.Outcome.{not_accepted}
use Rattle.station.specs.Command.{command_of}
use Rattle.station.specs.Front.{Event, not_taken, kind_events_of, front_of}
use Rattle.station.proofs.KindTable.{sources-at}
use Rattle.station.proofs.ClassLaws.{empty-class, admitted}

module _ (b : List ℕ) (fit : FitBlock b) (k : kind_of b ≡ 0) where
  -- its class is none, whatever the function
  pub empty-command : (a f w : ℕ) → command_of b a f w ≡ not_accepted b
  unfolding admits
  empty-command a f w = (admitted b fit a f w).outside (rw (k, empty-class f))

  abbrev Lost : Event → Type 0
  Lost e = e ≡ not_taken b

  pub empty-front : (inhibit a v : ℕ) → front_of inhibit b a v ≡ not_taken b
  unfolding front_of kind_events_of
  empty-front inhibit a v =
      by_cases Lost (eqb inhibit 1) (not_taken b) _ (λ e. refl)
      (λ e. by_cases Lost (ltb a (count_of b)) (case_of (kind_of b) (kind_events_of b a v) (not_taken b)) (not_taken b) (λ e. rw k) (λ e. refl))

  -- it has no source, so its status is 0
  pub empty-request : request_of b ≡ 0
  empty-request =
      let s : status_of b < 2 ^ 0 = rw (sources-at b 0 k) at fit.status in
      omega (arith, and_le_l (status_of b) (mask_of b))
