-- What the span of a station's subaddresses gives a transfer: below r where it has A, not accepted where it has not; and it stays that of the station, since no step
-- changes the module.
-- Assumes nothing.
use Prim.Native.Nat.{ℕ, ◌<◌}
use mathlib.Core.Path.{◌≡◌, sym, ◌∙◌}
use mathlib.Core.Bool.{true, false}
use mathlib.Core.Logic.{⊎_elim}
use mathlib.Core.List.{List}
use Rattle.acceptance.specs.declared.Span.{Span}
use Rattle.acceptance.specs.Classes.{class_of, admits, is_in}
use Rattle.station.specs.Block.{kind_of, count_of, sources_of, FitBlock}
use Rattle.station.specs.Kept.{SameModule}
use Rattle.station.specs.Outcome.{not_accepted}
use Rattle.station.specs.Command.{command_of}
use Rattle.station.specs.Accepted.{Accepts, ReadFunction}
use Rattle.station.proofs.ClassLaws.{below-r, admitted}

module _ (b : List ℕ) (fit : FitBlock b) (f : ℕ) (t : Span) (h : Accepts b f t) (a : ℕ) where
  -- F0, F2 and F3 are accepted below r
  pub read_below : ReadFunction f → is_in t a ≡ true → a < count_of b
  unfolding class_of
  read_below k e =
      let g : admits (class_of (kind_of b) f) a (count_of b) (sources_of b) ≡ true = sym (h a) ∙ e in
      ⊎_elim (λ p. below-r b fit a (rw p at g)) (⊎_elim (λ p. below-r b fit a (rw p at g)) (λ p. below-r b fit a (rw p at g))) k

  -- and where the span does not have A, no command is
  pub not_in : (w : ℕ) → is_in t a ≡ false → command_of b a f w ≡ not_accepted b
  not_in w e = (admitted b fit a f w).outside (sym (h a) ∙ e)

-- the span of a block is that of every block of the same module
pub accepts-same : (b c : List ℕ) (f : ℕ) (t : Span) → SameModule b c → Accepts b f t → Accepts c f t
unfolding sources_of
accepts-same b c f t k h a = rw (k.kind, k.count) (h a)
