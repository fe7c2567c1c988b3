-- A module of a crate line: where it is fine, it is one of the table of kinds and its station is not covered, and so it may be put in.
-- Assumes nothing.
use Prim.Native.Nat.{ℕ}
use mathlib.Core.Path.{◌≡◌, refl, sym, ap, subst, ◌∙◌}
use mathlib.Core.List.{List}
use Rattle.blocks.specs.Blocks.{word}
use Rattle.kinds.specs.Table.{FitModule}
use Rattle.kinds.specs.declared.Module.{Module}
use Rattle.dataway.specs.Crate.{FitCrate}
use Rattle.dataway.specs.Stations.{with_module}
use Rattle.dataway.proofs.ModuleLaws.{module-fit}
use Rattle.step.specs.Verdict.{is_fine}
use Rattle.step.specs.Modules.{module_verdict}
use Rattle.step.proofs.Modules.{free-fine, module-fine}
use Rattle.step.specs.declared.Refusal.{Refusal}
use Rattle.controller.specs.Placing.{place_verdict, judged_module_of, place_of}
use Rattle.std.specs.Prelude.{Ok, Err}
use Rattle.step.specs.Results.{ModuleLine, Verdict}

-- what `put_module` asks for
pub module-good : (previous covered : ℕ) (p : Module) (v : Verdict) → v ≡ module_verdict previous covered p → v ≡ Ok tt → FitModule p
module-good previous covered p v e h = module-fine previous covered p (ap is_fine (sym e ∙ h))

-- the two ways of a line that holds a module
module _ (m : List ℕ) (previous : ℕ) (p : Module) (v : Verdict) (e : v ≡ place_verdict m previous p) where
  pub module-refused : (q : Refusal) → v ≡ Err q → place_of m previous (Ok p) ≡ record { verdict = Err q; memory = m }
  unfolding place_of
  module-refused q h = ap (λ (w : Verdict). judged_module_of w p m) (sym e ∙ h)

  pub module-placed : (m' : List ℕ) → v ≡ Ok tt → m' ≡ with_module m p → place_of m previous (Ok p) ≡ record { verdict = Ok tt; memory = m' }
  unfolding place_of
  module-placed m' h g = ap (λ (w : Verdict). judged_module_of w p m) (sym e ∙ h) ∙ rw g

  -- a crate with the module in it is fit
  pub placed-fit : (m' : List ℕ) → v ≡ Ok tt → m' ≡ with_module m p → FitCrate m → FitCrate m'
  placed-fit m' h g f =
      let covered = word m p.n 7 in
      subst FitCrate (sym g) (module-fit m p f (module-good previous covered p v e h) (free-fine previous covered p (ap is_fine (sym e ∙ h))))

-- a crate line leaves a fit crate fit, whatever it says and whatever stands in the stations that its module fills
pub place-fit : (m : List ℕ) (previous : ℕ) (x : ModuleLine) → FitCrate m → FitCrate (place_of m previous x).memory
unfolding place_of
place-fit m previous (Err q) f = f
place-fit m previous (Ok p) f = go (place_verdict m previous p) refl
  where
    go : (v : Verdict) → v ≡ place_verdict m previous p → FitCrate (judged_module_of v p m).memory
    go (Ok _) e = placed-fit m previous p (Ok tt) e (with_module m p) refl refl f
    go (Err q) e = f
