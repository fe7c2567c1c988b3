-- A crate line on a memory that is not fit, and on one that is.
-- Assumes nothing.
use Prim.Native.Nat.{ℕ}
use mathlib.Core.Path.{◌≡◌, sym, ap}
use mathlib.Core.Bool.{true, false}
use mathlib.Core.List.{List}
use Rattle.dataway.specs.Crate.{is_fit_crate, FitCrate}
use Rattle.dataway.proofs.CrateLaws.{facts-crate}
use Rattle.step.specs.Refusals.{verdict_number}
use Rattle.step.specs.declared.Refusal.{Refusal}
use Rattle.step.specs.declared.Refusal.TheVariants.{UnfitCrate}
use Rattle.controller.specs.Placing.{Installed, uninstalled, place_of}
use Rattle.controller.proofs.PlacingLaws.{place-fit}
use Rattle.rehearsal.specs.Modules.{install_of}
use Rattle.std.specs.Prelude.{Err}
use Rattle.step.specs.Results.{ModuleLine, Verdict}

module _ (m : List ℕ) (previous : ℕ) where
  pub install-unfit : (l : ModuleLine) → is_fit_crate m ≡ false → install_of m previous l ≡ uninstalled UnfitCrate m
  unfolding install_of
  install-unfit l t = rw t

  pub install-fit : (l k : ModuleLine) (i : Installed) → is_fit_crate m ≡ true → l ≡ k → place_of m previous k ≡ i → install_of m previous l ≡ i
  unfolding install_of
  install-fit l k i t e h = rw (t, e) h

  pub install-bad : (l : ModuleLine) (q : Refusal) → is_fit_crate m ≡ true → l ≡ Err q → install_of m previous l ≡ uninstalled q m
  unfolding install_of place_of
  install-bad l q t e = rw (t, e)

  -- the verdict on a crate line, told by its number as well
  pub install-numbered : (l : ModuleLine) (v : Verdict) (m' : List ℕ) → install_of m previous l ≡ record { verdict = v; memory = m' }
      → (install_of m previous l ≡ record { verdict = v; memory = m' }) × (verdict_number v ≡ verdict_number (install_of m previous l).verdict)
  install-numbered l v m' e = (e, ap (λ (i : Installed). verdict_number i.verdict) (sym e))

  -- a fit crate stays fit
  pub install-stays : (l : ModuleLine) → FitCrate m → FitCrate (install_of m previous l).memory
  unfolding install_of
  install-stays l f = rw (facts-crate m f) (place-fit m previous l f)
