-- A crate line (RULES 6.19, 7.11, 7.23): the memory with its module in it, or its refusal. First 9, then 1, 2, 11, 12, 10; a refusal changes nothing.
use Rattle.std.specs.Prelude.{ℕ, cond, List}
use Rattle.dataway.specs.Crate.{is_fit_crate}
use Rattle.step.specs.declared.Refusal.TheVariants.{UnfitCrate}
use Rattle.controller.specs.Placing.{Installed, uninstalled, place_of}
use Rattle.step.specs.Results.{ModuleLine}

-- a crate line on any memory: first 9
unfoldable pub install_of : List ℕ → (previous : ℕ) → ModuleLine → Installed
install_of m previous l = cond (is_fit_crate m) (place_of m previous l) (uninstalled UnfitCrate m)
