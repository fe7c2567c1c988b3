-- The lines of a crate file: `read_module` gives a module exactly on the module's text, `reads-module` and `reads-module-only` say so of its
-- every answer, and a line over 80 bytes is garbled.
use Prim.Native.Nat.{ℕ, ◌≤◌, ◌<◌}
use mathlib.Core.Path.{◌≡◌, refl, sym, ◌∙◌, ap, subst⁻¹}
use mathlib.Core.List.{List}
use native.Mathlib.Omega.{arith}
use lib.ListN.{length, length-append}
use Rattle.text.specs.Text.{bytes}
use Rattle.text.proofs.Decimal.{length-eight}
use Rattle.kinds.specs.declared.Module.{Module}
use Rattle.step.specs.declared.Refusal.TheVariants.{Garbled}
use Rattle.runfile.specs.Lines.{module_text, ModuleFits, IsModuleText, ReadsModule}
use Rattle.runfile.specs.Read.{read_field, read_module}
use Rattle.runfile.proofs.Numbers.{read_number}
use Rattle.runfile.proofs.RunLines.{bad-good, and-then, and-ended, OnlyGarbled, only-ended, only_then}
use Rattle.std.specs.Prelude.{Ok, Err}
use Rattle.step.specs.Results.{ModuleLine}

-- whatever is read as a module is the module's text
pub module-is-text : (l : List ℕ) (p : Module) → read_module l ≡ Ok p → IsModuleText l p
unfolding read_module module_text
module-is-text l p =
    and-then (bytes "n=") l _ p λ n r₁ hl hn.
    and-then (bytes " kind=") r₁ _ p λ kind r₂ h₁ hk.
    and-then (bytes " r=") r₂ _ p λ r r₃ h₂ hr.
    and-then (bytes " wide=") r₃ _ p λ wide r₄ h₃ hw.
    and-ended (IsModuleText l) r₄ (record { n = n; kind = kind; r = r; wide = wide }) p λ hz.
    (rw (h₁, h₂, h₃, hz) at hl, (hn, hk, hr, hw))

-- the text of a module is read as the module
pub text-is-module : (p : Module) → ModuleFits p → read_module (module_text p) ≡ Ok p
unfolding read_module module_text
text-is-module p h = rw (read_number p.n _ h.0, read_number p.kind _ h.1, read_number p.r _ h.2, read_number p.wide _ h.3)

only-garbled : (l : List ℕ) → OnlyGarbled (read_module l)
unfolding read_module
only-garbled l =
    only_then (read_field (bytes "n=") l) _ λ n r₁.
    only_then (read_field (bytes " kind=") r₁) _ λ kind r₂.
    only_then (read_field (bytes " r=") r₂) _ λ r r₃.
    only_then (read_field (bytes " wide=") r₃) _ λ wide r₄.
    only-ended r₄ (record { n = n; kind = kind; r = r; wide = wide })

pub reads-module : (l : List ℕ) → ReadsModule l (read_module l)
reads-module l = go (read_module l) refl (only-garbled l)
  where
    go : (r : ModuleLine) → read_module l ≡ r → OnlyGarbled r → ReadsModule l r
    go (Ok p) e o = module-is-text l p e
    go (Err q) e o = (o, λ p h. bad-good (sym e ∙ (ap read_module h.0 ∙ text-is-module p h.1)))

pub reads-module-of : (l : List ℕ) (r : ModuleLine) → r ≡ read_module l → ReadsModule l r
reads-module-of l r e = subst⁻¹ (ReadsModule l) e (reads-module l)

-- and it is the only reading that says so
pub reads-module-only : (l : List ℕ) (r : ModuleLine) → ReadsModule l r → r ≡ read_module l
reads-module-only l (Ok p) h = sym (ap read_module h.0 ∙ text-is-module p h.1)
reads-module-only l (Err q) h = go (read_module l) refl (reads-module l)
  where
    go : (r : ModuleLine) → read_module l ≡ r → ReadsModule l r → Err q ≡ read_module l
    go (Ok p) e o = absurd (h.1 p o)
    go (Err q') e o = ap Err (h.0 ∙ sym o.0) ∙ sym e

-- a line in form has 49 bytes at most
pub longest-module : (p : Module) → ModuleFits p → length (module_text p) ≤ 49
unfolding module_text
longest-module p h =
    simp length-append
    (omega (arith, length-eight p.n h.0, length-eight p.kind h.1, length-eight p.r h.2, length-eight p.wide h.3))

pub short-module : (p : Module) → ModuleFits p → length (module_text p) ≤ 80
short-module p h = omega (arith, longest-module p h)

pub long-module-is-garbled : (l : List ℕ) → 80 < length l → read_module l ≡ Err Garbled
long-module-is-garbled l h =
    sym (reads-module-only l (Err Garbled) (refl, λ p t. omega (arith, short-module p t.1, ap length t.0)))
