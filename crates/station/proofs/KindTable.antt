-- What the table of kinds says of a block: of its r, of its sources, and which kinds have a register A.
-- Assumes nothing.
use Prim.Native.Nat.{ℕ, zero, suc, ◌≤◌, ◌<◌}
use mathlib.Core.Path.{◌≡◌, refl}
use mathlib.Core.List.{List}
use mathlib.Core.Bool.{true}
use native.Mathlib.Omega.{arith}
use Rattle.kinds.specs.Cases.{is_one_of}
use Rattle.kinds.specs.Table.{most_of, sources_with}
use Rattle.kinds.proofs.TableLaws.{most-few, sources-few}
use Rattle.station.specs.Block.{kind_of, count_of, sources_of, FitBlock}
use Rattle.station.specs.Group1.{register_kinds}

-- ---- bounds of a block's r and sources
pub block-sources-few : (b : List ℕ) → count_of b ≤ most_of (kind_of b) → sources_of b ≤ 16
unfolding sources_of
block-sources-few b h = sources-few (kind_of b) (count_of b) h

pub count-few : (b : List ℕ) → FitBlock b → count_of b ≤ 16
count-few b f = omega (arith, f.most, most-few (kind_of b))

-- ---- the sources of a block whose kind is known
pub sources-at : (b : List ℕ) (kind : ℕ) → kind_of b ≡ kind → sources_of b ≡ sources_with kind (count_of b)
unfolding sources_of
sources-at b kind e = rw e

-- ---- the kinds that have a register A
-- a module with a register A that is no buffer memory is of one of the four kinds
register_of_lem : (kind r a : ℕ) → kind < 6 → r ≤ most_of kind → (kind ≡ 4 → ⊥) → a < r → is_one_of kind register_kinds ≡ true
register_of_lem zero r a k m n l = absurd (omega arith)
register_of_lem (suc zero) r a k m n l = refl
register_of_lem (suc (suc zero)) r a k m n l = refl
register_of_lem (suc (suc (suc zero))) r a k m n l = refl
register_of_lem (suc (suc (suc (suc zero)))) r a k m n l = absurd (n refl)
register_of_lem (suc (suc (suc (suc (suc zero))))) r a k m n l = refl
register_of_lem (suc (suc (suc (suc (suc (suc kind)))))) r a k m n l = absurd (omega arith)

pub register-kind : (b : List ℕ) (a : ℕ) → FitBlock b → (kind_of b ≡ 4 → ⊥) → a < count_of b → is_one_of (kind_of b) register_kinds ≡ true
register-kind b a f n l = register_of_lem (kind_of b) (count_of b) a f.kind f.most n l
