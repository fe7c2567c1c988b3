-- Laws of the table of kinds: the test as facts, bounds of its columns, and the width of a module.
-- Assumes nothing.
use Prim.Native.Nat.{ℕ, zero, suc, ◌+◌, ◌≤◌, ◌<◌}
use mathlib.Core.Path.{◌≡◌, refl}
use mathlib.Core.List.{List, [], ◌∷◌}
use mathlib.Core.Bool.{true}
use lib.ListN.{get_or}
use lib.Dec.{leb, ltb}
use mathlib.Core.Logic.{⊎_elim}
use native.Mathlib.Omega.{arith}
use borrow.Author.Tests.{ltb-true, leb-true, lt-ltb, le-leb}
use Rattle.kinds.specs.Table.{least_of, most_of, sources_with, last_head_of, most_fill_of, least_width_of, most_width_of, most_covered_of, in_table, FitModule}
use Rattle.kinds.specs.declared.Module.{Module}
use Rattle.kinds.proofs.TestLaws.{alike, all_true}

-- ---- the test as facts
pub table-facts : (kind r wide : ℕ) → in_table kind r wide ≡ true
    → (kind < 6) × (least_of kind ≤ r) × (r ≤ most_of kind) × (least_width_of kind ≤ wide) × (wide ≤ most_width_of kind)
unfolding in_table
table-facts kind r wide h =
    let t = all_true (ltb kind 6 ∷ leb (least_of kind) r ∷ leb r (most_of kind) ∷ leb (least_width_of kind) wide ∷ leb wide (most_width_of kind) ∷ []) h in
    (ltb-true _ _ t.0, leb-true _ _ t.1.0, leb-true _ _ t.1.1.0, leb-true _ _ t.1.1.1.0, leb-true _ _ t.1.1.1.1.0)

pub facts-table : (kind r wide : ℕ) → kind < 6 → least_of kind ≤ r → r ≤ most_of kind → least_width_of kind ≤ wide → wide ≤ most_width_of kind → in_table kind r wide ≡ true
unfolding in_table
facts-table kind r wide k least most least_width most_width = simp (lt-ltb _ _ k, le-leb _ _ least, le-leb _ _ most, le-leb _ _ least_width, le-leb _ _ most_width)

-- ---- bounds of a column
abbrev AtMost : ℕ → List ℕ → Type 0
AtMost m [] = Unit
AtMost m (x ∷ xs) = (x ≤ m) × AtMost m xs

-- where each entry is at most m, so is the entry of any kind
column-most : (m : ℕ) (xs : List ℕ) → AtMost m xs → (kind : ℕ) → get_or xs kind 0 ≤ m
column-most m [] h kind = omega arith
column-most m (x ∷ xs) h zero = h.0
column-most m (x ∷ xs) h (suc kind) = column-most m xs h.1 kind

pub most-few : (kind : ℕ) → most_of kind ≤ 16
most-few = column-most 16 (0 ∷ 16 ∷ 16 ∷ 16 ∷ 1 ∷ 16 ∷ []) (omega arith, (omega arith, (omega arith, (omega arith, (omega arith, (omega arith, tt))))))

pub head_few : (kind : ℕ) → last_head_of kind ≤ 15
head_few = column-most 15 (0 ∷ 0 ∷ 0 ∷ 0 ∷ 15 ∷ 0 ∷ []) (omega arith, (omega arith, (omega arith, (omega arith, (omega arith, (omega arith, tt))))))

pub fill-few : (kind : ℕ) → most_fill_of kind ≤ 16
fill-few = column-most 16 (0 ∷ 0 ∷ 0 ∷ 0 ∷ 16 ∷ 0 ∷ []) (omega arith, (omega arith, (omega arith, (omega arith, (omega arith, (omega arith, tt))))))

width_few : (kind : ℕ) → most_width_of kind ≤ 2
width_few = column-most 2 (0 ∷ 2 ∷ 2 ∷ 2 ∷ 2 ∷ 2 ∷ []) (omega arith, (omega arith, (omega arith, (omega arith, (omega arith, (omega arith, tt))))))

pub sources-few : (kind r : ℕ) → r ≤ most_of kind → sources_with kind r ≤ 16
sources-few kind r h =
    let few : r ≤ 16 = omega (arith, most-few kind) in
    column-most 16 (0 ∷ r ∷ 0 ∷ r ∷ 2 ∷ r ∷ []) (omega arith, (few, (omega arith, (few, (omega arith, (few, tt)))))) kind

-- ---- the width of a module is 1 or 2
width_some : (kind : ℕ) → 1 ≤ kind → kind < 6 → 1 ≤ least_width_of kind
width_some zero l h = absurd (omega arith)
width_some (suc zero) l h = omega arith
width_some (suc (suc zero)) l h = omega arith
width_some (suc (suc (suc zero))) l h = omega arith
width_some (suc (suc (suc (suc zero)))) l h = omega arith
width_some (suc (suc (suc (suc (suc zero))))) l h = omega arith
width_some (suc (suc (suc (suc (suc (suc kind)))))) l h = absurd (omega arith)

pub module-width : (p : Module) → FitModule p → (1 ≤ p.wide) × (p.wide ≤ 2)
module-width p f =
    let t = table-facts p.kind p.r p.wide f.table in
    (omega (arith, t.3, width_some p.kind f.kind t.0), omega (arith, t.4, width_few p.kind))

-- and all stations that it fills are of the crate
pub module-room : (p : Module) → FitModule p → p.n + p.wide ≤ 24
module-room p f =
    ⊎_elim
    (λ (two : p.wide ≡ 2). omega (arith, f.room two))
    (λ (d : p.wide ≡ 2 → ⊥). omega (arith, f.last, (module-width p f).1))
    (alike p.wide 2)

-- ---- only an empty station may be covered
pub covered-kind : (kind : ℕ) → 1 ≤ most_covered_of kind → kind ≡ 0
covered-kind zero h = refl
covered-kind (suc zero) h = absurd (omega arith)
covered-kind (suc (suc zero)) h = absurd (omega arith)
covered-kind (suc (suc (suc zero))) h = absurd (omega arith)
covered-kind (suc (suc (suc (suc zero)))) h = absurd (omega arith)
covered-kind (suc (suc (suc (suc (suc zero))))) h = absurd (omega arith)
covered-kind (suc (suc (suc (suc (suc (suc kind)))))) h = absurd (omega arith)
