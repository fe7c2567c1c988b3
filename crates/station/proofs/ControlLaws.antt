-- Z and C keep a fit block fit and its module the same; a module just put in is fit, and so is a station that it covers.
-- Assumes nothing.
use Prim.Native.Nat.{ℕ, zero, suc, ◌+◌, ◌≤◌, ◌<◌}
use mathlib.Core.Path.{◌≡◌, refl, sym, ap, ◌∙◌}
use mathlib.Core.List.{List, [], ◌∷◌}
use native.Mathlib.Omega.{arith}
use native.Mathlib.Numerals.{add-one}
use lib.ListN.{get_or, replicate, get_or-replicate}
use lib.Seq.{get_or-append-add}
use lib.Pow.{pow_pos}
use Rattle.kinds.specs.Table.{in_table, FitModule}
use Rattle.kinds.specs.declared.Module.{Module}
use Rattle.kinds.proofs.TableLaws.{table-facts}
use Rattle.station.specs.Block.{count_of, sources_of, is_used, header_tests, is_fit_header, is_fit_spare, is_fit_register, fit_tests, is_fit_block, FitBlock}
use Rattle.station.specs.Outcome.{Outcome}
use Rattle.station.specs.Command.{command_of}
use Rattle.station.specs.Control.{initialized_of, cleared_below, cleared_of, module_of, covered_block}
use Rattle.station.specs.Kept.{Kept}
use Rattle.station.specs.declared.Reply.{Reply}
use Rattle.station.proofs.Fitness.{fit-facts}
use Rattle.station.proofs.KindTable.{block-sources-few, count-few}
use Rattle.station.proofs.BlockLaws.{kept_here, kept_then, kept-zeroed}
use Rattle.station.proofs.CommandLaws.{command-kept}

-- Z
pub initialized-kept : (b : List ℕ) → FitBlock b → Kept b (initialized_of b)
initialized-kept b f = kept-zeroed b 0 0 f (pow_pos (sources_of b)) (pow_pos (sources_of b))

-- C
pub cleared-below-kept : (k : ℕ) (b : List ℕ) → FitBlock b → k ≤ 16 → Kept b (cleared_below k b)
unfolding cleared_below
cleared-below-kept zero b f h = kept_here f
cleared-below-kept (suc k) b f h =
    let p = cleared-below-kept k b f (omega arith) in
    kept_then p (command-kept (cleared_below k b) p.fit k (omega arith) 9 0 (omega arith))

pub cleared-kept : (b : List ℕ) → FitBlock b → Kept b (cleared_of b)
cleared-kept b f = cleared-below-kept (count_of b) b f (count-few b f)

-- F9 at one A more, from what `command` ensures
pub cleared-none : (b : List ℕ) → b ≡ cleared_below 0 b
unfolding cleared_below
cleared-none b = refl

pub cleared_more : (b₀ b c : List ℕ) (a : ℕ) (r : Reply) → b ≡ cleared_below a b₀ → command_of b a 9 0 ≡ record { block = c; reply = r } → c ≡ cleared_below (a + 1) b₀
unfolding cleared_below
cleared_more b₀ b c a r e h =
    rw (add-one a) (sym (ap (λ (o : Outcome). o.block) h) ∙ ap (λ (x : List ℕ). (command_of x a 9 0).block) e)

-- a module just put in
module _ (p : Module) where
  module-zero : (j : ℕ) → j < 25 → get_or (module_of p) (7 + j) 0 ≡ 0
  module-zero j h = get_or-append-add (p.kind ∷ p.r ∷ 0 ∷ 0 ∷ 0 ∷ 0 ∷ p.wide ∷ []) (replicate 25 0) j 0 ∙ get_or-replicate 25 j 0 0 h

  pub module-fit : FitModule p → FitBlock (module_of p)
  module-fit f =
      let t = table-facts p.kind p.r p.wide f.table in
      record {
        long = refl;
        kind = t.0;
        least = t.1;
        most = t.2;
        status = pow_pos (sources_of (module_of p));
        mask = pow_pos (sources_of (module_of p));
        last_head = omega arith;
        most_fill = omega arith;
        least_width = t.3;
        most_width = t.4;
        most_covered = omega arith;
        spare = λ i h. let e : 8 + i ≡ 7 + (1 + i) = omega arith in rw e (module-zero (1 + i) (omega arith));
        register = λ i h. let e : 16 + i ≡ 7 + (9 + i) = omega arith in rw (e, module-zero (9 + i) (omega arith)) (omega arith);
        unused = λ i h u. let e : 16 + i ≡ 7 + (9 + i) = omega arith in rw e (module-zero (9 + i) (omega arith));
        sources = block-sources-few (module_of p) t.2;
        head = omega arith;
        fill = omega arith;
      }

-- an empty station that is covered
pub covered-fit : FitBlock covered_block
unfolding is_fit_block fit_tests is_fit_header header_tests in_table is_fit_spare is_fit_register is_used sources_of
covered-fit = fit-facts covered_block refl
