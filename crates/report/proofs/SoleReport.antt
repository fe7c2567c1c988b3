-- Of two lists there is one report only: a watch parts in one way, so the lines are told by the lists.
-- Assumes nothing.
use Prim.Native.Nat.{ℕ, suc}
use mathlib.Core.Path.{◌≡◌, refl, sym, ap, subst, ◌∙◌}
use mathlib.Core.List.{List, [], ◌∷◌}
use native.Mathlib.Omega.{arith}
use lib.ListN.{length}
use Rattle.verdict.proofs.Sole.{sole, sole-watched, sole-stands}
use Rattle.verdict.specs.Counted.{count}
use Rattle.verdict.specs.declared.Parted.{Parted}
use Rattle.report.specs.Report.{at_lines, line_of, PartingOf, PartsAs, EachParts, Report}
use Rattle.report.specs.declared.Parting.{Parting}
use Rattle.std.specs.Prelude.{Option, None, Some}

module _ (us ws : List ℕ) where
  sole-parting : (v : Option Parted) (x y : Option Parting) → PartingOf us ws v x → PartingOf us ws v y → x ≡ y
  sole-parting None x y p q = p ∙ sym q
  sole-parting (Some d) x y p q =
      let e = sole-stands us d.first ws d.second p.0 q.0 p.1 q.1 in
      p.2 ∙ ap (λ (s : ℕ). at_lines (line_of d.first (count us)) (line_of d.second (count ws)) (line_of s (count ws))) e ∙ sym q.2

  pub sole-parts : (k : ℕ) (x y : Option Parting) → PartsAs us ws k x → PartsAs us ws k y → x ≡ y
  sole-parts k x y p q =
      let e = sole-watched us ws k p.0 q.0 p.1 q.1 in
      sole-parting q.0 x y (subst (λ (v : Option Parted). PartingOf us ws v x) e p.2) q.2

  sole-each : (k : ℕ) (xs ys : List (Option Parting)) → length xs ≡ length ys → EachParts us ws k xs → EachParts us ws k ys → xs ≡ ys
  unfolding EachParts
  sole-each k [] [] e p q = refl
  sole-each k [] (y ∷ ys) e p q = absurd (omega (arith, e))
  sole-each k (x ∷ xs) [] e p q = absurd (omega (arith, e))
  sole-each k (x ∷ xs) (y ∷ ys) e p q = rw (sole-parts k x y p.0 q.0, sole-each (suc k) xs ys (omega (arith, e)) p.1 q.1)

  pub sole-report : (t u : List ℕ) → Report us ws t → Report us ws u → t ≡ u
  sole-report t u a b =
      let s = sole-each 1 a.stations b.stations (a.all-stations.0 ∙ sym b.all-stations.0) a.all-stations.1 b.all-stations.1 in
      let r = sole-each 24 a.refused b.refused (a.all-refused.0 ∙ sym b.all-refused.0) a.all-refused.1 b.all-refused.1 in
      let v = sole us ws a.verdict b.verdict a.compared b.compared in
      a.printed ∙ rw (s, r, v) (sym b.printed)
